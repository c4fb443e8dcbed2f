-- Amounts and element types at a place, as the code decides them.
use Rattle.std.specs.Prelude.{Ok, Err, Result}
use mathlib.Core.Path.{◌≡◌, refl, sym, ap, subst, ◌∙◌}
use mathlib.Core.Bool.{Bool, true, false, ◌&&◌}
use mathlib.Core.List.{List}
use Prim.Native.Nat.{ℕ, ◌^◌, ◌<◌}
use lib.IntN.{ℤ, negsuc}
use lib.Signed.{mag, lt_z, non_neg}
use mir.Syntax.{w32}
use mir.Val.{to_z, of_z}
use Rattle.integer.proofs.Signs.{held}
use Rattle.reading.specs.declared.Refusal.{Refusal}
use Rattle.reading.specs.Reading.{Env, State, Out, Reader, got, stop, refusal, stand, follow, ◌>>=◌, return, require, here}
use Rattle.integer.specs.declared.Signed.{Signed}
use Rattle.integer.specs.declared.Signed.TheVariants.{Positive, Negative}
use Rattle.integer.specs.Packed.{wide32}
use Rattle.integer.specs.Answers.{out, signed, PastSigned, ReadsSigned, Past, Reads}
use Rattle.format.specs.Types.{amount, kind_of}
use Rattle.format.specs.Data.{number, element}
use Rattle.decide.specs.declared.Class.{Class}
use Rattle.decide.specs.Classes.{may_be_element, elementary, ClassOf}
use Rattle.decide.proofs.Table.{clash}
use Rattle.decide.specs.Elements.{AmountAt, ElementAt}

module _ {o : List ℕ} {at : ℕ} {x : Result (ℕ × Signed) Refusal} (reads : ReadsSigned o at x) where
  -- ---- an amount, by the integer that was read

  by-amount : (e : Env) → number amount (stand o at e) ≡ follow (out signed o e x) (λ z. require (non_neg z) 5 at >>= λ _. return z)
  unfolding number ◌>>=◌ here stand
  by-amount e = ap (λ (y : Out ℤ). follow y (λ z. require (non_neg z) 5 at >>= λ _. return z)) (sym (reads.same e))

  pub amount-positive : {next n : ℕ} → x ≡ Ok (next, Positive n) → AmountAt o at (Ok (next, n))
  unfolding ◌>>=◌ require return
  amount-positive h = record { same = λ e. sym (by-amount e ∙ rw h); past = subst (PastSigned o at) h reads.past }

  pub amount-negative : {next n : ℕ} → x ≡ Ok (next, Negative n) → AmountAt o at (Err (refusal 5 at))
  unfolding ◌>>=◌ require
  amount-negative h = record { same = λ e. sym (by-amount e ∙ rw h); past = tt }

  pub amount-faulty : {r : Refusal} → x ≡ Err r → AmountAt o at (Err r)
  amount-faulty h = record { same = λ e. sym (by-amount e ∙ rw h); past = tt }

-- ---- an element type

module _ (at : ℕ) where
  tests : ℤ → Reader ℤ
  tests t = require (kind_of t).carried 4 at >>= λ _. require (lt_z (negsuc 30) t) 4 at >>= λ _. return t

  passes : (t : ℤ) (s : State) → elementary t ≡ true → tests t s ≡ got t s
  unfolding tests ◌>>=◌ require return
  passes t s e = by (kind_of t).carried (lt_z (negsuc 30) t) e
    where
      by : (a b : Bool) → a && b ≡ true → (require a 4 at >>= λ _. require b 4 at >>= λ _. return t) s ≡ got t s
      by true true e = refl
      by true false e = clash e refl
      by false b e = clash e refl

  fails : (t : ℤ) (s : State) → elementary t ≡ false → tests t s ≡ stop (refusal 4 at)
  unfolding tests ◌>>=◌ require return
  fails t s e = by (kind_of t).carried (lt_z (negsuc 30) t) e
    where
      by : (a b : Bool) → a && b ≡ false → (require a 4 at >>= λ _. require b 4 at >>= λ _. return t) s ≡ stop (refusal 4 at)
      by true true e = clash refl e
      by true false e = refl
      by false b e = refl

module _ {o : List ℕ} {at : ℕ} {x : Result (ℕ × ℤ) Refusal} (reads : Reads (λ z. z) wide32 o at x) where
  by-type : (e : Env) → element true (stand o at e) ≡ follow (out (λ z. z) o e x) (tests at)
  unfolding element ◌>>=◌ here stand tests
  by-type e = ap (λ (y : Out ℤ). follow y (λ t. require (kind_of t).carried 4 at >>= λ _. require (lt_z (negsuc 30) t) 4 at >>= λ _. return t)) (sym (reads.same e))

  pub type-faulty : {r : Refusal} → x ≡ Err r → ElementAt o at (Err r)
  type-faulty h = record { is = λ e. by-type e ∙ rw h }

  module _ {next : ℕ} {z : ℤ} {c : Class} (h : x ≡ Ok (next, z)) (f : mag z < 2 ^ 31) (k : ClassOf (to_z w32 (of_z w32 z)) c) where
    element-as : may_be_element c ≡ elementary z
    element-as = k.element ∙ ap elementary (held {w = w32} (record { sfits = f }))

    pub type-some : may_be_element c ≡ true → ElementAt o at (Ok (next, to_z w32 (of_z w32 z)))
    type-some s =
        let q = subst (Past o at) h reads.past in let m : elementary z ≡ true = sym element-as ∙ s in
        rw (held {w = w32} {z = z} (record { sfits = f })) record { is = (m, q.0, q.1, λ e. by-type e ∙ rw h (passes at z (stand o next e) m)) }

    pub type-none : may_be_element c ≡ false → ElementAt o at (Err (refusal 4 at))
    type-none s = record { is = λ e. by-type e ∙ rw h (fails at z (stand o next e) (sym element-as ∙ s)) }
