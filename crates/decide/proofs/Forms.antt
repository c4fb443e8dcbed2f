-- How values stand, as the code decides it.
use Rattle.std.specs.Prelude.{Result, Ok, Err}
use mathlib.Core.Path.{◌≡◌, refl, sym, subst, ◌∙◌}
use mathlib.Core.Bool.{Bool, true, false, cond}
use mathlib.Core.List.{List, [], ◌∷◌}
use Prim.Native.Nat.{ℕ, suc, ◌%◌, ◌^◌, ◌<◌, ◌≤◌}
use native.Mathlib.Omega.{arith}
use lib.ListN.{length}
use lib.Dec.{eqb, lit<}
use lib.IntN.{ℤ, pos}
use lib.Signed.{mag}
use borrow.Author.Tests.{eqb-true, eqb-false}
use types.Run.{OneOf, miss}
use denote.Enum.Declared.{tag_of}
use mir.Syntax.{w32}
use mir.Val.{SFits, to_z, of_z}
use Rattle.reading.specs.declared.Refusal.{Refusal}
use Rattle.reading.specs.Reading.{return}
use Rattle.integer.specs.Packed.{wide32}
use Rattle.integer.specs.Answers.{Reads}
use Rattle.integer.proofs.Signs.{held}
use Rattle.format.specs.Data.{element}
use Rattle.decide.specs.declared.Form.{Form}
use Rattle.decide.specs.declared.Form.TheVariants.{Whole, Named, Bare, Sized, Packed}
use Rattle.decide.specs.contracts.Form as F
use Rattle.decide.specs.Elements.{ElementIs, ElementAt, TypeIs, TypeAt}
use Rattle.scalar.specs.declared.Bits.{Bits}
use Rattle.decide.specs.declared.Class.{Class}
use Rattle.decide.specs.declared.Class.TheVariants.{Int, Fixed}
use Rattle.decide.specs.Classes.{Is, ClassOf}
use Rattle.decide.specs.Forms.{says, known, IdentifierIs, PastTyped, TypedAt, HasClass, ClassAt, ClassIn, turn}

-- ---- an element type, where one stands

pub type-off : {o : List ℕ} {on : Bool} {at : ℕ} → on ≡ false → at ≤ length o → TypeAt o on at (Ok (at, pos 0))
unfolding element return
type-off e h = rw e record { is = (tt, omega arith, h, λ _. refl) }

pub type-on : {o : List ℕ} {on : Bool} {at : ℕ} {x : Result (ℕ × ℤ) Refusal} → on ≡ true → ElementAt o at x → TypeAt o on at x
type-on {o} {on} {at} {x} e h = rw e record { is = by x h.is }
  where
    by : (y : Result (ℕ × ℤ) Refusal) → ElementIs o at y → TypeIs o true at y
    by (Ok (next, t)) p = (p.0, omega arith, p.2, p.3)
    by (Err r) p = p

-- ---- the type of a value

identifier-read : {o : List ℕ} {at : ℕ} (x : Result (ℕ × ℤ) Refusal) → Reads (λ z. z) wide32 o at x → IdentifierIs o at x
identifier-read (Ok (from, t)) reads = (reads.past.0, reads.past.1, λ e. sym (reads.same e))
identifier-read (Err r) reads = λ e. sym (reads.same e)

past-identifier : (o : List ℕ) (at : ℕ) (x : Result (ℕ × ℤ) Refusal) → IdentifierIs o at x → PastTyped o at x
past-identifier o at (Ok (from, t)) p = (omega arith, p.1)
past-identifier o at (Err r) p = tt

-- a form that isn't bare, by the positions in `Form`
abbrev not-bare : List ℕ
not-bare = 0 ∷ 1 ∷ []

pub typed-else : {o : List ℕ} {at : ℕ} {x : Result (ℕ × ℤ) Refusal} (form : Form) → OneOf not-bare (tag_of F.the_type form) → Reads (λ z. z) wide32 o at x → TypedAt o form at x
typed-else {o} {at} {x} Whole h i = let is = identifier-read x i in record { is = is; past = past-identifier o at x is }
typed-else {o} {at} {x} Named h i = let is = identifier-read x i in record { is = is; past = past-identifier o at x is }
typed-else (Bare t) h i = absurd (miss not-bare 2 tt h)
typed-else (Sized n t) h i = absurd (miss not-bare 3 tt h)
typed-else (Packed b t) h i = absurd (miss not-bare 4 tt h)

pub typed-bare : {o : List ℕ} {form : Form} {at : ℕ} {t : ℤ} → says form ≡ known t → mag t < 2 ^ 31 → at ≤ length o → TypedAt o form at (Ok (at, to_z w32 (of_z w32 t)))
typed-bare {t = t} e f h = record { is = rw (e, held {w = w32} {z = t} (record { sfits = f })) (refl, refl); past = (omega arith, h) }

-- ---- the class of a value

has-class : {t : ℤ} {c : Class} → ClassOf t c → HasClass t c
has-class k = record { is = k.is; least = λ e. k.least (k.element ∙ e) }

module _ {o : List ℕ} {form : Form} {at : ℕ} where
  pub class-typed : {x : Result (ℕ × ℤ) Refusal} {from : ℕ} {t : ℤ} {c : Class} → TypedAt o form at x → x ≡ Ok (from, t) → mag t < 2 ^ 31 → ClassOf (to_z w32 (of_z w32 t)) c → ClassAt o form at (Ok (from, c))
  class-typed {t = t} {c = c} typed e f k = record { is = (t, subst (TypedAt o form at) e typed, λ _. has-class (subst (λ (z : ℤ). ClassOf z c) (held {w = w32} {z = t} (record { sfits = f })) k)) }

  pub class-untyped : {x : Result (ℕ × ℤ) Refusal} {r : Refusal} → TypedAt o form at x → x ≡ Err r → ClassAt o form at (Err r)
  class-untyped typed e = record { is = subst (TypedAt o form at) e typed }

  pub class-sized : {n : ℕ} {t : ℤ} → form ≡ Sized n t → at ≤ length o → ClassAt o form at (Ok (at, Fixed n))
  class-sized {t = t} e h = rw e record { is = (t, record { is = (refl, refl); past = (omega arith, h) }, λ s. record { is = s.0; least = λ _. s.1 }) }

  pub class-packed : {b : Bits} {t : ℤ} → form ≡ Packed b t → at ≤ length o → ClassAt o form at (Ok (at, Int b))
  class-packed {t = t} e h = rw e record { is = (t, record { is = (refl, refl); past = (omega arith, h) }, λ s. record { is = s; least = λ _. lit< tt }) }

-- by the form alone, and by the type
pub packed-in : {form : Form} {t a : ℤ} {b : Bits} → form ≡ Packed b a → ClassIn form t (Int b)
packed-in {t = t} {b = b} e = rw e record { is = λ s o. subst (Is (Int b)) o s; sized = λ n q. let z : ◌≡◌ {A = ℕ} 0 1 = cc in absurd (omega arith) }

pub class-in : {form : Form} {t : ℤ} {c : Class} → SFits w32 t → ClassOf (to_z w32 (of_z w32 t)) c → ClassIn form t c
class-in {t = t} {c = c} f k = let i = subst (Is c) (held f) k.is in record { is = λ _ _. i; sized = λ n q. subst (λ (x : Class). Is x t) q i }

-- ---- by turns

pub turn-next : {A : Type 0} (f g : A) (i : ℕ) → turn f g (suc i) ≡ turn g f i
turn-next {A} f g i = by (eqb (i % 2) 0) refl
  where
    by : (b : Bool) → eqb (i % 2) 0 ≡ b → turn f g (suc i) ≡ turn g f i
    by true e = let z = eqb-true (i % 2) 0 e in let o : suc i % 2 ≡ 1 = omega arith in rw (o, z)
    by false e = let z = eqb-false (i % 2) 0 e in let n : i % 2 ≡ 1 = omega arith in let o : suc i % 2 ≡ 0 = omega arith in rw (o, n)

pub turn-same : {A : Type 0} (f : A) (i : ℕ) → turn f f i ≡ f
turn-same {A} f i = by (eqb (i % 2) 0)
  where
    by : (b : Bool) → cond b f f ≡ f
    by true = refl
    by false = refl
