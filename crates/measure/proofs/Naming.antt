-- Identities and references, as the code finds them.
use mathlib.Core.Path.{◌≡◌, refl, sym, ap, subst, ◌∙◌}
use mathlib.Core.Bool.{Bool, true, false, not}
use mathlib.Core.List.{List}
use Prim.Native.Nat.{ℕ, suc, ◌<◌, ◌≤◌}
use native.Mathlib.Omega.{arith}
use lib.Dec.{ltb}
use lib.IntN.{ℤ, pos}
use lib.Signed.{mag}
use borrow.Author.Tests.{lt-ltb, le-ltb}
use Rattle.std.specs.Prelude.{Result, Ok, Err}
use Rattle.reading.specs.declared.Refusal.{Refusal}
use Rattle.reading.specs.Reading.{Out, refusal, Reader, stand, follow, ◌>>=◌, return, require, names}
use Rattle.format.specs.Types.{gives, refers, nothing, one, Kind, container, kind_of}
use Rattle.format.specs.Values.{whole, counted, may, has, most_identities, allow, data_of}
use Rattle.decide.specs.declared.Class.TheVariants.{Identity, Reference}
use Rattle.decide.specs.declared.Form.TheVariants.{Named}
use Rattle.decide.specs.declared.Nest.{Nest}
use Rattle.decide.specs.Forms.{alike_nest}
use Rattle.decide.specs.Elements.{amount_out, PastAmount, AmountAt}
use Rattle.measure.specs.declared.identities.Identities.{Identities}
use Rattle.measure.specs.declared.Plan.TheVariants.{Single, Inner as Nested}
use Rattle.measure.specs.Identities.{listed, env_of}
use Rattle.measure.specs.Tally.{single, value_rows, inside}
use Rattle.measure.specs.Plans.{judged, DataPlan, named_contents}
use Rattle.measure.proofs.Ids.{listed-length}
use Rattle.measure.proofs.Data.{identity-rows, reference-rows}
use Rattle.measure.proofs.Plans.{judged-yes, judged-twice}

carried_of : (t : ℤ) {k : Kind} → kind_of t ≡ k → k.carried ≡ true → (kind_of t).carried ≡ true
carried_of t e c = ap (λ (k : Kind). k.carried) e ∙ c

may-refers : (once : Bool) → may once refers ≡ true
may-refers true = refl
may-refers false = refl

-- what follows the number, which stands at a place
tail : ℕ → ℕ → ℤ → Reader ℕ
tail at lv n = names >>= λ y. allow gives (mag n) at y >>= λ _. inside (data_of lv) gives (mag n) (counted false (whole true) (whole true) 1 0) 1

asks : ℕ → ℤ → Reader ℕ
asks at n = names >>= λ y. allow refers (mag n) at y >>= λ _. single

module _ (o : List ℕ) (l : Identities) (at p : ℕ) where
  pub identity-twice : {once : Bool} → once ≡ true → DataPlan o l Identity once at p (Err (refusal 9 p))
  identity-twice e = record { plan = λ t own i lv. judged-twice (data_of (suc lv)) _ t own p (stand o at (env_of l)) (carried_of t i refl) (rw e (ap (λ (k : Kind). may true k.names) i)) }

  module _ {once : Bool} (off : once ≡ false) {a : Result (ℕ × ℕ) Refusal} (h : AmountAt o at a) where
    by_number : (t : ℤ) (own lv : ℕ) → kind_of t ≡ container false false one gives
        → value_rows (judged (data_of (suc lv)) once t own p) (stand o at (env_of l)) ≡ follow (amount_out o (env_of l) a) (tail at lv)
    unfolding tail ◌>>=◌ stand
    by_number t own lv i =
        judged-yes (data_of (suc lv)) once t own p (stand o at (env_of l)) (carried_of t i refl) (rw off)
        ∙ identity-rows lv t own p (stand o at (env_of l)) i
        ∙ ap (λ (x : Out ℤ). follow x (tail at lv)) (sym (h.same (env_of l)))

    pub identity-none : {r : Refusal} → a ≡ Err r → DataPlan o l Identity once at p (Err r)
    identity-none e = record { plan = λ t own i lv. by_number t own lv i ∙ rw e }

    tests : (lv n next : ℕ) (b c : Bool) → has n (listed l.given l.given_count) ≡ b → ltb l.given_count most_identities ≡ c
        → tail at lv (pos n) (stand o next (env_of l)) ≡ ((require (not b) 9 at >>= λ _. require c 9 at) >>= λ _. inside (data_of lv) gives n (counted false (whole true) (whole true) 1 0) 1) (stand o next (env_of l))
    unfolding tail allow ◌>>=◌ names stand env_of
    tests lv n next b c e f = rw (listed-length l.given l.given_count, e, f)

    pub identity-known : {next n : ℕ} → a ≡ Ok (next, n) → has n (listed l.given l.given_count) ≡ true → DataPlan o l Identity once at p (Err (refusal 9 at))
    unfolding ◌>>=◌ require
    identity-known {next} {n} e f = record { plan = λ t own i lv. by_number t own lv i ∙ rw e (tests lv n next true (ltb l.given_count most_identities) f refl) }

    pub identity-full : {next n : ℕ} → a ≡ Ok (next, n) → has n (listed l.given l.given_count) ≡ false → 64 ≤ l.given_count → DataPlan o l Identity once at p (Err (refusal 9 at))
    unfolding ◌>>=◌ require
    identity-full {next} {n} e f g = record { plan = λ t own i lv. by_number t own lv i ∙ rw e (tests lv n next false false f (le-ltb l.given_count 64 g)) }

    pub identity-new : {next n : ℕ} → a ≡ Ok (next, n) → has n (listed l.given l.given_count) ≡ false → l.given_count < 64 → {k : Nest} → k ≡ alike_nest Named 1 false → DataPlan o l Identity once at p (Ok (Nested (named_contents k n next)))
    unfolding ◌>>=◌ require
    identity-new {next} {n} e f g z = let q = subst (PastAmount o at) e h.past in rw z record {
      plan = λ t own i. record {
        form-is = whole true;
        other_is = whole true;
        form_stands = record { means = (refl, refl); sound = tt };
        other_stands = record { means = (refl, refl); sound = tt };
        one_form = tt;
        few = omega arith;
        by_position = refl;
        further = omega (arith, q.0);
        within = q.1;
        room = omega arith;
        counted = λ lv. by_number t own lv i ∙ rw e (tests lv n next false true f (lt-ltb l.given_count 64 g));
      };
    }

  module _ (once : Bool) {a : Result (ℕ × ℕ) Refusal} (h : AmountAt o at a) where
    by-reference : (t : ℤ) (own lv : ℕ) → kind_of t ≡ container false false nothing refers
        → value_rows (judged (data_of (suc lv)) once t own p) (stand o at (env_of l)) ≡ follow (amount_out o (env_of l) a) (asks at)
    unfolding asks ◌>>=◌ stand
    by-reference t own lv i =
        judged-yes (data_of (suc lv)) once t own p (stand o at (env_of l)) (carried_of t i refl) (ap (λ (k : Kind). may once k.names) i ∙ may-refers once)
        ∙ reference-rows lv t own p (stand o at (env_of l)) i
        ∙ ap (λ (x : Out ℤ). follow x (asks at)) (sym (h.same (env_of l)))

    pub reference-none : {r : Refusal} → a ≡ Err r → DataPlan o l Reference once at p (Err r)
    reference-none e = record { plan = λ t own i lv. by-reference t own lv i ∙ rw e }

    aims : (n next : ℕ) (b : Bool) → has n (listed l.ended l.ended_count) ≡ b → asks at (pos n) (stand o next (env_of l)) ≡ (require b 10 at >>= λ _. single) (stand o next (env_of l))
    unfolding asks allow ◌>>=◌ names stand env_of
    aims n next b e = rw e

    pub reference-aimed : {next n : ℕ} → a ≡ Ok (next, n) → has n (listed l.ended l.ended_count) ≡ true → DataPlan o l Reference once at p (Ok (Single next 1))
    unfolding ◌>>=◌ require return
    reference-aimed {next} {n} e f = let q = subst (PastAmount o at) e h.past in
        record { plan = λ t own i. (omega (arith, q.0), q.1, omega arith, λ lv. by-reference t own lv i ∙ rw e (aims n next true f)) }

    pub reference-lost : {next n : ℕ} → a ≡ Ok (next, n) → has n (listed l.ended l.ended_count) ≡ false → DataPlan o l Reference once at p (Err (refusal 10 at))
    unfolding ◌>>=◌ require
    reference-lost {next} {n} e f = record { plan = λ t own i lv. by-reference t own lv i ∙ rw e (aims n next false f) }
