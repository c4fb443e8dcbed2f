-- What is planned for a value, by the class of its type.
use mathlib.Core.Path.{◌≡◌, refl, sym, ap, subst, ◌∙◌}
use mathlib.Core.Bool.{Bool, true, false}
use mathlib.Core.List.{List}
use Prim.Native.Nat.{ℕ, suc, ◌+◌, ◌≤◌}
use native.Mathlib.Omega.{arith}
use lib.ListN.{length}
use lib.IntN.{ℤ, pos}
use Rattle.std.specs.Prelude.{Result, Ok, Err}
use Rattle.reading.specs.declared.Refusal.{Refusal}
use Rattle.reading.specs.Reading.{State, Out, got, stop, refusal, Reader, stand, follow, ◌>>=◌, return, require}
use Rattle.integer.specs.Packed.{integer}
use Rattle.format.specs.Types.{Datum, packed, fixed, code, silent, Sort, Kind, scalar, kind_of}
use Rattle.format.specs.Data.{number, run, character, contents}
use Rattle.format.specs.Values.{Inner, may, data_of}
use Rattle.scalar.specs.declared.Bits.{Bits}
use Rattle.scalar.specs.Answers.{skip, passed_out, PastOf, Passes, width_of}
use Rattle.decide.specs.declared.Class.TheVariants.{Small, Int, Fixed, Char}
use Rattle.decide.specs.declared.Class.TheVariants.{Refused as Uncarried, Text as Texted}
use Rattle.decide.specs.Classes.{text_of}
use Rattle.decide.specs.Elements.{PastAmount, AmountAt}
use Rattle.measure.specs.declared.identities.Identities.{Identities}
use Rattle.measure.specs.declared.Plan.{Plan}
use Rattle.measure.specs.declared.Plan.TheVariants.{Single}
use Rattle.measure.specs.Identities.{env_of}
use Rattle.measure.specs.Tally.{single, value_rows}
use Rattle.measure.specs.Plans.{judged, plan_of, PlanIs, DataPlan}
use Rattle.measure.proofs.Data.{scalar-rows, string-rows}

-- ---- what is asked of a type

judged-uncarried : (inner : Inner) (once : Bool) (t : ℤ) (own p : ℕ) (s : State) → (kind_of t).carried ≡ false → value_rows (judged inner once t own p) s ≡ stop (refusal 4 p)
unfolding value_rows judged ◌>>=◌ require
judged-uncarried inner once t own p s e = rw e

pub judged-yes : (inner : Inner) (once : Bool) (t : ℤ) (own p : ℕ) (s : State) → (kind_of t).carried ≡ true → may once (kind_of t).names ≡ true
    → value_rows (judged inner once t own p) s ≡ value_rows (inner t own p) s
unfolding value_rows judged ◌>>=◌ require
judged-yes inner once t own p s e f = rw (e, f)

pub judged-twice : (inner : Inner) (once : Bool) (t : ℤ) (own p : ℕ) (s : State) → (kind_of t).carried ≡ true → may once (kind_of t).names ≡ false
    → value_rows (judged inner once t own p) s ≡ stop (refusal 9 p)
unfolding value_rows judged ◌>>=◌ require
judged-twice inner once t own p s e f = rw (e, f)

may-silent : (once : Bool) → may once silent ≡ true
may-silent true = refl
may-silent false = refl

-- a kind that names nothing
pub judged-silent : (inner : Inner) (once : Bool) (t : ℤ) (own p : ℕ) (s : State) (k : Kind) → kind_of t ≡ k → k.carried ≡ true → k.names ≡ silent
    → value_rows (judged inner once t own p) s ≡ value_rows (inner t own p) s
judged-silent inner once t own p s k e c y =
    judged-yes inner once t own p s (ap (λ (k : Kind). k.carried) e ∙ c) (ap (λ (k : Kind). may once k.names) e ∙ ap (may once) y ∙ may-silent once)

-- ---- what was passed

one-after : {A : Type 0} (p : Reader A) (s : State) (x : Out (Unit {0})) → x ≡ skip p s → (p >>= λ _. single) s ≡ follow x (λ _. single)
unfolding ◌>>=◌ return
one-after {A} p s x e = rw e (by (p s))
  where
    by : (y : Out A) → follow y (λ _. single) ≡ follow (follow y (λ _. return (tt {0}))) (λ _. single)
    by (got a t) = refl
    by (stop r) = refl

pub passed-plan : (o : List ℕ) (l : Identities) (at least : ℕ) (rows : ℕ → Out ℕ) (r : Result ℕ Refusal) → ((lv : ℕ) → rows lv ≡ follow (passed_out o (env_of l) r) (λ _. single)) → PastOf least o at r → PlanIs o l (at + least) rows (plan_of r)
unfolding return
passed-plan o l at least rows (Ok next) h q = (q.0, q.1, omega arith, h)
passed-plan o l at least rows (Err r) h q = h

-- ---- the classes

-- a number that was passed
scalar-plan : (o : List ℕ) (l : Identities) (once : Bool) (at p : ℕ) (d : Datum) (q : Sort) (t : ℤ) (own : ℕ) (least : ℕ) (r : Result ℕ Refusal) → kind_of t ≡ scalar d q → Passes least o at (number d) r
    → PlanIs o l (at + least) (λ lv. value_rows (judged (data_of (suc lv)) once t own p) (stand o at (env_of l))) (plan_of r)
scalar-plan o l once at p d q t own least r e h = passed-plan o l at least _ r (λ lv.
    judged-silent (data_of (suc lv)) once t own p (stand o at (env_of l)) (scalar d q) e refl refl
    ∙ scalar-rows lv t own p (stand o at (env_of l)) e
    ∙ one-after (number d) (stand o at (env_of l)) _ (h.same (env_of l))) h.past

-- what passes a reading passes the number made of it
passes-made : {A B : Type 0} {least : ℕ} {o : List ℕ} {at : ℕ} {r : Result ℕ Refusal} (p : Reader A) (f : A → B) → Passes least o at p r → Passes least o at (p >>= λ a. return (f a)) r
unfolding ◌>>=◌ return
passes-made {A} {B} {o} {at} p f h = record { same = λ e. h.same e ∙ by (p (stand o at e)); past = h.past }
  where
    by : (y : Out A) → follow y (λ _. return (tt {0})) ≡ follow (follow y (λ a. return (f a))) (λ _. return (tt {0}))
    by (got a t) = refl
    by (stop r) = refl

module _ {o : List ℕ} {l : Identities} {once : Bool} {at p : ℕ} where
  pub uncarried-plan : DataPlan o l Uncarried once at p (Err (refusal 4 p))
  uncarried-plan = record { plan = λ t own i lv. judged-uncarried (data_of (suc lv)) once t own p (stand o at (env_of l)) i }

  pub small-plan : at ≤ length o → DataPlan o l Small once at p (Ok (Single at 1))
  unfolding number ◌>>=◌ return
  small-plan h = record {
    plan = λ t own i. (
      omega arith,
      h,
      omega arith,
      λ lv.
          judged-silent (data_of (suc lv)) once t own p (stand o at (env_of l)) _ i.2 refl refl ∙ scalar-rows lv t own p (stand o at (env_of l)) i.2,
    );
  }

  pub int-plan : {b : Bits} {r : Result ℕ Refusal} {w : Result Plan Refusal} → Passes 1 o at (integer (width_of b)) r → w ≡ plan_of r → DataPlan o l (Int b) once at p w
  unfolding number
  int-plan {b} {r} h e = rw e record { plan = λ t own i. scalar-plan o l once at p (packed (width_of b)) i.0 t own 1 r i.1 h }

  pub fixed-plan : {n : ℕ} {r : Result ℕ Refusal} {w : Result Plan Refusal} → Passes n o at (run n) r → w ≡ plan_of r → DataPlan o l (Fixed n) once at p w
  unfolding number
  fixed-plan {n} {r} h e = rw e record { plan = λ t own i. scalar-plan o l once at p (fixed n) i.0 t own n r i.1 (passes-made (run n) _ h) }

  pub char-plan : {r : Result ℕ Refusal} {w : Result Plan Refusal} → Passes 1 o at character r → w ≡ plan_of r → DataPlan o l Char once at p w
  unfolding number
  char-plan {r} h e = rw e record { plan = λ t own i. scalar-plan o l once at p code i.0 t own 1 r i.1 (passes-made character _ h) }

  -- a length, and contents that were passed
  pub text-none : {x : Refusal} {chars : Bool} {a : Result (ℕ × ℕ) Refusal} → AmountAt o at a → a ≡ Err x → DataPlan o l (Texted chars) once at p (Err x)
  unfolding ◌>>=◌
  text-none {x} {chars} h e = record {
    plan = λ t own i lv. judged-silent (data_of (suc lv)) once t own p (stand o at (env_of l)) _ i refl refl
        ∙ string-rows lv t own p (stand o at (env_of l)) i
        ∙ ap (λ (y : Out ℤ). follow y (λ n. contents (text_of chars) n >>= λ _. single)) (sym (h.same (env_of l)))
        ∙ rw e;
  }

  pub text-some : {next n : ℕ} {chars : Bool} {a : Result (ℕ × ℕ) Refusal} {r : Result ℕ Refusal} {w : Result Plan Refusal} → AmountAt o at a → a ≡ Ok (next, n) → Passes n o next (contents (text_of chars) (pos n)) r → w ≡ plan_of r
      → DataPlan o l (Texted chars) once at p w
  unfolding ◌>>=◌
  text-some {next} {n} {chars} {a} {r} h e g f = rw f record {
    plan = λ t own i. passed-plan o l at 1 _ r (λ lv. judged-silent (data_of (suc lv)) once t own p (stand o at (env_of l)) _ i refl refl
        ∙ string-rows lv t own p (stand o at (env_of l)) i
        ∙ ap (λ (y : Out ℤ). follow y (λ n. contents (text_of chars) n >>= λ _. single)) (sym (h.same (env_of l)))
        ∙ rw e (one-after (contents (text_of chars) (pos n)) (stand o next (env_of l)) _ (g.same (env_of l)))) (later r g.past);
  }
    where
      later : (r : Result ℕ Refusal) → PastOf n o next r → PastOf 1 o at r
      later (Ok z) q = let y = subst (PastAmount o at) e h.past in (omega (arith, q.0, y.0), q.1)
      later (Err x) q = tt
