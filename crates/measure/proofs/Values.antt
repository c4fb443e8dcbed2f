-- The plan for a value, from its type and its data.
use mathlib.Core.Path.{◌≡◌, refl, sym, ap, subst, ◌∙◌}
use mathlib.Core.Bool.{Bool, true}
use mathlib.Core.List.{List}
use mathlib.Core.Logic.{◌⊎◌, inl, inr}
use Prim.Native.Nat.{ℕ, suc, ◌+◌, ◌<◌, ◌≤◌}
use native.Mathlib.Omega.{arith}
use lib.ListN.{length}
use lib.IntN.{ℤ}
use Rattle.std.specs.Prelude.{Result, Ok, Err}
use Rattle.reading.specs.declared.Refusal.{Refusal}
use Rattle.reading.specs.Reading.{State, Out, got, stop, stand, follow, ◌>>=◌, return}
use Rattle.format.specs.Types.{Parts}
use Rattle.format.specs.Data.{moment}
use Rattle.format.specs.Values.{Value, data_of}
use Rattle.format.specs.Rows.{count}
use Rattle.scalar.specs.declared.Which.{Which}
use Rattle.scalar.specs.Answers.{moment_out, MomentPast, Passing}
use Rattle.scalar.specs.Moments.{parts_of, count_of}
use Rattle.decide.specs.declared.Class.{Class}
use Rattle.decide.specs.declared.Class.TheVariants.{Parts as Parted}
use Rattle.decide.specs.Classes.{least_of, elementary}
use Rattle.decide.specs.declared.Form.{Form}
use Rattle.decide.specs.Forms.{own_of, HasClass, ClassIs, ClassAt}
use Rattle.measure.specs.declared.identities.Identities.{Identities}
use Rattle.measure.specs.declared.Plan.{Plan}
use Rattle.measure.specs.declared.Plan.TheVariants.{Single, Inner as Nested}
use Rattle.measure.specs.Identities.{env_of}
use Rattle.measure.specs.Tally.{value_rows}
use Rattle.measure.specs.Plans.{once_of, PlanIs, DataPlan, ValuePlan}
use Rattle.measure.proofs.Data.{dated-rows}
use Rattle.measure.proofs.Heads.{headed, odd}
use Rattle.measure.proofs.Plans.{judged-silent}

-- ---- dates and times

counted-one : (d : Parts) (s : State) (x : Out ℕ) → x ≡ count_of d s → (moment d >>= λ l. return (1 + length l)) s ≡ follow x (λ n. return (1 + n))
unfolding ◌>>=◌ return
counted-one d s x e = rw e (by (moment d s))
  where
    by : (y : Out (List ℤ)) → follow y (λ l. return (1 + length l)) ≡ follow (follow y (λ l. return (length l))) (λ n. return (1 + n))
    by (got l t) = refl
    by (stop r) = refl

abbrev moment_plan : Result (ℕ × ℕ) Refusal → Result Plan Refusal
moment_plan (Ok (next, n)) = Ok (Single next (n + 1))
moment_plan (Err r) = Err r

pub moment-plan : {o : List ℕ} {l : Identities} {once : Bool} {at p : ℕ} {d : Which} {m k : Result (ℕ × ℕ) Refusal} → Passing o at 10 (count_of (parts_of d)) m → m ≡ k → DataPlan o l (Parted d) once at p (moment_plan k)
unfolding return
moment-plan {o} {l} {once} {at} {p} {d} {m} h e = rw (← e) record {
  plan = λ t own i. by m h.past
      (λ lv. judged-silent (data_of (suc lv)) once t own p (stand o at (env_of l)) _ i refl refl ∙ dated-rows lv t own p (stand o at (env_of l)) i ∙ counted-one (parts_of d) (stand o at (env_of l)) _ (h.same (env_of l)));
}
  where
    by : {rows : ℕ → Out ℕ} (m : Result (ℕ × ℕ) Refusal) → MomentPast o at 10 m → ((lv : ℕ) → rows lv ≡ follow (moment_out o (env_of l) m) (λ n. return (1 + n))) → PlanIs o l (at + 1) rows (moment_plan m)
    by (Ok (next, n)) q k = (omega (arith, q.0), q.1, omega (arith, q.2), λ lv. k lv ∙ ap (λ (m : ℕ). got m (stand o next (env_of l))) (omega arith))
    by (Err r) q k = k

-- ---- a class, and a plan, said another way

pub as-class : {o : List ℕ} {l : Identities} {c k : Class} {once : Bool} {at p : ℕ} {r : Result Plan Refusal} → c ≡ k → DataPlan o l k once at p r → DataPlan o l c once at p r
as-class {o} {l} {once} {at} {p} {r} e d = subst (λ (x : Class). DataPlan o l x once at p r) (sym e) d

plan-as : (o : List ℕ) (l : Identities) (a b : ℕ) (rows more : ℕ → Out ℕ) (r : Result Plan Refusal) → a ≤ b → ((lv : ℕ) → more lv ≡ rows lv) → PlanIs o l b rows r → PlanIs o l a more r
plan-as o l a b rows more (Err x) h e p = λ lv. e lv ∙ p lv
plan-as o l a b rows more (Ok (Single next n)) h e p = (omega (arith, p.0), p.1, p.2, λ lv. e lv ∙ p.3 lv)
plan-as o l a b rows more (Ok (Nested n)) h e p = record {
  form-is = p.form-is;
  other_is = p.other_is;
  form_stands = p.form_stands;
  other_stands = p.other_stands;
  one_form = p.one_form;
  few = p.few;
  by_position = p.by_position;
  further = omega (arith, p.further);
  within = p.within;
  room = p.room;
  counted = λ lv. e lv ∙ p.counted lv;
}

-- ---- the value

pub value-odd : {o : List ℕ} {l : Identities} {w : Form} {at : ℕ} {x : Result (ℕ × Class) Refusal} {r : Refusal} → ClassAt o w at x → x ≡ Err r → ValuePlan o l w at (Err r)
unfolding value_rows ◌>>=◌
value-odd {o} {l} {w} {at} h e = record { plan = λ f s lv. ap (λ (y : Out Value). follow y (λ v. return (suc (count v.inside)))) (odd (subst (ClassIs o w at) e h.is) f s (data_of (suc lv)) (env_of l)) }

-- an octet at least lies before the end of the data
starts-before : {at from : ℕ} {t : ℤ} {c : Class} → HasClass t c → at ≤ from → (at < from) ⊎ (elementary t ≡ true) → at + 1 ≤ from + least_of c
starts-before k h (inl p) = omega arith
starts-before k h (inr e) = omega (arith, k.least e)

pub value-classed : {o : List ℕ} {l : Identities} {w : Form} {at from : ℕ} {c : Class} {once : Bool} {x : Result (ℕ × Class) Refusal} {r : Result Plan Refusal} → at ≤ length o → ClassAt o w at x → x ≡ Ok (from, c)
    → once ≡ once_of w → DataPlan o l c once from at r → ValuePlan o l w at r
unfolding value_rows ◌>>=◌
value-classed {o} {l} {w} {at} {from} {c} {once} {r = r} h found e u d = record {
  plan = λ f s.
      let k = subst (ClassIs o w at) e found.is in
      let q = headed h k.1 f s in
      let j : HasClass k.0 c = k.2 s.sound in
      plan-as o l (at + 1) (from + least_of c) _ _ r (starts-before j q.further q.later) (λ lv. ap (λ (y : Out Value). follow y (λ v. return (suc (count v.inside)))) (q.judges (data_of (suc lv)) (env_of l))) ((subst (λ (b : Bool). DataPlan o l c b from at r) u d).plan k.0 (own_of w) j.is);
}
