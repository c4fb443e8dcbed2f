-- The value reader and the container reader, step by step.
use mathlib.Core.Path.{◌≡◌, refl, sym, ap, subst, ◌∙◌}
use mathlib.Core.Bool.{Bool, true, false, cond}
use mathlib.Core.List.{List}
use Prim.Native.Nat.{ℕ, suc, ◌+◌, ◌-◌, ◌*◌, ◌%◌, ◌^◌, ◌<◌, ◌≤◌}
use native.Mathlib.Omega.{arith}
use lib.ListN.{length}
use lib.Dec.{eqb, ltb}
use lib.IntN.{ℤ}
use lib.Signed.{mag}
use mir.Syntax.{w32}
use mir.Val.{to_z, of_z}
use Rattle.std.specs.Prelude.{Option, Some, None, Result, Ok, Err}
use Rattle.integer.proofs.Signs.{held}
use Rattle.reading.specs.declared.Refusal.{Refusal}
use Rattle.reading.specs.declared.Reason.{Reason}
use Rattle.reading.specs.declared.Reason.TheVariants.{BadType, BadIdentity, TooDeep as Deep}
use Rattle.reading.specs.Reading.{Env, State, Out, got, stop, refusal, Reader, stand, follow, ◌>>=◌, return, require, refuse, names, rename}
use Rattle.format.specs.Types.{Names, silent, refers, Kind, kind_of}
use Rattle.format.specs.Values.{Rule, Inner, label, may, begun, closed, leave, each, data_of}
use Rattle.format.specs.Values.{Form as Forms}
use Rattle.integer.specs.Packed.{integer}
use Rattle.scalar.specs.declared.Bits.{Bits}
use Rattle.scalar.specs.Answers.{width_of, Passes, RanIs, Runs}
use Rattle.decide.specs.declared.Class.{Class}
use Rattle.decide.specs.declared.Class.TheVariants.{Refused, Small, Int, Fixed, Char, Holder, Identity, Reference}
use Rattle.decide.specs.declared.Class.TheVariants.{Text as Texted, Parts as Parted}
use Rattle.decide.specs.declared.Form.{Form}
use Rattle.decide.specs.declared.Nest.{Nest}
use Rattle.decide.specs.declared.Next.{Next}
use Rattle.decide.specs.declared.Next.TheVariants.{Value, End}
use Rattle.decide.specs.Classes.{Is, ClassOf}
use Rattle.decide.specs.Forms.{own_of, TypedAt, listed_in, turn}
use Rattle.decide.specs.Coming.{Coming, halt, ends, go, next_low, next_out, PastNext, NextAt}
use Rattle.decide.specs.Runs.{Like, RunIn}
use Rattle.decide.proofs.Forms.{class-packed}
use Rattle.decide.proofs.Runs.{like-turn}
use Rattle.measure.specs.declared.identities.Identities.{Identities}
use Rattle.measure.specs.declared.Contents.{Contents}
use Rattle.measure.specs.declared.Window.{Window}
use Rattle.measure.specs.declared.Plan.{Plan}
use Rattle.measure.specs.declared.Plan.TheVariants.{Single, Inner as Nested}
use Rattle.measure.specs.Tally.{plus, value_rows, child_rows, opening, inside, onward, rest}
use Rattle.measure.specs.Identities.{env_of, name_of, number_of, Begun, Closed}
use Rattle.measure.specs.Plans.{once_of, Stands, judged, NestIs, PlanIs, plan_of, ValuePlan}
use Rattle.measure.specs.Cycle.{TooDeep, DeepAt, step_out, Going, CanRead, HasRead, AheadIn, AheadOf, CanReadNext, HasReadNext, Standing, CanHold, HasHeld}
use Rattle.measure.proofs.Counts.{count_coming, rest-coming}
use Rattle.measure.proofs.Heads.{headed, odd}
use Rattle.measure.proofs.Plans.{int-plan}
use Rattle.measure.proofs.Values.{value-classed}

-- ---- level 17

judged-at : (once : Bool) (t : ℤ) (own p : ℕ) (s : State) (a b : Bool) → (kind_of t).carried ≡ a → may once (kind_of t).names ≡ b
    → judged (data_of 0) once t own p s ≡ (require a 4 p >>= λ _. require b 9 p >>= λ _. data_of 0 t own p) s
unfolding judged
judged-at once t own p s a b e f = rw (e, f)

pub deep-refused : {once : Bool} → TooDeep Refused once BadType
unfolding ◌>>=◌ require
deep-refused {once} = record { refuses = λ t own p s i. judged-at once t own p s false (may once (kind_of t).names) i refl }

pub deep-twice : {once : Bool} → once ≡ true → TooDeep Identity once BadIdentity
unfolding ◌>>=◌ require
deep-twice {once} e = record { refuses = λ t own p s i. judged-at once t own p s true false (ap (λ (k : Kind). k.carried) i) (rw e (ap (λ (k : Kind). may true k.names) i)) }

deep-kind : (once : Bool) (t : ℤ) (own p : ℕ) (s : State) (k : Kind) → kind_of t ≡ k → k.carried ≡ true → may once k.names ≡ true → judged (data_of 0) once t own p s ≡ stop (refusal 8 p)
unfolding ◌>>=◌ require data_of refuse
deep-kind once t own p s k e c m = judged-at once t own p s true true (ap (λ (k : Kind). k.carried) e ∙ c) (ap (λ (k : Kind). may once k.names) e ∙ m)

-- a class that is not refused, and whose types are no identities
pub deep-plain : {c : Class} {once : Bool} → (c ≡ Refused → ⊥) → (c ≡ Identity → ⊥) → TooDeep c once Deep
deep-plain {c} {once} a b = record { refuses = λ t own p s i. by c a b t own p s i }
  where
    may-silent : (b : Bool) → may b silent ≡ true
    may-silent true = refl
    may-silent false = refl

    may-refers : (b : Bool) → may b refers ≡ true
    may-refers true = refl
    may-refers false = refl

    by : (c : Class) → (c ≡ Refused → ⊥) → (c ≡ Identity → ⊥) → (t : ℤ) (own p : ℕ) (s : State) → Is c t → judged (data_of 0) once t own p s ≡ stop (refusal 8 p)
    by Refused a b t own p s i = absurd (a refl)
    by Small a b t own p s i = deep-kind once t own p s _ i.2 refl (may-silent once)
    by (Int w) a b t own p s i = deep-kind once t own p s _ i.1 refl (may-silent once)
    by (Fixed n) a b t own p s i = deep-kind once t own p s _ i.1 refl (may-silent once)
    by Char a b t own p s i = deep-kind once t own p s _ i.1 refl (may-silent once)
    by (Parted d) a b t own p s i = deep-kind once t own p s _ i refl (may-silent once)
    by (Texted w) a b t own p s i = deep-kind once t own p s _ i refl (may-silent once)
    by (Holder h) a b t own p s i = deep-kind once t own p s _ i refl (may-silent once)
    by Identity a b t own p s i = absurd (b refl)
    by Reference a b t own p s i = deep-kind once t own p s _ i refl (may-refers once)

pub deep-first : {once : Bool} → once ≡ false → TooDeep Identity once Deep
deep-first {once} e = record { refuses = λ t own p s i. deep-kind once t own p s _ i refl (rw e) }

pub as-deep : {c k : Class} {once : Bool} {r : Reason} → c ≡ k → TooDeep k once r → TooDeep c once r
as-deep {once} {r} e d = subst (λ (x : Class). TooDeep x once r) (sym e) d

module _ {o : List ℕ} {w : Form} {at : ℕ} {x : Result (ℕ × ℤ) Refusal} (typed : TypedAt o w at x) where
  pub deep-untyped : {r : Refusal} → x ≡ Err r → DeepAt o w at r
  deep-untyped e = record { refuses = λ f s v. odd (subst (TypedAt o w at) e typed) f s (data_of 0) v }

  pub deep-typed : {from : ℕ} {n : Reason} {z : ℤ} {c : Class} {once : Bool} → at ≤ length o → x ≡ Ok (from, z) → mag z < 2 ^ 31 → ClassOf (to_z w32 (of_z w32 z)) c → once ≡ once_of w → TooDeep c once n → DeepAt o w at (record { place = at; reason = n })
  deep-typed {from} {n} {z} {c} {once} h e g k u d = record {
    refuses = λ f s v.
        (headed h (subst (TypedAt o w at) e typed) f s).judges (data_of 0) v
        ∙ (subst (λ (b : Bool). TooDeep c b n) u d).refuses z (own_of w) at (stand o from v) (subst (λ (t : ℤ). ClassOf t c) (held {w = w32} (record { sfits = g })) k).is;
  }

-- ---- the value reader

plus-stop : (n : ℕ) (p : Reader ℕ) {s : State} {r : Refusal} → p s ≡ stop r → plus n p s ≡ stop r
unfolding plus ◌>>=◌
plus-stop n p h = rw h

plus-got : (n : ℕ) (p : Reader ℕ) {s s' : State} {m : ℕ} → p s ≡ got m s' → plus n p s ≡ got (n + m) s'
unfolding plus ◌>>=◌ return
plus-got n p h = rw h

-- rows counted before a container, and its own
plus-inside : (rows : ℕ) (inner : Inner) (y : Names) (n : ℕ) (r : Rule) (s : State) → plus rows (inside inner y n r 1) s ≡ inside inner y n r (rows + 1) s
unfolding plus inside opening leave ◌>>=◌ return names rename
plus-inside rows inner y n r s = by (child_rows inner r (record { at = s.at; left = s.left; env = begun y n s.env }))
  where
    by : (x : Out ℕ) → follow (follow (follow x (λ m. return (1 + m))) (λ k. leave y n >>= λ _. return k)) (λ m. return (rows + m)) ≡ follow (follow x (λ m. return (rows + 1 + m))) (λ k. leave y n >>= λ _. return k)
    by (got m t) = ap (λ (k : ℕ). got k (record { at = t.at; left = t.left; env = closed y n t.env })) (omega arith)
    by (stop r) = refl

same-plus : (rows : ℕ) (p : Reader ℕ) (q : Out ℕ) {s : State} → p s ≡ q → plus rows p s ≡ follow q (λ m. return (rows + m))
unfolding plus ◌>>=◌
same-plus rows p q h = rw h

module _ (o : List ℕ) (l : Identities) (w : Form) (at rows depth : ℕ) where
  pub value-deep : {r : Refusal} {after : Identities} → depth ≡ 0 → DeepAt o w at r → HasRead o l w at rows depth (Err r) after
  unfolding value_rows ◌>>=◌
  value-deep {r} e d = rw e record { same = λ f s. sym (plus-stop rows (value_rows (each (data_of 0) f)) (rw (d.refuses f s (env_of l)))); going = tt }

  module _ {p : Result Plan Refusal} (plan : ValuePlan o l w at p) (some : 0 < depth) where
    less : depth ≡ suc (depth - 1)
    less = omega arith

    pub value-refused : {r : Refusal} {after : Identities} → p ≡ Err r → HasRead o l w at rows depth (Err r) after
    value-refused {r} e = rw less record {
      same = λ f s. sym (plus-stop rows (value_rows (each (data_of (suc (depth - 1))) f)) (subst (PlanIs o l (at + 1) _) e (plan.plan f s) (depth - 1)));
      going = tt;
    }

    pub value-single : {next n : ℕ} → p ≡ Ok (Single next n) → CanRead o w at rows → HasRead o l w at rows depth (Ok (next, rows + n)) l
    value-single {next} {n} e can = let q = subst (PlanIs o l (at + 1) _) e (plan.plan can.stands.0 can.stands.1) in rw less record {
      same = λ f s. let k = subst (PlanIs o l (at + 1) _) e (plan.plan f s) in
          sym (plus-got rows (value_rows (each (data_of (suc (depth - 1))) f)) (k.3 (depth - 1)));
      going = (q.0, q.1, omega (arith, q.0, q.2, can.few), refl);
    }

    module _ {n : Contents} (e : p ≡ Ok (Nested n)) where
      nest-of : (f : Forms) → Stands w f → NestIs o l (at + 1) n (λ lv. value_rows (each (data_of (suc lv)) f) (stand o at (env_of l)))
      nest-of f s = subst (PlanIs o l (at + 1) _) e (plan.plan f s)

      going_on : (r : Result (ℕ × ℕ) Refusal) (after : Identities) → at + 1 ≤ n.from → Going o l after n.from r → Going o l after (at + 1) r
      going_on (Ok (next, k)) after h g = (omega (arith, g.0), g.1, g.2, g.3)
      going_on (Err r) after h g = tt

      pub value-nested : {r : Result (ℕ × ℕ) Refusal} {after : Identities} → CanRead o w at rows → HasHeld o l n (rows + 1) (depth - 1) r after → HasRead o l w at rows depth r after
      value-nested {r} {after} can held = rw less record {
        same = λ f s. let k = nest-of f s in
            held.same k.form-is k.other_is (record { first = k.form_stands; second = k.other_stands; alike = k.one_form })
            ∙ sym (plus-inside rows (data_of (depth - 1)) _ (number_of n.id) _ (stand o n.from (env_of l)))
            ∙ sym (same-plus rows (value_rows (each (data_of (suc (depth - 1))) f)) _ (k.counted (depth - 1)) ∙ sym (same-plus rows (inside (data_of (depth - 1)) _ (number_of n.id) _ 1) _ refl));
        going = going_on r after (nest-of can.stands.0 can.stands.1).further held.going;
      }

-- ---- the value reader, by what the run says

-- a value of a run is passed as its data are
module _ {o : List ℕ} {at : ℕ} {w : Form} (h : at ≤ length o) where
  integers-plan : {l : Identities} {b : Bits} {most : ℕ} {p : Result ℕ Refusal} → Like (Some (b, most)) w → Passes 1 o at (integer (width_of b)) p → ValuePlan o l w at (plan_of p)
  integers-plan k q = value-classed h (class-packed k.1.1 h) refl refl (int-plan q refl)

-- in other runs nothing is to be known
ahead-mixed : (o : List ℕ) (c : Window) {run : Option (Bits × ℕ)} → run ≡ None → (r : Result (ℕ × ℕ) Refusal) → AheadOf run o r c
ahead-mixed o c e (Ok (next, k)) = rw e tt
ahead-mixed o c e (Err r) = tt

module _ {o : List ℕ} {run : Option (Bits × ℕ)} {w : Form} {at : ℕ} {c : Window} {rows : ℕ} (can : CanReadNext o run w at c rows) {b : Bits} {most : ℕ} (e : run ≡ Some (b, most)) where
  like-integers : Like (Some (b, most)) w
  like-integers = subst (λ (x : Option (Bits × ℕ)). Like x w) e can.like

  module _ {l : Identities} {depth : ℕ} (some : 0 < depth) {a : Result (ℕ × ℕ × ℕ) Refusal} (ran : Runs b o at a) where
    pub ran-onto : {next near' far' : ℕ} → a ≡ Ok (next, near', far') → HasReadNext o l run w at rows depth (Ok (next, rows + 1)) l (record { near = near'; far = far' })
    ran-onto {next} {near'} {far'} q = let k = subst (RanIs b o at) q ran.is in record {
      read = value-single o l w at rows depth (integers-plan can.can.within {p = Ok next} like-integers k.0) some refl can.can;
      ahead = rw e k.1;
    }

    pub ran-halted : {r : Refusal} {c' : Window} → a ≡ Err r → HasReadNext o l run w at rows depth (Err r) l c'
    ran-halted {r} q = record { read = value-refused o l w at rows depth (integers-plan can.can.within {p = Err r} like-integers (subst (RanIs b o at) q ran.is)) some refl; ahead = tt }

-- the form, as it was found by turns
pub turned-deep : {o : List ℕ} {t w : Form} {at : ℕ} {r : Refusal} → t ≡ w → DeepAt o t at r → DeepAt o w at r
turned-deep {o} {at = at} {r = r} e d = subst (λ (x : Form). DeepAt o x at r) e d

pub turned-plan : {o : List ℕ} {l : Identities} {t w : Form} {at : ℕ} {p : Result Plan Refusal} → t ≡ w → ValuePlan o l t at p → ValuePlan o l w at p
turned-plan {o} {l} {at = at} {p = p} e d = subst (λ (x : Form). ValuePlan o l x at p) e d

-- a value that is in no run
pub read-mixed : {o : List ℕ} {l : Identities} {run : Option (Bits × ℕ)} {w : Form} {at rows depth : ℕ} {r : Result (ℕ × ℕ) Refusal} {after : Identities} {c : Window} → run ≡ None → HasRead o l w at rows depth r after → HasReadNext o l run w at rows depth r after c
read-mixed {o = o} {r = r} {c = c} e h = record { read = h; ahead = ahead-mixed o c e r }

pub read-deep : {o : List ℕ} {l : Identities} {run : Option (Bits × ℕ)} {w : Form} {at rows depth : ℕ} {r : Refusal} {after : Identities} {c : Window} → HasRead o l w at rows depth (Err r) after → HasReadNext o l run w at rows depth (Err r) after c
read-deep h = record { read = h; ahead = tt }

-- ---- the container reader

stands-turn : {w v : Form} {f g : Forms} (i : ℕ) → Stands w f → Stands v g → Stands (turn w v i) (turn f g i)
stands-turn {w} {v} {f} {g} i a b = by (eqb (i % 2) 0)
  where
    by : (t : Bool) → Stands (cond t w v) (cond t f g)
    by true = a
    by false = b

-- the loop: what was to be counted at its start is what is still to be counted
pub record Turning (o : List ℕ) (l₀ : Identities) (depth : ℕ) (nest : Nest) (at₀ rows₀ : ℕ) (l : Identities) (at low rows : ℕ) : Type 0 where
  pub same : (f g : Forms) → Standing nest.form nest.other nest.indexed f g
      → plus rows₀ (child_rows (data_of depth) (rest nest.indexed nest.paired f g nest.count 0)) (stand o at₀ (env_of l₀)) ≡ plus rows (child_rows (data_of depth) (rest nest.indexed nest.paired f g nest.count low)) (stand o at (env_of l))
  pub further : at₀ ≤ at
  pub within : at ≤ length o
  pub few : rows ≤ 11 * at
  pub apt : low ≤ nest.count
  pub small : nest.count < 2 ^ 32
  pub level : l.given_count + l₀.ended_count ≡ l₀.given_count + l.ended_count
  pub short : length o ≤ 65535
  pub forms : (f : Forms) × (g : Forms) × Standing nest.form nest.other nest.indexed f g

module _ {o : List ℕ} {l₀ : Identities} {depth : ℕ} {nest : Nest} {at₀ rows₀ : ℕ} {l : Identities} {at low rows : ℕ}
    (turning : Turning o l₀ depth nest at₀ rows₀ l at low rows) {g : Result Next Refusal} (comes : NextAt o nest.indexed nest.paired nest.count low at g) where
  -- at what comes next
  at_next : (f h : Forms) → Standing nest.form nest.other nest.indexed f h
      → plus rows₀ (child_rows (data_of depth) (rest nest.indexed nest.paired f h nest.count 0)) (stand o at₀ (env_of l₀)) ≡ count_coming (data_of depth) (turn f h low) (λ j. rest nest.indexed nest.paired f h nest.count (next_low nest.indexed j low)) rows (next_out o (env_of l) g)
  at_next f h k =
      turning.same f h k ∙ rest-coming (data_of depth) nest.indexed nest.paired f h nest.count low rows (stand o at (env_of l)) turning.apt k.alike
      ∙ ap (count_coming (data_of depth) (turn f h low) (λ j. rest nest.indexed nest.paired f h nest.count (next_low nest.indexed j low)) rows) (sym (comes.same (env_of l)))

  module _ {next j low' : ℕ} (e : g ≡ Ok (Value next j low')) where
    past : PastNext o nest.indexed nest.count low at (Ok (Value next j low'))
    past = subst (PastNext o nest.indexed nest.count low at) e comes.past

    module _ {t : Form} (is-turn : t ≡ turn nest.form nest.other low) where
      pub turning-can-read : CanRead o t next rows
      turning-can-read = rw is-turn record {
        within = past.1;
        few = omega (arith, past.0, turning.few);
        short = turning.short;
        stands = (turn turning.forms.0 turning.forms.1 low, stands-turn low turning.forms.2.first turning.forms.2.second);
      }

      module _ {r : Result (ℕ × ℕ) Refusal} {after : Identities} (read : HasRead o l t next rows depth r after) where
        -- after the value
        after-value : (f h : Forms) → Standing nest.form nest.other nest.indexed f h
            → plus rows₀ (child_rows (data_of depth) (rest nest.indexed nest.paired f h nest.count 0)) (stand o at₀ (env_of l₀)) ≡ follow (step_out o (env_of after) r) (λ k. plus k (child_rows (data_of depth) (rest nest.indexed nest.paired f h nest.count (next_low nest.indexed j low))))
        unfolding onward ◌>>=◌
        after-value f h k =
            at_next f h k ∙ ap (λ (y : Result Next Refusal). count_coming (data_of depth) (turn f h low) (λ j. rest nest.indexed nest.paired f h nest.count (next_low nest.indexed j low)) rows (next_out o (env_of l) y)) e
            ∙ ap (λ (y : Out ℕ). follow y (λ k. plus k (child_rows (data_of depth) (rest nest.indexed nest.paired f h nest.count (next_low nest.indexed j low))))) (sym (read.same (turn f h low) (rw is-turn (stands-turn low k.first k.second))))

        pub turning-again : {there more : ℕ} → r ≡ Ok (there, more) → Turning o l₀ depth nest at₀ rows₀ after there low' more
        turning-again {there} {more} d =
            let q = subst (Going o l after (next + 1)) d read.going in
            rw past.4 record {
              same = λ f h k. after-value f h k ∙ ap (λ (y : Result (ℕ × ℕ) Refusal). follow (step_out o (env_of after) y) (λ k. plus k (child_rows (data_of depth) (rest nest.indexed nest.paired f h nest.count (next_low nest.indexed j low))))) d;
              further = omega (arith, turning.further, past.0, q.0);
              within = q.1;
              few = q.2;
              apt = omega (arith, past.3, past.4);
              small = turning.small;
              level = omega (arith, turning.level, q.3);
              short = turning.short;
              forms = turning.forms;
            }

-- ---- what lies ahead

-- values that stand by position come one after another
next_here : {o : List ℕ} {p : Bool} {count low at next j k : ℕ} → Env → NextAt o false p count low at (Ok (Value next j k)) → next ≡ at
unfolding stand
next_here {o} {p} {count} {low} {at} {next} {j} e h = ap place (h.same e) ∙ by (ltb low count)
  where
    place : Coming → ℕ
    place (halt r) = 0
    place (ends s) = s.at
    place (go j s) = s.at

    by : (b : Bool) → place (cond b (go (label p low) (stand o at e)) (ends (stand o at e))) ≡ at
    by true = refl
    by false = refl

-- the loop, with what is known ahead in a run of integers
pub record Looking (o : List ℕ) (l₀ : Identities) (depth : ℕ) (nest : Nest) (at₀ rows₀ : ℕ) (l : Identities) (at low rows : ℕ) (run : Option (Bits × ℕ)) (c : Window) : Type 0 where
  pub turning : Turning o l₀ depth nest at₀ rows₀ l at low rows
  pub runs : RunIn nest.indexed nest.form nest.other run
  pub by_position : nest.listed ≡ listed_in nest.indexed nest.count
  pub ahead : AheadIn run o at c

module _ {o : List ℕ} {l₀ : Identities} {depth : ℕ} {nest : Nest} {at₀ rows₀ : ℕ} {l : Identities} {at low rows : ℕ} {run : Option (Bits × ℕ)} {c : Window}
    (looking : Looking o l₀ depth nest at₀ rows₀ l at low rows run c) {g : Result Next Refusal} (comes : NextAt o nest.indexed nest.paired nest.count low at g) {next j low' : ℕ} (e : g ≡ Ok (Value next j low')) where
  ahead-there : AheadIn run o next c
  ahead-there = by nest.indexed refl run looking.runs.mixed looking.ahead
    where
      by : (y : Bool) → nest.indexed ≡ y → (r : Option (Bits × ℕ)) → (nest.indexed ≡ true → r ≡ None) → AheadIn r o at c → AheadIn r o next c
      by true i r m h = rw (m i) tt
      by false i r m h = rw (next_here (env_of l) (subst (λ (y : Bool). NextAt o y nest.paired nest.count low at (Ok (Value next j low'))) i (subst (NextAt o nest.indexed nest.paired nest.count low at) e comes))) h

  pub looking-can-read : CanReadNext o run (turn nest.form nest.other low) next c rows
  looking-can-read = record { can = turning-can-read looking.turning comes e refl; like = like-turn low looking.runs.run; ahead = ahead-there }

  pub looking-again : {r : Result (ℕ × ℕ) Refusal} {after : Identities} {c' : Window} {there more : ℕ} → HasReadNext o l run (turn nest.form nest.other low) next rows depth r after c' → r ≡ Ok (there, more)
      → Looking o l₀ depth nest at₀ rows₀ after there low' more run c'
  looking-again {c' = c'} read d = record {
    turning = turning-again looking.turning comes e refl read.read d;
    runs = looking.runs;
    by_position = looking.by_position;
    ahead = subst (λ (y : Result (ℕ × ℕ) Refusal). AheadOf run o y c') d read.ahead;
  }

-- ---- the container's end

pub inside-opened : (inner : Inner) (y : Names) (n : ℕ) (r : Rule) (rows : ℕ) (o : List ℕ) (at : ℕ) (e : Env)
    → inside inner y n r rows (stand o at e) ≡ follow (plus rows (child_rows inner r) (stand o at (begun y n e))) (λ k. leave y n >>= λ _. return k)
unfolding inside opening ◌>>=◌ names rename stand
inside-opened inner y n r rows o at e = refl

module _ {o : List ℕ} {l l₀ : Identities} {n : Contents} {before : ℕ} (depth : ℕ) (can : CanHold o l n before) (b : Begun l n.id l₀) where
  abbrev expects : Forms → Forms → ℕ → Rule
  expects f g low = rest n.nest.indexed n.nest.paired f g n.nest.count low

  -- what the container counts, by what its loop counts
  held_by : (f g : Forms) (x : Out ℕ) → plus before (child_rows (data_of depth) (expects f g 0)) (stand o n.from (env_of l₀)) ≡ x
      → follow x (λ k. leave (name_of n.id) (number_of n.id) >>= λ _. return k) ≡ inside (data_of depth) (name_of n.id) (number_of n.id) (expects f g 0) before (stand o n.from (env_of l))
  held_by f g x h = sym (
      inside-opened (data_of depth) (name_of n.id) (number_of n.id) (expects f g 0) before o n.from (env_of l)
      ∙ ap (λ (e : Env). follow (plus before (child_rows (data_of depth) (expects f g 0)) (stand o n.from e)) (λ k. leave (name_of n.id) (number_of n.id) >>= λ _. return k)) (sym b.env_is)
      ∙ ap (λ (y : Out ℕ). follow y (λ k. leave (name_of n.id) (number_of n.id) >>= λ _. return k)) h
      )

  module _ {l' : Identities} {at low rows : ℕ}
      (turning : Turning o l₀ depth n.nest n.from before l' at low rows)
      {g : Result Next Refusal} (comes : NextAt o n.nest.indexed n.nest.paired n.nest.count low at g) where
    counted-on : (f h : Forms) → Standing n.nest.form n.nest.other n.nest.indexed f h → {y : Result Next Refusal} → g ≡ y
        → plus before (child_rows (data_of depth) (expects f h 0)) (stand o n.from (env_of l₀)) ≡ count_coming (data_of depth) (turn f h low) (λ j. expects f h (next_low n.nest.indexed j low)) rows (next_out o (env_of l') y)
    counted-on f h k e = at_next turning comes f h k ∙ ap (λ (y : Result Next Refusal). count_coming (data_of depth) (turn f h low) (λ j. expects f h (next_low n.nest.indexed j low)) rows (next_out o (env_of l') y)) e

    pub held-halted : {r : Refusal} → g ≡ Err r → HasHeld o l n before depth (Err r) l'
    held-halted {r} e = record { same = λ f h k. held_by f h (stop r) (counted-on f h k e); going = tt }

    pub held-ended : {next : ℕ} {after : Identities} → g ≡ Ok (End next) → Closed l' n.id after → HasHeld o l n before depth (Ok (next, rows)) after
    unfolding leave ◌>>=◌ return names rename stand
    held-ended {next} {after} e c =
        let q = subst (PastNext o n.nest.indexed n.nest.count low at) e comes.past in
        record {
          same = λ f h k. ap (λ (z : Env). got rows (stand o next z)) c.env_is ∙ held_by f h (got rows (stand o next (env_of l'))) (counted-on f h k e);
          going = (omega (arith, turning.further, q.0), q.1, omega (arith, turning.few, q.0), omega (arith, turning.level, b.more, b.as_many, c.as_many, c.more));
        }

    pub held-stopped : {next j low' : ℕ} {t : Form} {r : Result (ℕ × ℕ) Refusal} {after : Identities} {q : Refusal} → g ≡ Ok (Value next j low') → t ≡ turn n.nest.form n.nest.other low
        → HasRead o l' t next rows depth r after → r ≡ Err q → HasHeld o l n before depth (Err q) after
    held-stopped {next} {j} {low'} {t} {r} {after} {q} e u read d = record {
      same = λ f h k. held_by f h (stop q) (after-value turning comes e u read f h k ∙ ap (λ (y : Result (ℕ × ℕ) Refusal). follow (step_out o (env_of after) y) (λ k. plus k (child_rows (data_of depth) (expects f h (next_low n.nest.indexed j low))))) d);
      going = tt;
    }
