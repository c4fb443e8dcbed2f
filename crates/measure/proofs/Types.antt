-- Containers, as the code finds them.
use mathlib.Core.Path.{◌≡◌, refl, sym, ap, subst, ◌∙◌}
use mathlib.Core.Bool.{Bool, true, false}
use mathlib.Core.List.{List, []}
use Prim.Native.Nat.{ℕ, suc, ◌+◌, ◌*◌, ◌^◌, ◌<◌, ◌≤◌}
use native.Mathlib.Omega.{arith}
use lib.ListN.{length}
use lib.IntN.{ℤ, pos}
use Rattle.std.specs.Prelude.{Result, Ok, Err}
use Rattle.reading.specs.declared.Refusal.{Refusal}
use Rattle.reading.specs.Reading.{State, Out, got, stop, Reader, stand, follow, ◌>>=◌, return}
use Rattle.format.specs.Types.{amount, silent, container, kind_of}
use Rattle.format.specs.Data.{number, element}
use Rattle.format.specs.Values.{Form, whole, formed, Rule, counted, head, rule_by, Inner, data_of}
use Rattle.decide.specs.declared.Shape.{Shape}
use Rattle.decide.specs.declared.Inside.{Inside}
use Rattle.decide.specs.declared.Inside.TheVariants.{Pairs, Sparse, User, List as Several}
use Rattle.decide.specs.declared.Nest.{Nest}
use Rattle.decide.specs.Classes.{holds_of}
use Rattle.decide.specs.Elements.{amount_out, PastAmount, AmountAt, Elementary, TypeIs, TypeAt}
use Rattle.decide.specs.Forms.{form_of, nest_in}
use Rattle.decide.proofs.Plain.{bare-says, bare-sound}
use Rattle.measure.specs.declared.identities.Identities.{Identities}
use Rattle.measure.specs.declared.Plan.TheVariants.{Inner as Nested}
use Rattle.measure.specs.Identities.{env_of}
use Rattle.measure.specs.Tally.{plus, value_rows, child_rows, opening, inside, rest}
use Rattle.measure.specs.Plans.{Stands, judged, NestIs, contents_of, HolderPlan}
use Rattle.measure.proofs.Data.{container-rows}
use Rattle.measure.proofs.Plans.{judged-silent}

-- without an identity, the values inside are all there is
pub inside-silent : (inner : Inner) (n : ℕ) (r : Rule) (rows : ℕ) (s : State) → inside inner silent n r rows s ≡ plus rows (child_rows inner r) s
unfolding inside opening ◌>>=◌ return Rattle.format.specs.Values.leave Rattle.reading.specs.Reading.names Rattle.reading.specs.Reading.rename
inside-silent inner n r rows s = by (plus rows (child_rows inner r) s)
  where
    by : (x : Out ℕ) → follow x (λ k. Rattle.format.specs.Values.leave silent n >>= λ _. return k) ≡ x
    by (got k t) = refl
    by (stop r) = refl

-- the form of values of an element type, where the container has one
stands-formed : (on : Bool) (t : ℤ) → Elementary on t → Stands (form_of on t) (formed on t)
stands-formed true t e = record { means = (bare-says t, e); sound = bare-sound t }
stands-formed false t e = record { means = (refl, refl); sound = tt }

module _ (o : List ℕ) (l : Identities) (at t-own from n : ℕ) (t a b : ℤ) (f g : Bool) (rows : ℕ → Out ℕ)
    (a-good : Elementary f a) (b-good : Elementary g b) (further : at ≤ from) (within : from ≤ length o) (small : n < 2 ^ 31) where
  from_start : (p : Bool) (y z : Form) (m lv : ℕ) → plus 1 (child_rows (data_of lv) (counted p y z m 0)) (stand o from (env_of l)) ≡ plus 1 (child_rows (data_of lv) (rest false p y z m 0)) (stand o from (env_of l))
  from_start p y z m lv = ap (λ (k : ℕ). plus 1 (child_rows (data_of lv) (counted p y z k 0)) (stand o from (env_of l))) (omega arith)

  pub nest-is : (i : Inside) → ((lv : ℕ) → rows lv ≡ plus 1 (child_rows (data_of lv) (rule_by (container f g (holds_of i) silent) (holds_of i) (head t t-own (pos n) a b []))) (stand o from (env_of l)))
      → NestIs o l at (contents_of (nest_in i f g a b n) from) rows
  nest-is Several h = record {
    form-is = formed f a;
    other_is = formed f a;
    form_stands = stands-formed f a a-good;
    other_stands = stands-formed f a a-good;
    one_form = tt;
    few = omega arith;
    by_position = refl;
    further = further;
    within = within;
    room = omega (arith, l.few);
    counted = λ lv. h lv ∙ from_start false (formed f a) (formed f a) n lv ∙ sym (inside-silent (data_of lv) 0 _ 1 _);
  }
  nest-is Pairs h = record {
    form-is = formed f a;
    other_is = formed g b;
    form_stands = stands-formed f a a-good;
    other_stands = stands-formed g b b-good;
    one_form = tt;
    few = omega arith;
    by_position = refl;
    further = further;
    within = within;
    room = omega (arith, l.few);
    counted = λ lv. h lv ∙ from_start true (formed f a) (formed g b) (2 * n) lv ∙ sym (inside-silent (data_of lv) 0 _ 1 _);
  }
  nest-is Sparse h = record {
    form-is = formed f a;
    other_is = formed f a;
    form_stands = stands-formed f a a-good;
    other_stands = stands-formed f a a-good;
    one_form = refl;
    few = omega arith;
    by_position = refl;
    further = further;
    within = within;
    room = omega (arith, l.few);
    counted = λ lv. h lv ∙ sym (inside-silent (data_of lv) 0 _ 1 _);
  }
  nest-is User h = record {
    form-is = whole false;
    other_is = whole false;
    form_stands = record { means = (refl, refl); sound = tt };
    other_stands = record { means = (refl, refl); sound = tt };
    one_form = refl;
    few = omega arith;
    by_position = refl;
    further = further;
    within = within;
    room = omega (arith, l.few);
    counted = λ lv. h lv ∙ sym (inside-silent (data_of lv) 0 _ 1 _);
  }

-- ---- the data of a container, step by step

bind-stop : {A B : Type 0} (p : Reader A) (k : A → Reader B) {s : State} {r : Refusal} → p s ≡ stop r → (p >>= k) s ≡ stop r
unfolding ◌>>=◌
bind-stop p k h = rw h

bind-got : {A B : Type 0} (p : Reader A) (k : A → Reader B) {s s' : State} {a : A} → p s ≡ got a s' → (p >>= k) s ≡ k a s'
unfolding ◌>>=◌
bind-got p k h = rw h

module _ (o : List ℕ) (h : Shape) (at : ℕ) {x : Result (ℕ × ℤ) Refusal} (one : TypeAt o h.first at x) where
  -- the rows of a container's data, from its first element type on
  abbrev rows_from : ℕ → ℤ → ℕ → ℤ → ℤ → ℤ → Reader ℕ
  rows_from lv t own a b n = plus 1 (child_rows (data_of lv) (rule_by (container h.first h.second (holds_of h.inside) silent) (holds_of h.inside) (head t own n a b [])))

  start : (l : Identities) (once : Bool) (p : ℕ) (t : ℤ) (own lv : ℕ) → kind_of t ≡ container h.first h.second (holds_of h.inside) silent
      → value_rows (judged (data_of (suc lv)) once t own p) (stand o at (env_of l))
      ≡ (element h.first >>= λ a. element h.second >>= λ b. number amount >>= rows_from lv t own a b) (stand o at (env_of l))
  start l once p t own lv i = judged-silent (data_of (suc lv)) once t own p (stand o at (env_of l)) _ i refl refl ∙ container-rows lv t own p (stand o at (env_of l)) i

  pub holder-alien : {r : Refusal} → x ≡ Err r → HolderPlan o h at (Err r)
  holder-alien e = record {
    plan = λ l once p. record {
      plan = λ t own i lv.
          start l once p t own lv i ∙ bind-stop (element h.first) _ (subst (TypeIs o h.first at) e one.is (env_of l));
    };
  }

  module _ {at2 : ℕ} {a : ℤ} (e : x ≡ Ok (at2, a)) {y : Result (ℕ × ℤ) Refusal} (two : TypeAt o h.second at2 y) where
    abbrev first-is : TypeIs o h.first at (Ok (at2, a))
    first-is = subst (TypeIs o h.first at) e one.is

    then : (l : Identities) (once : Bool) (p : ℕ) (t : ℤ) (own lv : ℕ) → kind_of t ≡ container h.first h.second (holds_of h.inside) silent
        → value_rows (judged (data_of (suc lv)) once t own p) (stand o at (env_of l)) ≡ (element h.second >>= λ b. number amount >>= rows_from lv t own a b) (stand o at2 (env_of l))
    then l once p t own lv i = start l once p t own lv i ∙ bind-got (element h.first) _ (first-is.3 (env_of l))

    pub holder-alien-2 : {r : Refusal} → y ≡ Err r → HolderPlan o h at (Err r)
    holder-alien-2 g = record {
      plan = λ l once p. record {
        plan = λ t own i lv.
            then l once p t own lv i ∙ bind-stop (element h.second) _ (subst (TypeIs o h.second at2) g two.is (env_of l));
      };
    }

    module _ {at3 : ℕ} {b : ℤ} (g : y ≡ Ok (at3, b)) {z : Result (ℕ × ℕ) Refusal} (three : AmountAt o at3 z) where
      abbrev second_is : TypeIs o h.second at2 (Ok (at3, b))
      second_is = subst (TypeIs o h.second at2) g two.is

      last : (l : Identities) (once : Bool) (p : ℕ) (t : ℤ) (own lv : ℕ) → kind_of t ≡ container h.first h.second (holds_of h.inside) silent
          → value_rows (judged (data_of (suc lv)) once t own p) (stand o at (env_of l)) ≡ follow (amount_out o (env_of l) z) (rows_from lv t own a b)
      unfolding ◌>>=◌
      last l once p t own lv i = then l once p t own lv i ∙ bind-got (element h.second) _ (second_is.3 (env_of l))
          ∙ ap (λ (x : Out ℤ). follow x (rows_from lv t own a b)) (sym (three.same (env_of l)))

      pub holder-none : {r : Refusal} → z ≡ Err r → HolderPlan o h at (Err r)
      holder-none q = record { plan = λ l once p. record { plan = λ t own i lv. last l once p t own lv i ∙ rw q } }

      pub holder-nest : {from n : ℕ} {a' b' : ℤ} {k : Nest} → z ≡ Ok (from, n) → a' ≡ a → b' ≡ b → k ≡ nest_in h.inside h.first h.second a' b' n → HolderPlan o h at (Ok (Nested (contents_of k from)))
      holder-nest {from} {n} q ea eb d = let past = subst (PastAmount o at3) q three.past in rw (d, ea, eb) record {
        plan = λ l once p. record {
          plan = λ t own i.
              nest-is o l (at + 1) own from n t a b h.first h.second _ first-is.0 second_is.0 (omega (arith, first-is.1, second_is.1, past.0)) past.1 past.2 h.inside
              (λ lv. last l once p t own lv i ∙ rw q);
        };
      }
