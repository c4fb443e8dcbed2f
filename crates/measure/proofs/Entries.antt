-- The outermost value, and what is left after it.
use mathlib.Core.Path.{◌≡◌, refl, sym, ap, subst, ◌∙◌}
use mathlib.Core.Bool.{false}
use mathlib.Core.List.{List}
use mathlib.Core.Logic.{◌⊎◌, inl, inr}
use Prim.Native.Nat.{ℕ, suc, ◌<◌, ◌≤◌}
use native.Mathlib.Omega.{arith}
use lib.ListN.{length, drop_of_length-le}
use lib.Seq.{drop-cons}
use Rattle.std.specs.Prelude.{Result, Ok, Err}
use Rattle.reading.specs.declared.Refusal.{Refusal}
use Rattle.reading.specs.Reading.{Env, State, Out, got, stop, refusal, Reader, stand, follow, ◌>>=◌, return, require, names, rename, here, ahead}
use Rattle.format.specs.Types.{silent}
use Rattle.format.specs.Values.{Value, Form, whole, Inner, leave, each, data_of, outermost}
use Rattle.format.specs.Rows.{count, rows}
use Rattle.format.specs.Message.{Answer, ok, refused, then, answer, most_octets, ends, whole_message, message, first_length, measure}
use Rattle.format.proofs.Counts.{value-rows, reading-long, reading-short}
use Rattle.decide.specs.declared.Form.TheVariants.{Whole}
use Rattle.decide.specs.declared.Nest.{Nest}
use Rattle.decide.specs.Forms.{alike_nest}
use Rattle.measure.specs.declared.identities.Identities.{Identities}
use Rattle.measure.specs.Tally.{plus, value_rows, child_rows, inside, onward, rest}
use Rattle.measure.specs.Identities.{env_of, listed}
use Rattle.measure.specs.Cycle.{step_out, Going, Standing, CanHold, HasHeld}
use Rattle.measure.specs.Plans.{contents_of}
use Rattle.measure.specs.Entries.{none, PastFirst, FirstAt, Outermost, answer_of, rows_needed}
use Rattle.measure.proofs.Counts.{rest-coming, plus-zero}
use Rattle.measure.proofs.Cycle.{inside-opened}

-- no identities
pub record Fresh (l : Identities) : Type 0 where
  pub no_given : l.given_count ≡ 0
  pub no_ended : l.ended_count ≡ 0

fresh-env : {l : Identities} → Fresh l → env_of l ≡ none
unfolding env_of listed
fresh-env {l} f = rw (f.no_given, f.no_ended)

whole-forms : Standing Whole Whole false (whole false) (whole false)
whole-forms = record { first = record { means = (refl, refl); sound = tt }; second = record { means = (refl, refl); sound = tt }; alike = tt }

pub first-can-hold : {o : List ℕ} {l : Identities} {at : ℕ} {k : Nest} → k ≡ alike_nest Whole 1 false → at ≤ length o → length o ≤ 65535 → Fresh l → CanHold o l (contents_of k at) 0
first-can-hold {o} {l} {at} q h s f = rw q record {
  within = h;
  few = omega arith;
  room = omega (arith, f.no_given);
  short = s;
  small = omega arith;
  by_position = refl;
  forms = (whole false, whole false, whole-forms);
}

one_inside : (inner : Inner) (f : Form) (o : List ℕ) (at : ℕ) (e : Env) → inside inner silent 0 (rest false false f f 1 0) 0 (stand o at e) ≡ value_rows (each inner f) (stand o at e)
unfolding onward ◌>>=◌ leave names rename return
one_inside inner f o at e =
    inside-opened inner silent 0 (rest false false f f 1 0) 0 o at e
    ∙ ap (λ (x : Out ℕ). follow x (λ k. leave silent 0 >>= λ _. return k)) (rest-coming inner false false f f 1 0 0 (stand o at e) (omega arith) tt)
    ∙ ap (λ (x : Out ℕ). follow (follow x (λ k. plus k (child_rows inner (rest false false f f 1 1)))) (λ k. leave silent 0 >>= λ _. return k)) (plus-zero (value_rows (each inner f)) (stand o at e))
    ∙ by (value_rows (each inner f) (stand o at e))
  where
    by : (x : Out ℕ) → follow (follow x (λ k. plus k (child_rows inner (rest false false f f 1 1)))) (λ k. leave silent 0 >>= λ _. return k) ≡ x
    by (got n s) = ap (λ (x : Out ℕ). follow x (λ k. leave silent 0 >>= λ _. return k)) (rest-coming inner false false f f 1 1 n s (omega arith) tt)
    by (stop r) = refl

pub first-held : {o : List ℕ} {l after : Identities} {at : ℕ} {k : Nest} {r : Result (ℕ × ℕ) Refusal} → k ≡ alike_nest Whole 1 false → Fresh l → HasHeld o l (contents_of k at) 0 16 r after → FirstAt o at r
unfolding outermost
first-held {o} {l} {after} {at} {k} {r} q f held = let h = subst (λ (y : Nest). HasHeld o l (contents_of y at) 0 16 r after) q held in record {
  after = env_of after;
  same = h.same (whole false) (whole false) whole-forms ∙ one_inside (data_of 16) (whole false) o at (env_of l) ∙ ap (λ (e : Env). value_rows outermost (stand o at e)) (fresh-env f);
  past = by r h.going;
}
  where
    by : (r : Result (ℕ × ℕ) Refusal) → Going o l after at r → PastFirst o at r
    by (Ok (next, n)) g = (g.0, g.1, g.2)
    by (Err r) g = tt

-- ---- 2 comes first

same_stop : {q r : Refusal} → ◌≡◌ {A = Result (ℕ × ℕ) Refusal} (Err q) (Err r) → q ≡ r
same_stop e = cc

never_on : {next n : ℕ} {r : Refusal} → ◌≡◌ {A = Result (ℕ × ℕ) Refusal} (Ok (next, n)) (Err r) → ⊥
never_on e = let z : ◌≡◌ {A = ℕ} 0 1 = cc in absurd (omega arith)

-- ---- measuring

abbrev pub length_of : Result (ℕ × ℕ) Refusal → Result ℕ Refusal
length_of (Ok (next, n)) = Ok next
length_of (Err r) = Err r

module _ (o : List ℕ) where
  measured-out : (e : Env) (r : Result (ℕ × ℕ) Refusal) (x : Out Value) → step_out o e r ≡ follow x (λ v. return (suc (count v.inside))) → answer_of (length_of r) ≡ answer (follow x (λ v. here))
  unfolding here return stand
  measured-out e (Ok (next, n)) (got v s) h = let k : stand o next e ≡ s = cc in ap (λ (s : State). ok s.at) k
  measured-out e (Ok (next, n)) (stop q) h = let z : ◌≡◌ {A = ℕ} 0 1 = cc in absurd (omega arith)
  measured-out e (Err r) (got v s) h = let z : ◌≡◌ {A = ℕ} 0 1 = cc in absurd (omega arith)
  measured-out e (Err r) (stop q) h = let k : r ≡ q = cc in ap refused k

  pub measured : {r k : Result (ℕ × ℕ) Refusal} → Outermost o r → r ≡ k → answer_of (length_of k) ≡ measure o
  unfolding measure first_length value_rows ◌>>=◌
  measured {r} f e = ap (λ (r : Result (ℕ × ℕ) Refusal). answer_of (length_of r)) (sym e) ∙ by f.is
    where
      by : ((most_octets < length o) × (r ≡ Err (refusal 2 0))) ⊎ ((length o ≤ most_octets) × FirstAt o 0 r) → answer_of (length_of r) ≡ measure o
      by (inl q) = ap (λ (r : Result (ℕ × ℕ) Refusal). answer_of (length_of r)) q.1 ∙ sym (reading-long first_length o q.0)
      by (inr q) = measured-out q.1.after r (outermost (stand o 0 none)) q.1.same ∙ sym (reading-short first_length o q.0)

-- ---- the rows of a message

abbrev finished : Value → Reader Value
finished v = ends >>= λ _. return v

abbrev amount : Value → Answer ℕ
amount v = ok (length (rows v))

module _ (o : List ℕ) where
  -- whether octets are left
  pub ends-left : (next : ℕ) (e : Env) → next < length o → ends (stand o next e) ≡ stop (refusal 11 next)
  unfolding ends here ahead require ◌>>=◌ stand
  ends-left next e h = rw (drop-cons o next 0 h)

  pub ends-all : (next : ℕ) (e : Env) → length o ≤ next → ends (stand o next e) ≡ got tt (stand o next e)
  unfolding ends here ahead require ◌>>=◌ stand
  ends-all next e h = rw (drop_of_length-le o h)

  left_over : (next : ℕ) (e : Env) (v : Value) → next < length o → refused (refusal 11 next) ≡ then (answer (finished v (stand o next e))) amount
  unfolding ◌>>=◌
  left_over next e v h = sym (ap (λ (x : Out (Unit {0})). then (answer (follow {B = Value} x (λ _. return v))) amount) (ends-left next e h))

  all_read : (next n : ℕ) (e : Env) (v : Value) → length o ≤ next → n ≡ suc (count v.inside) → ok n ≡ then (answer (finished v (stand o next e))) amount
  unfolding ◌>>=◌ return
  all_read next n e v h k = sym (ap (λ (x : Out (Unit {0})). then (answer (follow {B = Value} x (λ _. return v))) amount) (ends-all next e h) ∙ ap ok (value-rows v ∙ sym k))

  pub counted-out : (e : Env) (next n : ℕ) (x : Out Value) → step_out o e (Ok (next, n)) ≡ follow x (λ v. return (suc (count v.inside)))
      → (v : Value) × (x ≡ got v (stand o next e)) × (n ≡ suc (count v.inside))
  unfolding return
  counted-out e next n (got v s) h = let k : stand o next e ≡ s = cc in let m : n ≡ suc (count v.inside) = cc in (v, ap (got v) (sym k), m)
  counted-out e next n (stop q) h = let z : ◌≡◌ {A = ℕ} 0 1 = cc in absurd (omega arith)

  pub refused-out : (e : Env) {r : Refusal} (x : Out Value) → step_out o e (Err r) ≡ follow x (λ v. return (suc (count v.inside))) → x ≡ stop r
  unfolding return
  refused-out e (got v s) h = let z : ◌≡◌ {A = ℕ} 0 1 = cc in absurd (omega arith)
  refused-out e (stop q) h = cc

  by-message : length o ≤ 65535 → rows_needed o ≡ then (answer (follow (outermost (stand o 0 none)) finished)) amount
  unfolding rows_needed message whole_message ◌>>=◌
  by-message s = ap (λ (x : Answer Value). then x amount) (reading-short whole_message o s)

  counted-long : most_octets < length o → refused (refusal 2 0) ≡ rows_needed o
  unfolding rows_needed message
  counted-long h = sym (ap (λ (x : Answer Value). then x amount) (reading-long whole_message o h))

  module _ {r : Result (ℕ × ℕ) Refusal} (f : Outermost o r) where
    pub counted-refused : {q : Refusal} → r ≡ Err q → refused q ≡ rows_needed o
    unfolding value_rows ◌>>=◌
    counted-refused {q} e = by f.is
      where
        by : ((most_octets < length o) × (r ≡ Err (refusal 2 0))) ⊎ ((length o ≤ most_octets) × FirstAt o 0 r) → refused q ≡ rows_needed o
        by (inl k) = let w : q ≡ refusal 2 0 = same_stop (sym e ∙ k.1) in ap refused w ∙ counted-long k.0
        by (inr k) = sym (by-message k.0 ∙ ap (λ (x : Out Value). then (answer (follow x finished)) amount) (refused-out k.1.after (outermost (stand o 0 none)) (ap (step_out o k.1.after) (sym e) ∙ k.1.same)))

    module _ {next n : ℕ} (e : r ≡ Ok (next, n)) where
      -- such a value is accepted
      accepted : (length o ≤ most_octets) × (a : Env) × (v : Value) × (outermost (stand o 0 none) ≡ got v (stand o next a)) × (n ≡ suc (count v.inside))
      unfolding value_rows ◌>>=◌
      accepted = by f.is
        where
          by : ((most_octets < length o) × (r ≡ Err (refusal 2 0))) ⊎ ((length o ≤ most_octets) × FirstAt o 0 r) → (length o ≤ most_octets) × (a : Env) × (v : Value) × (outermost (stand o 0 none) ≡ got v (stand o next a)) × (n ≡ suc (count v.inside))
          by (inl k) = absurd (never_on (sym e ∙ k.1))
          by (inr k) = let w = counted-out k.1.after next n (outermost (stand o 0 none)) (ap (step_out o k.1.after) (sym e) ∙ k.1.same) in (k.0, k.1.after, w.0, w.1, w.2)

      by-accepted : rows_needed o ≡ then (answer (finished accepted.2 (stand o next accepted.1))) amount
      by-accepted = by-message accepted.0 ∙ ap (λ (x : Out Value). then (answer (follow x finished)) amount) accepted.3

      pub counted-left : next < length o → refused (refusal 11 next) ≡ rows_needed o
      counted-left h = left_over next accepted.1 accepted.2 h ∙ sym by-accepted

      pub counted : length o ≤ next → ok n ≡ rows_needed o
      counted h = all_read next n accepted.1 accepted.2 h accepted.4 ∙ sym by-accepted
