-- Messages: an accepted one is the spelling of its value and of the grammar; none is a proper front part of another, and measuring.
use mathlib.Core.Path.{◌≡◌, refl, sym, ap, ◌∙◌, subst}
use mathlib.Core.Bool.{Bool, true, false}
use mathlib.Core.Logic.{◌↔◌}
use mathlib.Core.List.{List, [], ◌∷◌, ◌++◌, append-nil}
use Prim.Native.Nat.{ℕ, ◌≤◌}
use native.Mathlib.Omega.{arith}
use lib.ListN.{length, length-append}
use Rattle.reading.specs.Reading.{State, got, ◌>>=◌, return, require, here, ahead, start}
use Rattle.reading.proofs.Sound.{Octets, on, never}
use Rattle.format.specs.Values.{Value, outermost}
use Rattle.format.specs.Spelling.{spell}
use Rattle.format.specs.Message.{ok, most_octets, is_empty, ends, whole_message, message, first_length, measure}
use Rattle.format.specs.Grammar.{Valid}
use Rattle.laws.specs.Words.{FrontPart}
use Rattle.laws.proofs.Steps.{steps, reads, reads_so, octets-part}
use Rattle.laws.proofs.Tests.{clash}
use Rattle.laws.proofs.Sound.{outermost-sound}

-- ---- one value, and nothing left over

nothing_left : (l : List ℕ) → is_empty l ≡ true → l ≡ []
nothing_left [] e = refl
nothing_left (b ∷ l) e = clash (sym e)

ends_is : (s s' : State) → ends s ≡ got tt s' → (s.left ≡ []) × (s ≡ s')
unfolding ends here ahead require ◌>>=◌
ends_is s s' e = by (is_empty s.left) refl e
  where
    by : (t : Bool) → is_empty s.left ≡ t → require t 11 s.at s ≡ got tt s' → (s.left ≡ []) × (s ≡ s')
    by true h z = (nothing_left s.left h, cc)
    by false h z = absurd (never z)

pub whole_is : (s s' : State) (v : Value) → whole_message s ≡ got v s' → (outermost s ≡ got v s') × (s'.left ≡ [])
unfolding whole_message return
whole_is s s' v e =
    let a = steps outermost _ s v s' e in
    let b = steps ends _ a.state v s' a.then in
    by a.result a.state b.state a.did b.did b.then
  where
    by : (w : Value) (s₁ s₂ : State) → outermost s ≡ got w s₁ → ends s₁ ≡ got tt s₂ → got w s₂ ≡ got v s' → (outermost s ≡ got v s') × (s'.left ≡ [])
    by w s₁ s₂ d m z =
        let q = ends_is s₁ s₂ m in
        let wv : w ≡ v = cc in
        let ss : s₁ ≡ s' = cc q.1 in
        (rw (← wv, ← ss) d, rw (← ss) q.0)

pub whole-so : (s s' : State) (v : Value) → outermost s ≡ got v s' → s'.left ≡ [] → whole_message s ≡ got v s'
unfolding whole_message ends here ahead return require ◌>>=◌
whole-so s s' v e m = rw (e, m)

-- ---- an accepted message

-- it is the spelling of its value, which is of the grammar, and is read so again whatever follows
pub record Accepted (o : List ℕ) (v : Value) : Type 0 where
  pub short : length o ≤ most_octets
  pub spelt : spell v ≡ o
  pub valid : Valid v
  pub again : (r : List ℕ) → (s : State) × (outermost (start (o ++ r)) ≡ got v s) × (s.left ≡ r) × (s.at ≡ length o)

-- the first value of a run
pub record First (o : List ℕ) (v : Value) (s : State) : Type 0 where
  pub taken : List ℕ
  pub split : o ≡ taken ++ s.left
  pub at_is : s.at ≡ length taken
  pub spelt_is : taken ≡ spell v
  pub again : (r : List ℕ) → outermost (start (taken ++ r)) ≡ got v (on s r)
  pub valid : Valid v

pub first-is : (o : List ℕ) (v : Value) (s : State) → Octets o → outermost (start o) ≡ got v s → First o v s
first-is o v s x e =
    let t = (outermost-sound (start o)).sound x v s e in
    record {
      taken = t.0;
      split = t.1.split;
      at_is = omega (arith, t.1.moved);
      spelt_is = t.2.1;
      again = t.1.again;
      valid = record { outermost = t.2.0; shaped = t.2.2.shaped; deep = t.2.2.deep; named = t.2.2.named };
    }

pub accepted-is : (o : List ℕ) (v : Value) → Octets o → message o ≡ ok v → Accepted o v
unfolding message
accepted-is o v x e =
    let r = reads whole_message o v e in
    let w = whole_is (start o) r.state v r.read in
    by r.short r.state (first-is o v r.state x w.0) w.1
  where
    by : length o ≤ most_octets → (s : State) → First o v s → s.left ≡ [] → Accepted o v
    by short s f none =
        let all : o ≡ f.taken = f.split ∙ rw (none, append-nil f.taken) in
        record { short = short; spelt = sym (all ∙ f.spelt_is); valid = f.valid; again = λ r. (on s r, rw all (f.again r), refl, rw all f.at_is) }

-- ---- front parts

-- no accepted message is a proper front part of another
pub prefix-free : (o x : List ℕ) (v w : Value) → Octets o → message o ≡ ok v → message (o ++ x) ≡ ok w → x ≡ []
unfolding message
prefix-free o x v w y e f =
    let a = (accepted-is o v y e).again x in
    let r = reads whole_message (o ++ x) w f in
    let z = whole_is (start (o ++ x)) r.state w r.read in
    by a.0 r.state a.1 z.0 a.2 z.1
  where
    by : (s s' : State) → outermost (start (o ++ x)) ≡ got v s → outermost (start (o ++ x)) ≡ got w s' → s.left ≡ x → s'.left ≡ [] → x ≡ []
    by s s' p q l m = let ss : s ≡ s' = cc in sym l ∙ ap (λ (y : State). y.left) ss ∙ m

measure-part : (o : List ℕ) (n : ℕ) → Octets o → measure o ≡ ok n → FrontPart o n
unfolding measure first_length message here
measure-part o n x e =
    let r = reads first_length o n e in
    let a = steps outermost _ (start o) n r.state r.read in
    by r.short a.result a.state r.state (first-is o a.result a.state x a.did) a.then
  where
    by : length o ≤ most_octets → (v : Value) (s s' : State) → First o v s → got s.at s ≡ got n s' → FrontPart o n
    by short v s s' f z =
        let long : s.at ≡ n = cc in
        let alone : outermost (start f.taken) ≡ got v (on s []) = subst (λ (l : List ℕ). outermost (start l) ≡ got v (on s [])) (append-nil f.taken) (f.again []) in
        let fits : length f.taken ≤ most_octets = omega (arith, simp length-append at (ap length f.split)) in
        record {
          part = f.taken;
          rest = s.left;
          said = v;
          split = f.split;
          accepted = reads_so whole_message f.taken v (record { short = fits; state = on s []; read = whole-so (start f.taken) (on s []) v alone refl });
          long = sym f.at_is ∙ long;
        }

part-measure : (o : List ℕ) (n : ℕ) → Octets o → length o ≤ most_octets → FrontPart o n → measure o ≡ ok n
unfolding measure first_length here ◌>>=◌
part-measure o n x short f =
    let a = (accepted-is f.part f.said (octets-part f.part f.rest (subst Octets f.split x)) f.accepted).again f.rest in
    by a.0 (ap (λ (l : List ℕ). outermost (start l)) f.split ∙ a.1) (a.3 ∙ f.long)
  where
    by : (s : State) → outermost (start o) ≡ got f.said s → s.at ≡ n → measure o ≡ ok n
    by s e z = reads_so first_length o n (record { short = short; state = s; read = rw (e, ◌>>=◌) (ap (λ (m : ℕ). got m s) z) })

-- measuring accepts exactly where some front part is an accepted message, and gives its length
pub measure-exactly : (o : List ℕ) (n : ℕ) → Octets o → measure o ≡ ok n ↔ ((length o ≤ most_octets) × FrontPart o n)
unfolding measure
measure-exactly o n x = (λ e. ((reads first_length o n e).short, measure-part o n x e), λ h. part-measure o n x h.0 h.1)
