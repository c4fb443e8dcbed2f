-- A string's contents, character by character and by runs of plain ones.
use mathlib.Core.Path.{◌≡◌, refl, sym, subst, ◌∙◌}
use mathlib.Core.Bool.{Bool, true, false, cond}
use mathlib.Core.List.{List, [], ◌∷◌}
use Prim.Native.Nat.{ℕ, zero, suc, ◌+◌, ◌-◌, ◌<◌, ◌≤◌}
use native.Mathlib.Omega.{arith}
use native.Mathlib.Nat.{add-zero}
use lib.ListN.{length, get_or, take, drop}
use lib.Dec.{ltb}
use lib.IntN.{pos}
use borrow.Author.Tests.{lt-ltb, le-ltb}
use borrow.Author.Count.{below_more}
use Rattle.reading.specs.Reading.{Env, State, Out, got, stop, refusal, stand, follow, ◌>>=◌, return, require, here}
use Rattle.format.specs.Types.{octets, characters}
use Rattle.format.specs.Data.{followers, is_char, chars, contents}
use Rattle.scalar.specs.Answers.{Passes}
use Rattle.std.specs.Prelude.{Option, Some, None, Ok, Err}
use Rattle.scalar.specs.Parts.{Within, part, counts, Spells, Plain, Reached, Told}
use Rattle.scalar.proofs.Passing.{passes-got, passes-stop}
use Rattle.scalar.proofs.Octets.{run_at, run_end, part-more, part-drop, part_none}
use Rattle.scalar.proofs.Chars.{is_one, counts-yes, spells_one}

chars-skip : (k p : ℕ) (l : List ℕ) (s : State) → chars k p l s ≡ chars 0 (p + k) (drop k l) s
unfolding chars
chars-skip zero p l s = rw (add-zero p)
chars-skip (suc k) p [] s = refl
chars-skip (suc k) p (a ∷ l) s = let next : p + 1 + k ≡ p + suc k = omega arith in chars-skip k (p + 1) l s ∙ rw next

module _ {o : List ℕ} {at end : ℕ} {r : Option ℕ} (h : end ≤ length o) (g : at < end) (w : Spells o at end r) (s : State) where
  abbrev f : ℕ
  f = followers (get_or o at 0)

  abbrev front : List ℕ
  front = take (1 + f) (get_or o at 0 ∷ part o (at + 1) end)

  counted : r ≡ counts (1 + f) front
  counted = w.same ∙ rw (part-more o end h at g)

  opened : (t : Bool) → is_char front ≡ t → chars 0 at (part o at end) s ≡ cond t (chars f (at + 1) (part o (at + 1) end) s) (stop (refusal 6 at))
  unfolding chars ◌>>=◌ require
  opened t e = rw (part-more o end h at g, chars, e) (by t)
    where
      by : (t : Bool) → follow (require t 6 at s) (λ _. chars f (at + 1) (part o (at + 1) end)) ≡ cond t (chars f (at + 1) (part o (at + 1) end) s) (stop (refusal 6 at))
      by true = refl
      by false = refl

  chars-bad : r ≡ None → chars 0 at (part o at end) s ≡ stop (refusal 6 at)
  chars-bad z = by (is_char front) refl
    where
      by : (t : Bool) → is_char front ≡ t → chars 0 at (part o at end) s ≡ stop (refusal 6 at)
      by true e = let is : r ≡ Some (1 + f) = counted ∙ rw e in let w : ◌≡◌ {A = ℕ} 0 1 = cc in absurd (omega arith)
      by false e = opened false e

  chars-on : {k : ℕ} → r ≡ Some k → chars 0 at (part o at end) s ≡ chars 0 (at + k) (part o (at + k) end) s
  chars-on {k} n = by (is_char front) refl
    where
      by : (t : Bool) → is_char front ≡ t → chars 0 at (part o at end) s ≡ chars 0 (at + k) (part o (at + k) end) s
      by true e =
          let is : r ≡ Some (1 + f) = counted ∙ rw e in
          let same : k ≡ 1 + f = cc in
          let next : at + 1 + f ≡ at + k = omega arith in
          opened true e ∙ chars-skip f (at + 1) (part o (at + 1) end) s ∙ rw (part-drop o end h f (at + 1) (omega (arith, (subst (Within at end) n w.within).1)), next)
      by false e = let is : r ≡ None = counted ∙ rw e in let w : ◌≡◌ {A = ℕ} 0 1 = cc in absurd (omega arith)

-- ---- how far they are well spelt

pub reached-first : (o : List ℕ) (from end : ℕ) → from ≤ end → Reached o from end from
reached-first o from end h = record { past = omega arith; within = h; same = λ s. refl }

module _ {o : List ℕ} {from end at : ℕ} (h : end ≤ length o) (q : Reached o from end at) where
  pub reached-more : {r : Option ℕ} {k : ℕ} → at < end → Spells o at end r → r ≡ Some k → Reached o from end (at + k)
  reached-more g w n = record { past = omega (arith, q.past); within = (subst (Within at end) n w.within).1; same = λ s. q.same s ∙ chars-on h g w s n }

  pub told-bad : {r : Option ℕ} → at < end → Spells o at end r → r ≡ None → Told o from end at
  told-bad g w z = record { within = q.within; same = λ s. q.same s ∙ chars-bad h g w s z ∙ sym (rw (lt-ltb at end g)) }

  pub told-end : end ≤ at → Told o from end at
  unfolding chars return
  told-end g =
      let is : at ≡ end = omega (arith, q.within) in
      record { within = q.within; same = λ s. q.same s ∙ rw (le-ltb at end g, is, part_none o end) }

  pub told-from : {r : ℕ} → Told o at end r → Told o from end r
  told-from t = record { within = t.within; same = λ s. q.same s ∙ t.same s }

-- ---- plain characters

plain-rest : (o : List ℕ) (at n : ℕ) → Plain o at (suc n) → Plain o (at + 1) n
plain-rest o at n p j h = let next : at + 1 + j ≡ at + suc j = omega arith in rw next (p (suc j) (omega arith))

pub plain_more : {o : List ℕ} {from end : ℕ} (h : end ≤ length o) (n at : ℕ) → Reached o from end at → Plain o at n → at + n ≤ end → Reached o from end (at + n)
plain_more {o} {from} {end} h zero at q p g = subst (Reached o from end) (sym (add-zero at)) q
plain_more {o} {from} {end} h (suc n) at q p g =
    let first : (0 < get_or o at 0) × (get_or o at 0 < 128) = rw (add-zero at) at (p 0 (omega arith)) in
    let one = spells_one o at end (omega arith) h first.1 (counts-yes 1 _ (is_one _ first.0 first.1)) in
    let next : at + 1 + n ≡ at + suc n = omega arith in
    subst (Reached o from end) next (plain_more h n (at + 1) (reached-more h q (omega arith) one refl) (plain-rest o at n p) (omega arith))

-- the last of them, where octets after the end are plain too
pub told-plain : {o : List ℕ} {from end at : ℕ} → end ≤ length o → Reached o from end at → Plain o at 16 → end - at < 16 → Told o from end end
told-plain {o} {from} {end} {at} h q p g =
    let all = plain_more h (end - at) at q (λ j k. p j (omega arith)) (omega (arith, q.within)) in
    told-end h (subst (Reached o from end) (omega (arith, q.within)) all) (omega arith)

pub plain-again : (o : List ℕ) (at k : ℕ) → Plain o at k → 0 < get_or o (at + k) 0 → get_or o (at + k) 0 < 128 → Plain o at (k + 1)
plain-again o at k p a b = below_more _ _ p (a, b)

-- ---- the contents

module _ {o : List ℕ} {at : ℕ} (n : ℕ) where
  pub text-short : (t : Bool) → at ≤ length o → length o < at + n → Passes n o at (contents (cond t characters octets) (pos n)) (Err (refusal 1 (length o)))
  unfolding contents ◌>>=◌ here
  text-short true h g = passes-stop λ e. rw (run_end o e n at h g)
  text-short false h g = passes-stop λ e. run_end o e n at h g

  module _ {t : Bool} (h : at + n ≤ length o) where
    pub text-octets : t ≡ false → Passes n o at (contents (cond t characters octets) (pos n)) (Ok (at + n))
    unfolding contents
    text-octets e = rw e (passes-got _ (λ e. run_at o e n at h) (omega arith) h)

    read : {r : ℕ} → t ≡ true → Told o at (at + n) r → (e : Env)
        → contents (cond t characters octets) (pos n) (stand o at e) ≡ follow (cond {0} {A = Out (Unit {0})} (ltb r (at + n)) (stop (refusal 6 r)) (got (tt {0}) (stand o (at + n) e))) (λ _. return (take n (drop at o)))
    unfolding contents ◌>>=◌ here stand
    read w q e =
        let size : at + n - at ≡ n = omega arith in
        rw (w, run_at o e n at h, ← q.same (stand o (at + n) e), size)

    pub text-bad : {r : ℕ} → t ≡ true → Told o at (at + n) r → r < at + n → Passes n o at (contents (cond t characters octets) (pos n)) (Err (refusal 6 r))
    text-bad {r} w q g = passes-stop λ e. read w q e ∙ rw (lt-ltb r (at + n) g)

    pub text-good : {r : ℕ} → t ≡ true → Told o at (at + n) r → at + n ≤ r → Passes n o at (contents (cond t characters octets) (pos n)) (Ok (at + n))
    unfolding return
    text-good {r} w q g = passes-got (take n (drop at o)) (λ e. read w q e ∙ rw (le-ltb r (at + n) g)) (omega arith) h
