-- Fields, by the place of the first blank.
use mathlib.Core.Path.{◌≡◌, refl, sym, ap, ◌∙◌}
use mathlib.Core.Bool.{Bool, true, false, cond}
use mathlib.Core.List.{List, [], ◌∷◌}
use Prim.Native.Nat.{ℕ, zero, suc, ◌+◌, ◌-◌, ◌<◌, ◌≤◌}
use native.Mathlib.Omega.{arith}
use lib.ListN.{length, get_or, take, drop, length-drop}
use lib.Seq.{take_all, drop-drop}
use lib.Dec.{eqb}
use lib.IntN.{ℤ}
use Rattle.octets.specs.Octets.{slice, index_after, index_of}
use Rattle.std.specs.Prelude.{Option, Some, None}
use Rattle.format.specs.declared.As.{As}
use Rattle.queries.specs.Numerals.{numeral_of, is_number}
use Rattle.queries.specs.Queries.{onto, fields_of, after, word_of, last_word}
use Rattle.queries.specs.Reads.{NumberRead}

-- ---- the first field

-- up to the first blank
first : (l : List ℕ) → index_of 0x20 l < length l → fields_of l ≡ take (index_of 0x20 l) l ∷ fields_of (drop (index_of 0x20 l + 1) l)
unfolding fields_of index_of index_after
first [] h = absurd (omega arith)
first (b ∷ l) h = by (first l) (eqb b 0x20) h
  where
    by : (index_of 0x20 l < length l → fields_of l ≡ take (index_of 0x20 l) l ∷ fields_of (drop (index_of 0x20 l + 1) l)) → (y : Bool) → index_after y (index_of 0x20 l) < suc (length l)
        → cond y ([] ∷ fields_of l) (onto b (fields_of l)) ≡ take (index_after y (index_of 0x20 l)) (b ∷ l) ∷ fields_of (drop (index_after y (index_of 0x20 l) + 1) (b ∷ l))
    by more true h = refl
    by more false h =
        let k : suc (index_of 0x20 l) + 1 ≡ suc (index_of 0x20 l + 1) = omega arith in
        rw k (ap (onto b) (more (omega (arith, h))))

-- all of it where there is no blank
only : (l : List ℕ) → length l ≤ index_of 0x20 l → fields_of l ≡ l ∷ []
unfolding fields_of index_of index_after
only [] h = refl
only (b ∷ l) h = by (only l) (eqb b 0x20) h
  where
    by : (length l ≤ index_of 0x20 l → fields_of l ≡ l ∷ []) → (y : Bool) → suc (length l) ≤ index_after y (index_of 0x20 l) → cond y ([] ∷ fields_of l) (onto b (fields_of l)) ≡ (b ∷ l) ∷ []
    by more true h = absurd (omega (arith, h))
    by more false h = ap (onto b) (more (omega (arith, h)))

-- the field at a place, where the search for a blank ends
module _ (line : List ℕ) (at : ℕ) {end : ℕ} (h : at ≤ length line) (f : end ≡ at + index_of 0x20 (slice at (length line) line)) where
  rest : slice at (length line) line ≡ drop at line
  unfolding slice
  rest = ap (drop at) (take_all (length line) line (omega arith))

  width : end ≡ at + index_of 0x20 (drop at line)
  width = f ∙ ap (λ (l : List ℕ). at + index_of 0x20 l) rest

  pub field-first : end < length line → fields_of (drop at line) ≡ take (end - at) (drop at line) ∷ fields_of (drop (end + 1) line)
  field-first g =
      let e : index_of 0x20 (drop at line) ≡ end - at = omega (arith, width) in
      let p : at + (end - at + 1) ≡ end + 1 = omega (arith, width) in
      (rw (e, drop-drop (end - at + 1) at line, p) at (first (drop at line) (omega (arith, width, length-drop at line))))

  pub field-only : length line ≤ end → fields_of (drop at line) ≡ drop at line ∷ []
  field-only g = only (drop at line) (omega (arith, width, length-drop at line))

-- ---- the fields after numbers

pub after_none : (k : ℕ) → after k [] ≡ []
unfolding after
after_none zero = refl
after_none (suc k) = refl

pub after_one : (k : ℕ) (f : List ℕ) (fs : List (List ℕ)) {n : ℤ} → numeral_of f ≡ Some n → after (suc k) (f ∷ fs) ≡ after k fs
unfolding after
after_one k f fs e = rw e

after-not : (f : List ℕ) (fs : List (List ℕ)) → numeral_of f ≡ None → after 1 (f ∷ fs) ≡ []
unfolding after
after-not f fs e = rw e

after-alone : (f : List ℕ) → after 1 (f ∷ []) ≡ []
unfolding after
after-alone f = by (is_number (numeral_of f))
  where
    by : (t : Bool) → cond {A = List (List ℕ)} t [] [] ≡ []
    by true = refl
    by false = refl

-- where one number is not there, more are not
pub after_stop : (k : ℕ) (fs : List (List ℕ)) → after 1 fs ≡ [] → after (suc k) fs ≡ []
unfolding after
after_stop k [] e = refl
after_stop k (f ∷ fs) e = by (is_number (numeral_of f)) e
  where
    by : (t : Bool) → cond t fs [] ≡ [] → cond t (after k fs) [] ≡ []
    by true e = ap (after k) e ∙ after_none k
    by false e = refl

pub after_more : (j k : ℕ) (fs : List (List ℕ)) → after (j + k) fs ≡ after k (after j fs)
unfolding after
after_more zero k fs = let e : 0 + k ≡ k = omega arith in rw e
after_more (suc j) k [] = let e : suc j + k ≡ suc (j + k) = omega arith in rw e (sym (after_none k))
after_more (suc j) k (f ∷ fs) = let e : suc j + k ≡ suc (j + k) = omega arith in rw e (by (after_more j k fs) (is_number (numeral_of f)))
  where
    by : after (j + k) fs ≡ after k (after j fs) → (t : Bool) → cond t (after (j + k) fs) [] ≡ after k (cond t (after j fs) [])
    by more true = more
    by more false = sym (after_none k)

-- the field that comes first after k numbers
pub after_next : (k : ℕ) (fs : List (List ℕ)) {f : List ℕ} {gs : List (List ℕ)} → after k fs ≡ f ∷ gs → get_or fs k [] ≡ f
unfolding after
after_next zero fs e = ap (λ (l : List (List ℕ)). get_or l 0 []) e
after_next (suc k) [] e = let z : ◌≡◌ {A = ℕ} 0 1 = cc in absurd (omega arith)
after_next (suc k) (g ∷ fs) {f} {gs} e = by (λ e. after_next k fs e) (is_number (numeral_of g)) e
  where
    by : (after k fs ≡ f ∷ gs → get_or fs k [] ≡ f) → (t : Bool) → cond t (after k fs) [] ≡ f ∷ gs → get_or fs k [] ≡ f
    by more true e = more e
    by more false e = let z : ◌≡◌ {A = ℕ} 0 1 = cc in absurd (omega arith)

-- ---- a number at a place

module _ (line : List ℕ) (at : ℕ) {end : ℕ} (h : at ≤ length line) (f : end ≡ at + index_of 0x20 (slice at (length line) line)) where
  pub number-last : length line ≤ end → after 1 (fields_of (drop at line)) ≡ []
  number-last g = ap (after 1) (field-only line at h f g) ∙ after-alone (drop at line)

  pub number-not : end < length line → numeral_of (take (end - at) (drop at line)) ≡ None → after 1 (fields_of (drop at line)) ≡ []
  number-not g e = ap (after 1) (field-first line at h f g) ∙ after-not (take (end - at) (drop at line)) (fields_of (drop (end + 1) line)) e

  pub number_read : end < length line → {k : ℤ} → numeral_of (take (end - at) (drop at line)) ≡ Some k → NumberRead line at k (end + 1)
  number_read g e = record { field = take (end - at) (drop at line); says = e; parts = field-first line at h f g; within = omega arith }

-- ---- a word at a place

-- there is a field after a blank
two : (f l : List ℕ) → last_word (f ∷ fields_of l) ≡ None
unfolding fields_of
two f [] = refl
two f (b ∷ l) = by (eqb b 0x20) (fields_of l)
  where
    by : (t : Bool) (fs : List (List ℕ)) → last_word (f ∷ cond t ([] ∷ fs) (onto b fs)) ≡ None
    by true fs = refl
    by false [] = refl
    by false (g ∷ fs) = refl

module _ (line : List ℕ) (at : ℕ) {end : ℕ} (h : at ≤ length line) (f : end ≡ at + index_of 0x20 (slice at (length line) line)) where
  pub word-not : end < length line → None ≡ last_word (fields_of (drop at line))
  word-not g = sym (ap last_word (field-first line at h f g) ∙ two (take (end - at) (drop at line)) (drop (end + 1) line))

  pub word-last : length line ≤ end → {w : Option As} → w ≡ word_of (take (length line - at) (drop at line)) → w ≡ last_word (fields_of (drop at line))
  word-last g q = q ∙ ap word_of (take_all (length line - at) (drop at line) (omega (arith, length-drop at line))) ∙ sym (ap last_word (field-only line at h f g))

-- ---- numbers passed

pub pass-none : (line : List ℕ) (at count : ℕ) → after count (fields_of (drop at line)) ≡ after (count - 0) (fields_of (drop at line))
pass-none line at count = let e : count - 0 ≡ count = omega arith in rw e

module _ (line : List ℕ) (at count i : ℕ) where
  pub pass-again : {k : ℤ} {next : ℕ} → NumberRead line at k next → i < count → after (count - i) (fields_of (drop at line)) ≡ after (count - (i + 1)) (fields_of (drop next line))
  pass-again {next = next} r h =
      let e : count - i ≡ suc (count - (i + 1)) = omega arith in
      rw (e, r.parts) (after_one (count - (i + 1)) r.field (fields_of (drop next line)) r.says)

  pub pass-stop : after 1 (fields_of (drop at line)) ≡ [] → i < count → after (count - i) (fields_of (drop at line)) ≡ []
  pass-stop s h = let e : count - i ≡ suc (count - (i + 1)) = omega arith in rw e (after_stop (count - (i + 1)) (fields_of (drop at line)) s)

  pub pass_all : count ≤ i → after (count - i) (fields_of (drop at line)) ≡ fields_of (drop at line)
  unfolding after
  pass_all h = let e : count - i ≡ 0 = omega arith in rw e
