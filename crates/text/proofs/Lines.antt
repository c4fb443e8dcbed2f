-- Numbers in a line.
use mathlib.Core.Path.{◌≡◌, refl, ap, ◌∙◌}
use mathlib.Core.List.{List, [], ◌∷◌, ◌++◌, append_assoc}
use Prim.Native.Nat.{ℕ, ◌+◌, ◌<◌, ◌≤◌}
use native.Mathlib.Numerals.{add-one}
use lib.ListN.{length, get_or, drop, set, drop_of_length-le}
use lib.Seq.{drop-cons}
use lib.IntN.{ℤ, pos}
use mir.Syntax.{w64}
use mir.Val.{SFits, to_z, of_z}
use mir.ValLaws.{to_z-of_z}
use Rattle.format.specs.Desk.{decimal, numbers, row_text}
use Rattle.format.specs.declared.Row.{Row}
use Rattle.integer.specs.Writes.{Room, Wrote}
use Rattle.text.specs.Text.{spaced, others, told}
use Rattle.text.proofs.Writes.{Left, left-all, left_one, left-part, left-fits}

pub spaced-none : spaced [] ≡ []
unfolding spaced
spaced-none = refl

pub spaced-more : (z : ℤ) (l : List ℤ) → spaced (z ∷ l) ≡ 0x20 ∷ (decimal z ++ spaced l)
unfolding spaced
spaced-more z l = refl

-- from the i-th number on
pub spaced-at : (zs : List ℤ) (i : ℕ) → i < length zs → spaced (drop i zs) ≡ 0x20 ∷ (decimal (get_or zs i (pos 0)) ++ spaced (drop (i + 1) zs))
spaced-at zs i h = ap spaced (drop-cons zs i (pos 0) h) ∙ spaced-more _ _ ∙ rw add-one

pub spaced-end : (zs : List ℤ) (i : ℕ) → length zs ≤ i → spaced (drop i zs) ≡ []
spaced-end zs i h = ap spaced (drop_of_length-le zs h) ∙ spaced-none

pub numbers-none : numbers [] ≡ 0x0A ∷ []
unfolding numbers
numbers-none = refl

pub numbers_more : (z : ℤ) (l : List ℤ) → numbers (z ∷ l) ≡ 0x20 ∷ (decimal z ++ numbers l)
unfolding numbers
numbers_more z l = refl

-- they are numbers after blanks, and a line feed
pub numbers-spaced : (zs : List ℤ) → numbers zs ≡ spaced zs ++ (0x0A ∷ [])
numbers-spaced [] = rw (numbers-none, spaced-none)
numbers-spaced (z ∷ l) = rw (numbers_more, spaced-more, numbers-spaced l, append_assoc (decimal z) (spaced l) (0x0A ∷ []))

-- a line of numbers, with its numbers written
pub numbers-begun : (zs : List ℤ) {at next : ℕ} {l out : List ℕ} → Room (numbers zs) at l → Wrote (spaced zs) at l next out → Left (numbers zs) at l (0x0A ∷ []) next out
numbers-begun zs h w = left-part (left-all h) _ (numbers-spaced zs) w

-- a row's line, with its type written
pub row-begun : (r : Row) {z : ℤ} {at next : ℕ} {l out : List ℕ} → z ≡ r.ty → Room (row_text r) at l → Wrote (decimal z) at l next out → Left (row_text r) at l (numbers (others r)) next out
row-begun r e h w = left-part (left-all h) _ refl (rw e at w)

-- ---- a line of a word and two numbers

told-parts : (v : List ℕ) (z : ℤ) (n : ℕ) → told v z n ≡ v ++ (0x20 ∷ (decimal z ++ (0x20 ∷ (decimal (pos n) ++ (0x0A ∷ [])))))
told-parts v z n = rw (numbers_more, numbers_more, numbers-none)

module _ {z : ℤ} (f : SFits w64 z) (n : ℕ) {v : List ℕ} {at : ℕ} {l : List ℕ} (h : Room (told v z n) at l) where
  pub told-word : Room v at l
  told-word = left-fits (left-all h) v _ (told-parts v z n)

  module _ {next : ℕ} {out : List ℕ} (w : Wrote v at l next out) where
    pub told-begun : Left (told v z n) at l (0x20 ∷ (decimal z ++ (0x20 ∷ (decimal (pos n) ++ (0x0A ∷ []))))) next out
    told-begun = left-part (left-all h) _ (told-parts v z n) w

    pub told-fits : Room (decimal (to_z w64 (of_z w64 z))) (next + 1) (set out next 0x20)
    told-fits = rw (to_z-of_z w64 z f) (left-fits (left_one told-begun refl) (decimal z) _ refl)

    module _ {mid : ℕ} {some : List ℕ} (x : Wrote (decimal (to_z w64 (of_z w64 z))) (next + 1) (set out next 0x20) mid some) where
      pub told-first : Left (told v z n) at l (0x20 ∷ (decimal (pos n) ++ (0x0A ∷ []))) mid some
      told-first = left-part (left_one told-begun refl) _ refl (rw (to_z-of_z w64 z f) at x)

      pub told-second : {end : ℕ} {more : List ℕ} → Wrote (decimal (pos n)) (mid + 1) (set some mid 0x20) end more → Left (told v z n) at l (0x0A ∷ []) end more
      told-second y = left-part (left_one told-first refl) _ refl y
