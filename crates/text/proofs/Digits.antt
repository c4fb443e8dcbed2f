-- A line's digits, and the octets that they are in pairs.
use mathlib.Core.Path.{◌≡◌, refl, ◌∙◌}
use mathlib.Core.Bool.{Bool, true, false}
use mathlib.Core.List.{List, [], ◌∷◌}
use Prim.Native.Nat.{ℕ, zero, suc, ◌+◌, ◌*◌, ◌/◌, ◌<◌, ◌≤◌}
use native.Mathlib.Omega.{arith}
use native.Mathlib.Numerals.{add-one}
use lib.ListN.{length, get_or, drop, drop_of_length-le}
use lib.Seq.{drop-cons}
use lib.Dec.{leb}
use borrow.Author.Tests.{leb-true, leb-false, le-leb, lt-leb}
use Rattle.format.specs.Desk.{digit, is_line, octets_of}
use Rattle.integer.specs.Writes.{Room}

-- ---- the octets

pub octets-length : (l : List ℕ) → length (octets_of l) ≡ length l / 2
unfolding octets_of
octets-length [] = refl
octets-length (a ∷ []) = refl
octets-length (a ∷ b ∷ l) = omega (arith, octets-length l)

octets-at : (l : List ℕ) (i : ℕ) → i < length l / 2 → get_or (octets_of l) i 0 ≡ digit (get_or l (2 * i) 0) * 16 + digit (get_or l (2 * i + 1) 0)
unfolding octets_of
octets-at [] i h = absurd (omega arith)
octets-at (a ∷ []) i h = absurd (omega arith)
octets-at (a ∷ b ∷ l) zero h = refl
octets-at (a ∷ b ∷ l) (suc i) h =
    let first : 2 * suc i ≡ suc (suc (2 * i)) = omega arith in
    let second : 2 * suc i + 1 ≡ suc (suc (2 * i + 1)) = omega arith in
    octets-at l i (omega arith) ∙ rw (second, first)

-- from the i-th on, whose digits stand for a and b
pub octets-more : (l : List ℕ) (i : ℕ) {a b : ℕ} → i < length l / 2 → a ≡ digit (get_or l (2 * i) 0) → b ≡ digit (get_or l (2 * i + 1) 0)
    → drop i (octets_of l) ≡ (a * 16 + b) ∷ drop (i + 1) (octets_of l)
octets-more l i h ea eb = drop-cons (octets_of l) i 0 (omega (arith, octets-length l)) ∙ rw (octets-at l i h, ea, eb, add-one i)

pub octets-end : (l : List ℕ) (i : ℕ) → length l / 2 ≤ i → drop i (octets_of l) ≡ []
octets-end l i h = drop_of_length-le (octets_of l) {i = i} (omega (arith, octets-length l))

-- ---- the line

module _ (l : List ℕ) where
  pub line-long : 8192 < length l → is_line l ≡ false
  line-long h = rw (le-leb 2 (length l) (omega arith), lt-leb (length l) 8192 h)

  pub line-room : {out : List ℕ} → length l ≤ 8192 → 4096 ≤ length out → Room (octets_of l) 0 out
  line-room h g = record { room = omega (arith, octets-length l) }

  pub line-most : is_line l ≡ true → length (octets_of l) ≤ 4096
  line-most e = by (leb (length l) 8192) refl
    where
      by : (t : Bool) → leb (length l) 8192 ≡ t → length (octets_of l) ≤ 4096
      by true p = omega (arith, leb-true (length l) 8192 p, octets-length l)
      by false p =
          let n = line-long (leb-false (length l) 8192 p) in
          let z : ◌≡◌ {A = ℕ} 0 1 = cc in
          absurd (omega arith)
