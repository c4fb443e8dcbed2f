-- Answers: their parts, and how long they are at most.
use mathlib.Core.Path.{◌≡◌, refl, ap, ◌∙◌}
use mathlib.Core.List.{List, [], ◌∷◌, ◌++◌, append-nil}
use Prim.Native.Nat.{ℕ, suc, ◌+◌, ◌^◌, ◌<◌, ◌≤◌}
use native.Mathlib.Omega.{arith}
use lib.ListN.{length, length-append}
use lib.IntN.{ℤ, pos}
use lib.Signed.{mag}
use Rattle.format.specs.declared.Row.{Row}
use Rattle.format.specs.Desk.{decimal, numbers}
use Rattle.integer.specs.Writes.{Room, Wrote}
use Rattle.format.specs.Rows.{Sized}
use Rattle.text.specs.Text.{spaced, others}
use Rattle.text.proofs.Decimal.{digits-few, count-length, decimal-length, signed-length}
use Rattle.text.proofs.Lengths.{row-length}
use Rattle.text.proofs.Lines.{spaced-none, spaced-more, numbers-spaced}
use Rattle.text.proofs.Writes.{Left, left-all, left-part, left-fits, left-none}
use Rattle.listing.specs.Listing.{Listed}
use Rattle.replies.specs.Cases.{row_part, accepted, no_at}

-- ---- numbers

pub spaced-one : (z : ℤ) → spaced (z ∷ []) ≡ 0x20 ∷ decimal z
spaced-one z = rw (spaced-more, spaced-none, append-nil)

spaced-first : (z : ℤ) (l : List ℤ) → spaced (z ∷ l) ≡ spaced (z ∷ []) ++ spaced l
spaced-first z l = spaced-more z l ∙ rw (spaced-one z)

-- one number of several is written
module _ {v : List ℕ} {at : ℕ} {l : List ℕ} (z : ℤ) (zs : List ℤ) {next : ℕ} {out : List ℕ} (k : Left v at l (spaced (z ∷ zs)) next out) where
  pub number-fits : Room (spaced (z ∷ [])) next out
  number-fits = left-fits k (spaced (z ∷ [])) (spaced zs) (spaced-first z zs)

  pub number-put : {end : ℕ} {some : List ℕ} → Wrote (spaced (z ∷ [])) next out end some → Left v at l (spaced zs) end some
  number-put w = left-part k (spaced zs) (spaced-first z zs) w

pub numbers-put : {v : List ℕ} {at : ℕ} {l : List ℕ} {next : ℕ} {out : List ℕ} → Left v at l (spaced []) next out → Wrote v at l next out
numbers-put k = left-none k spaced-none

-- ---- how long they are at most

number-length : (z : ℤ) (l : List ℤ) → length (spaced (z ∷ l)) ≡ suc (length (decimal z) + length (spaced l))
number-length z l = ap length (spaced-more z l) ∙ rw (length-append (decimal z) (spaced l))

none-length : length (spaced []) ≡ 0
none-length = ap length spaced-none

pub ok-short : (n : ℕ) → n < 2 ^ 64 → length (accepted (pos n ∷ [])) ≤ 64
ok-short n h = omega (arith, number-length (pos n) [], none-length, count-length n h)

pub value-short : (z : ℤ) → mag z < 2 ^ 63 → length (accepted (z ∷ [])) ≤ 64
value-short z h = omega (arith, number-length z [], none-length, decimal-length z h)

pub framed-short : (z : ℤ) (n : ℕ) → mag z < 2 ^ 31 → n < 2 ^ 64 → length (accepted (z ∷ pos n ∷ [])) ≤ 64
framed-short z n h g = omega (arith, number-length z (pos n ∷ []), number-length (pos n) [], none-length, signed-length 9 z (omega arith), count-length n g)

pub no_short : (n p : ℕ) → n < 2 ^ 8 → p < 2 ^ 64 → length (no_at n p) ≤ 64
no_short n p h g =
    omega (
      arith,
      number-length (pos n) (pos p ∷ pos 1 ∷ []),
      number-length (pos p) (pos 1 ∷ []),
      number-length (pos 1) [],
      none-length,
      digits-few 2 n (omega arith),
      count-length p g,
      digits-few 0 1 (omega arith),
    )

-- ---- what an answer begins with

pub room : {v : List ℕ} (at : ℕ) (l : List ℕ) → length v ≤ 64 → at + 32768 ≤ length l → Room v at l
room at l h g = record { room = omega arith }

pub listed : {v : List ℕ} {at next : ℕ} {l out : List ℕ} → length v ≤ 64 → Wrote v at l next out → Listed v at l next out
listed h w = record { wrote = w; short = omega arith }

-- two letters and numbers
module _ (a b : ℕ) (zs : List ℤ) (short : length (a ∷ b ∷ spaced zs) ≤ 64) {at : ℕ} {l : List ℕ} (h : at + 32768 ≤ length l) where
  pub word-room : Room (a ∷ b ∷ []) at l
  word-room = record { room = omega arith }

  pub word-put : {next : ℕ} {out : List ℕ} → Wrote (a ∷ b ∷ []) at l next out → Left (a ∷ b ∷ spaced zs) at l (spaced zs) next out
  word-put w = left-part (left-all (room at l short h)) (spaced zs) refl w

-- ---- a row

pub part_length : {r : Row} → Sized r → length (row_part r) ≤ 118
part_length {r} h =
    omega (
      arith,
      ap length (spaced-more r.ty (others r)),
      length-append (decimal r.ty) (spaced (others r)),
      ap length (numbers-spaced (others r)),
      length-append (spaced (others r)) (0x0A ∷ []),
      length-append (decimal r.ty) (numbers (others r)),
      row-length h,
    )
