-- How long the desk's lines are at most, and how an accepted frame's text begins.
use mathlib.Core.Path.{◌≡◌, refl, ap}
use mathlib.Core.List.{List, [], ◌∷◌, ◌++◌}
use Prim.Native.Nat.{ℕ, ◌+◌, ◌^◌, ◌<◌, ◌≤◌}
use native.Mathlib.Omega.{arith}
use lib.ListN.{length, length-append}
use lib.IntN.{ℤ, pos}
use lib.Signed.{mag}
use Rattle.reading.specs.declared.Refusal.{Refusal}
use Rattle.reading.specs.Reading.{number_of}
use Rattle.reading.proofs.Reasons.{number-small}
use Rattle.format.specs.Desk.{decimal, numbers, row_text, rows_text, printed}
use Rattle.format.specs.Message.{ok, refused}
use Rattle.format.specs.declared.Row.{Row}
use Rattle.format.specs.Rows.{Sized}
use Rattle.text.specs.Text.{others, accepted}
use Rattle.text.proofs.Decimal.{digits-few, signed-length, count-length, decimal-length}
use Rattle.text.proofs.Lines.{numbers-none, numbers_more}

-- a number's blank and digits, in a line
size : (z : ℤ) (l : List ℤ) {k m : ℕ} → length (decimal z) ≤ k → length (numbers l) ≤ m → length (numbers (z ∷ l)) ≤ k + m + 1
size z l h g = omega (arith, ap length (numbers_more z l), length-append (decimal z) (numbers l))

none : length (numbers []) ≤ 1
none = omega (arith, ap length numbers-none)

signed : (z : ℤ) → mag z < 2 ^ 31 → length (decimal z) ≤ 11
signed z h = signed-length 9 z (omega arith)

octet : (n : ℕ) → n < 2 ^ 8 → length (decimal (pos n)) ≤ 3
octet n h = digits-few 2 n (omega arith)

count : (n : ℕ) → n < 2 ^ 32 → length (decimal (pos n)) ≤ 10
count n h = digits-few 9 n (omega arith)

pub row-length : {r : Row} → Sized r → length (row_text r) ≤ 116
row-length {r} h =
    let rest : length (numbers (others r)) ≤ 105 =
    size _ _ (octet _ h.own) (size _ _ (count _ h.label) (size _ _ (decimal-length _ h.number) (size _ _ (signed _ h.first) (size _ _ (signed _ h.second)
    (size _ _ (count _ h.place) (size _ _ (count _ h.below) (size _ _ (count _ h.start) (size _ _ (count _ h.end) none)))))))) in
    omega (arith, length-append (decimal r.ty) (numbers (others r)), signed r.ty h.ty)

pub accepted-length : (z : ℤ) (n : ℕ) → mag z < 2 ^ 31 → n < 2 ^ 64 → length (accepted z n) ≤ 36
accepted-length z n h g = omega (arith, size z (pos n ∷ []) (signed z h) (size (pos n) [] (count-length n g) none))

pub refused-length : (r : Refusal) → r.place < 2 ^ 64 → length (printed (refused r)) ≤ 28
refused-length r g = omega (arith, size (pos (number_of r.reason)) (pos r.place ∷ []) (octet (number_of r.reason) (omega (arith, number-small r.reason))) (size (pos r.place) [] (count-length r.place g) none))

-- the line of an accepted frame, and its rows
pub accepted-first : (a : ℤ × ℕ × List Row) → printed (ok a) ≡ accepted a.0 (length a.2) ++ rows_text a.2
accepted-first a = refl
