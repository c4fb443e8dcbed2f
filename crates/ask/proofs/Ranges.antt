-- Ranges of numbers.
use mathlib.Core.Path.{◌≡◌, refl, sym, ◌∙◌}
use mathlib.Core.Bool.{Bool, true, false, cond, ◌&&◌}
use Prim.Native.Nat.{ℕ, zero, suc, ◌-◌, ◌^◌, ◌<◌}
use native.Mathlib.Omega.{arith}
use native.Mathlib.Nat.{one-le-pow}
use lib.Dec.{ltb, leb, leb-zero}
use lib.IntN.{ℤ, pos, negsuc}
use lib.Signed.{mag, le_z, non_neg}
use borrow.Author.Tests.{ltb-true, ltb-false, lt-leb, le-leb, le-ltb}
use Rattle.format.specs.Types.{Datum, packed, fixed, code, amount, implied}
use Rattle.format.specs.Data.{within}
use Rattle.format.specs.Asking.{possible}
use Rattle.ask.specs.Sorts.{lowest_below, highest_below, lowest, highest}

-- ---- what is possible is a range

and-true : (t : Bool) → t && true ≡ t
and-true true = refl
and-true false = refl

and_comm : (s t : Bool) → s && t ≡ t && s
and_comm true t = sym (and-true t)
and_comm false true = refl
and_comm false false = refl

top : (n l : ℕ) → 0 < l → leb n (l - 1) ≡ ltb n l
top n l h = by (ltb n l) refl
  where
    by : (t : Bool) → ltb n l ≡ t → leb n (l - 1) ≡ ltb n l
    by true e = let g = ltb-true n l e in le-leb n (l - 1) (omega arith) ∙ sym e
    by false e = let g = ltb-false n l e in lt-leb n (l - 1) (omega arith) ∙ sym e

counted : (l : ℕ) → 0 < l → (z : ℤ) → within (pos 0) (pos (l - 1)) z ≡ non_neg z && ltb (mag z) l
counted l h (pos n) = rw (leb-zero n, top n l h)
counted l h (negsuc n) = refl

pub signed : (l : ℕ) → 0 < l → (z : ℤ) → within (negsuc (l - 1)) (pos (l - 1)) z ≡ ltb (mag z) l
signed l h (pos n) = top n l h
signed l h (negsuc n) = and-true (leb n (l - 1)) ∙ top n l h

nowhere : (z : ℤ) → within (pos 1) (pos 0) z ≡ ltb (mag z) 0
nowhere (pos zero) = refl
nowhere (pos (suc n)) = rw (lt-leb (suc n) 0 (omega arith), le-ltb (suc n) 0 (omega arith)) (and_comm (leb 1 (suc n)) false)
nowhere (negsuc n) = sym (le-ltb n 0 (omega arith))

below : (l : ℕ) (z : ℤ) → within (lowest_below l) (highest_below l) z ≡ ltb (mag z) l
below zero z = nowhere z
below (suc n) z = let e : suc n - 1 ≡ n = omega arith in rw e at (signed (suc n) (omega arith) z)

pub ranged : (d : Datum) (z : ℤ) → within (lowest d) (highest d) z ≡ possible d z
ranged (packed w) z = below w.bound z
ranged (fixed n) z = by (ltb n 8)
  where
    by : (t : Bool) → within (cond t (pos 0) (negsuc (2 ^ 63 - 1))) (cond t (pos (256 ^ n - 1)) (pos (2 ^ 63 - 1))) z ≡ cond t (non_neg z && ltb (mag z) (256 ^ n)) (ltb (mag z) (2 ^ 63))
    by true = counted (256 ^ n) (one-le-pow n 256 (omega arith)) z
    by false = signed (2 ^ 63) (omega arith) z
ranged code z = counted (2 ^ 16) (omega arith) z
ranged amount z = counted (2 ^ 31) (omega arith) z
ranged (implied y) z = and_comm (le_z y z) (le_z z y)
