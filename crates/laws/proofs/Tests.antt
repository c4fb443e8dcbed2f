-- What the tests of the definitions decide.
use mathlib.Core.Path.{◌≡◌, refl, ap, ap₂}
use mathlib.Core.Bool.{Bool, true, false, ◌&&◌}
use mathlib.Core.List.{List, [], ◌∷◌}
use Prim.Native.Nat.{ℕ}
use native.Mathlib.Omega.{arith}
use lib.Dec.{leb}
use lib.IntN.{ℤ, pos, negsuc}
use lib.Signed.{non_neg, mag}
use borrow.Author.Tests.{leb-true, le-leb}
use Rattle.reading.proofs.Tests.{and_left, and_right}
use Rattle.format.specs.Data.{eq_z, eq_list}

-- true is not false
pub clash : {A : Type 0} → true ≡ false → A
clash e = let z : ◌≡◌ {A = ℕ} 0 1 = cc in absurd (omega arith)

pub and_both : (a b : Bool) → a ≡ true → b ≡ true → a && b ≡ true
and_both a b e f = rw (e, f)

-- ---- integers

between : (a b : ℕ) → leb a b && leb b a ≡ true → a ≡ b
between a b e = omega (arith, leb-true a b (and_left (leb a b) (leb b a) e), leb-true b a (and_right (leb a b) (leb b a) e))

pub eq_z-true : (a b : ℤ) → eq_z a b ≡ true → a ≡ b
eq_z-true (pos a) (pos b) e = ap pos (between a b e)
eq_z-true (pos a) (negsuc b) e = let z : false ≡ true = e in cc
eq_z-true (negsuc a) (pos b) e = let z : false ≡ true = e in cc
eq_z-true (negsuc a) (negsuc b) e = ap negsuc (let z : b ≡ a = between b a e in cc)

pub eq_z-same : (a : ℤ) → eq_z a a ≡ true
eq_z-same (pos a) = rw (le-leb a a (omega arith))
eq_z-same (negsuc a) = rw (le-leb a a (omega arith))

pub pos-mag : (z : ℤ) → non_neg z ≡ true → pos (mag z) ≡ z
pos-mag (pos n) e = refl
pos-mag (negsuc n) e = let z : false ≡ true = e in cc

-- ---- lists

pub eq_list-true : {A : Type 0} (t : A → A → Bool) → ((x y : A) → t x y ≡ true → x ≡ y) → (l m : List A) → eq_list t l m ≡ true → l ≡ m
unfolding eq_list
eq_list-true t h [] [] e = refl
eq_list-true t h [] (y ∷ m) e = let z : false ≡ true = e in cc
eq_list-true t h (x ∷ l) [] e = let z : false ≡ true = e in cc
eq_list-true t h (x ∷ l) (y ∷ m) e = ap₂ ◌∷◌ (h x y (and_left (t x y) (eq_list t l m) e)) (eq_list-true t h l m (and_right (t x y) (eq_list t l m) e))

pub eq_list-same : {A : Type 0} (t : A → A → Bool) (l : List A) → ((x : A) → t x x ≡ true) → eq_list t l l ≡ true
unfolding eq_list
eq_list-same t [] h = refl
eq_list-same t (x ∷ l) h = rw (h x) (eq_list-same t l h)
