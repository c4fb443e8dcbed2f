-- Signed numbers of a width and their bits, over the width.
use mathlib.Core.Path.{◌≡◌, refl, ◌∙◌}
use mathlib.Core.Bool.{Bool, true, false}
use Prim.Native.Nat.{ℕ, suc, ◌-◌, ◌<◌, ◌≤◌, ◌^◌}
use native.Mathlib.Omega.{arith}
use lib.Dec.{T, lit≤}
use lib.IntN.{ℤ, pos, negsuc, nat_abs}
use lib.Signed.{mag, lt_z, non_neg}
use borrow.Author.Tests.{ltb-true}
use mir.Syntax.{Width, w8, w16, w32, w64, w128}
use mir.Val.{Fits, SFits, bits, hbits, to_z, of_z}
use mir.ValLaws.{to_z_pos, to_z-neg, to_z-of_z, of_z_fits}
use Rattle.integer.specs.Packed.{sign}

half : (w : Width) → 2 ^ hbits w ≤ 2 ^ bits w
half w8 = lit≤ tt
half w16 = lit≤ tt
half w32 = lit≤ tt
half w64 = lit≤ tt
half w128 = lit≤ tt

-- all bits turned over
pub flipped : (w : Width) (n : ℕ) → n < 2 ^ hbits w → to_z w (2 ^ bits w - 1 - n) ≡ negsuc n
flipped w n h = let e : 2 ^ bits w - 1 - n ≡ 2 ^ bits w - suc n = omega (arith, half w) in rw e (to_z-neg w n h)

-- n, or -1 - n
pub signed_yes : (w : Width) (t : Bool) (n : ℕ) → n < 2 ^ hbits w → t ≡ true → to_z w n ≡ sign t n
signed_yes w t n h e = rw e (to_z_pos w n h)

pub signed_no : (w : Width) (t : Bool) (n : ℕ) → n < 2 ^ hbits w → t ≡ false → to_z w (2 ^ bits w - 1 - n) ≡ sign t n
signed_no w t n h e = rw e (flipped w n h)

-- a signed number as the code holds it
pub held : {w : Width} {z : ℤ} → SFits w z → to_z w (of_z w z) ≡ z
held {w} {z} f = to_z-of_z w z f

-- a test of the code against a number, as a test of the number
pub seen : {w : Width} {v : ℤ} → SFits w v → (k : ℤ) (b : Bool) → lt_z (to_z w (of_z w v)) k ≡ b → lt_z v k ≡ b
seen f k b e = rw (held f) at e

-- a signed number in a wider type
pub widened : {w x : Width} {v : ℤ} → 2 ^ hbits w ≤ 2 ^ hbits x → SFits w v → SFits x v
widened h f = let g = f.sfits in record { sfits = omega arith }

-- ---- a signed number taken apart

pub negative : (v : ℤ) → lt_z v (pos 0) ≡ true → v ≡ negsuc (mag v)
negative (pos n) e = absurd (omega (arith, ltb-true n 0 e))
negative (negsuc n) e = refl

positive : (v : ℤ) → lt_z v (pos 0) ≡ false → v ≡ pos (mag v)
positive (pos n) e = refl
positive (negsuc n) e = let z : ◌≡◌ {A = ℕ} 0 1 = cc in absurd (omega arith)

pub flip-back : (w : Width) (v : ℤ) → SFits w v → v ≡ negsuc (mag v) → to_z w (2 ^ bits w - 1 - of_z w v) ≡ pos (mag v)
flip-back w (pos n) f e = let z : ◌≡◌ {A = ℕ} 0 1 = cc in absurd (omega arith)
flip-back w (negsuc n) f e = let l = f.sfits in let g : 2 ^ bits w - 1 - (2 ^ bits w - suc n) ≡ n = omega (arith, half w) in rw g (to_z_pos w n l)

module _ (w : Width) (v : ℤ) (f : SFits w v) where
  pub is_negative : lt_z (to_z w (of_z w v)) (pos 0) ≡ true → v ≡ negsuc (mag v)
  is_negative e = negative v (seen f (pos 0) true e)

  pub is_positive : lt_z (to_z w (of_z w v)) (pos 0) ≡ false → v ≡ pos (mag v)
  is_positive e = positive v (seen f (pos 0) false e)

  pub down-read : lt_z (to_z w (of_z w v)) (pos 0) ≡ true → to_z w (2 ^ bits w - 1 - of_z w v) ≡ pos (mag v)
  down-read e = flip-back w v f (is_negative e)

  pub up-read : lt_z (to_z w (of_z w v)) (pos 0) ≡ false → to_z w (of_z w v) ≡ pos (mag v)
  up-read e = held f ∙ is_positive e

  -- a signed number that is not negative, cast to the unsigned type of its width
  pub cast-read : (z : ℤ) → z ≡ pos (mag v) → T (non_neg z) × Fits w (nat_abs z)
  cast-read z e = rw e (tt, of_z_fits w (pos (mag v)) (record { sfits = f.sfits }))

-- a signed result as a caller has it
pub returned : (w : Width) {z y : ℤ} → mag z < 2 ^ hbits w → z ≡ y → to_z w (of_z w z) ≡ y
returned w h e = held (record { sfits = h }) ∙ e
