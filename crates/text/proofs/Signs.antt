-- A signed number as one of 64 bits.
use mathlib.Core.Path.{◌≡◌, sym, ap, ◌∙◌}
use mathlib.Core.Bool.{true}
use mathlib.Core.List.{◌∷◌}
use Prim.Native.Nat.{ℕ}
use native.Mathlib.Nat.{lt_of_lt_of_le}
use lib.Dec.{lit≤}
use lib.IntN.{ℤ, pos, negsuc}
use lib.Signed.{mag, lt_z}
use mir.Syntax.{w32, w64}
use mir.Val.{SFits, to_z, of_z}
use mir.ValLaws.{to_z-of_z}
use Rattle.std.specs.Prelude.{unsigned_abs}
use Rattle.format.specs.Desk.{decimal}
use Rattle.integer.proofs.Signs.{seen, negative}
use Rattle.text.proofs.Decimal.{decimal-minus}

-- a number of fewer bits, as one of 64
pub wide_fits : (v : ℤ) → SFits w32 v → SFits w64 (to_z w32 (of_z w32 v))
wide_fits v f = rw (to_z-of_z w32 v f) (record { sfits = lt_of_lt_of_le f.sfits (lit≤ tt) })

pub wide : (v : ℤ) → SFits w32 v → to_z w64 (of_z w64 (to_z w32 (of_z w32 v))) ≡ v
wide v f = to_z-of_z w64 _ (wide_fits v f) ∙ to_z-of_z w32 v f

-- a number below 0, as the code holds it: a sign, and what it is without
pub minus-spelt : (v : ℤ) → SFits w64 v → lt_z (to_z w64 (of_z w64 v)) (pos 0) ≡ true → {n : ℕ} → n ≡ unsigned_abs v → decimal v ≡ 0x2D ∷ decimal (pos n)
minus-spelt v f h e =
    let is : v ≡ negsuc (mag v) = negative v (seen f (pos 0) true h) in
    ap decimal is ∙ decimal-minus (mag v) ∙ ap (λ (k : ℕ). 0x2D ∷ decimal (pos k)) (sym (e ∙ ap unsigned_abs is))
