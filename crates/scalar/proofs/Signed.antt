-- Signed numbers of 32 bits between two others, as code compares them.
use mathlib.Core.Path.{◌≡◌, sym, ◌∙◌}
use mathlib.Core.Bool.{Bool, true, false}
use Prim.Native.Nat.{◌^◌, ◌<◌}
use lib.IntN.{ℤ}
use lib.Signed.{mag, le_z}
use mir.Syntax.{w32}
use mir.Val.{SFits, to_z, of_z}
use mir.ValLaws.{to_z-of_z}
use Rattle.format.specs.Data.{within}

-- a number as code has it
abbrev pub held : ℤ → ℤ
held v = to_z w32 (of_z w32 v)

module _ (low high n : ℤ) (fl : SFits w32 low) (fh : SFits w32 high) (fn : SFits w32 n) where
  pub between-yes : le_z (held low) (held n) ≡ true → le_z (held n) (held high) ≡ within low high n
  between-yes e = rw (to_z-of_z w32 n fn, to_z-of_z w32 high fh) (sym (rw (rw (to_z-of_z w32 n fn, to_z-of_z w32 low fl) at e)))

  pub between-no : le_z (held low) (held n) ≡ false → le_z (held low) (held n) ≡ within low high n
  between-no e = e ∙ sym (rw (rw (to_z-of_z w32 n fn, to_z-of_z w32 low fl) at e))

-- a call's answer on a number
pub seen : (low high : ℤ) {t u : Bool} (v : ℤ) → mag v < 2 ^ 31 → t ≡ within low high (held v) → t ≡ u → within low high v ≡ u
seen low high v f e q = sym (rw (to_z-of_z w32 v (record { sfits = f })) at e) ∙ q

pub in-range : (low high : ℤ) {t : Bool} (v : ℤ) → SFits w32 v → t ≡ within low high (held v) → t ≡ within low high v
in-range low high v f e = rw (to_z-of_z w32 v f) at e
