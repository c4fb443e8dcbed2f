-- Tests, said another way.
use mathlib.Core.Path.{◌≡◌, refl, ap, ap₂, ◌∙◌}
use mathlib.Core.Bool.{Bool, true, false, ◌&&◌}
use Prim.Native.Nat.{ℕ, ◌+◌}
use native.Mathlib.Omega.{arith}
use lib.Dec.{ltb, leb}
use borrow.Author.Tests.{ltb-true, ltb-false, le-leb, lt-leb}

pub and-true : (t : Bool) → t && true ≡ t
and-true true = refl
and-true false = refl

pub leb-below : (n k : ℕ) → leb n k ≡ ltb n (k + 1)
leb-below n k = by (ltb n (k + 1)) refl
  where
    by : (t : Bool) → ltb n (k + 1) ≡ t → leb n k ≡ t
    by true e = le-leb n k (omega (arith, ltb-true n (k + 1) e))
    by false e = lt-leb n k (omega (arith, ltb-false n (k + 1) e))

pub and_comm : (t u : Bool) → t && u ≡ u && t
and_comm true true = refl
and_comm true false = refl
and_comm false true = refl
and_comm false false = refl

-- two tests more, as code makes them
pub two-more : (ok : Bool) {t u x y : Bool} (v w : Bool) → u ≡ ok && x → t ≡ u && y → x ≡ v → y ≡ w → t ≡ ok && v && w
two-more ok v w e h p q = h ∙ ap₂ ◌&&◌ (e ∙ ap (λ (z : Bool). ok && z) p) q
