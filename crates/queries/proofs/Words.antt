-- Two words, octet by octet.
use mathlib.Core.Path.{◌≡◌, refl, sym, ap, ◌∙◌}
use mathlib.Core.Bool.{Bool, ◌&&◌}
use mathlib.Core.List.{List, [], ◌∷◌}
use Prim.Native.Nat.{ℕ}
use lib.Dec.{eqb}
use lib.Pointwise.{pointwise}
use Rattle.queries.specs.Queries.{same}

compared : (l m : List ℕ) → pointwise eqb l m ≡ same l m
unfolding same
compared [] [] = refl
compared [] (b ∷ m) = refl
compared (a ∷ l) [] = refl
compared (a ∷ l) (b ∷ m) = ap (λ t. eqb a b && t) (compared l m)

-- by what `==` answers of a word
pub alike : (w : List ℕ) {l m : List ℕ} {t : Bool} → l ≡ m → t ≡ pointwise eqb w l → same w m ≡ t
alike w {m = m} e f = sym (f ∙ ap (pointwise eqb w) e ∙ compared w m)
