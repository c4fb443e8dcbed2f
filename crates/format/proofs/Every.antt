-- A test that every octet passes.
use mathlib.Core.Path.{◌≡◌, refl, ap}
use mathlib.Core.Bool.{Bool, true, ◌&&◌}
use mathlib.Core.List.{List, [], ◌∷◌}
use Prim.Native.Nat.{ℕ, zero, suc, ◌<◌}
use native.Mathlib.Omega.{arith}
use lib.ListN.{length, get_or}
use Rattle.std.specs.List.{list_all}
use Rattle.reading.proofs.Tests.{and_left, and_right}
use Rattle.format.specs.Desk.{every}

module _ (test : ℕ → Bool) where
  pub every-at : (l : List ℕ) → every test l ≡ true → (i : ℕ) → i < length l → test (get_or l i 0) ≡ true
  unfolding every
  every-at [] e i h = absurd (omega arith)
  every-at (d ∷ l) e zero h = and_left (test d) (every test l) e
  every-at (d ∷ l) e (suc i) h = every-at l (and_right (test d) (every test l) e) i (omega arith)

  -- as std says it
  pub every-all : (l : List ℕ) → list_all test l ≡ every test l
  unfolding every
  every-all [] = refl
  every-all (d ∷ l) = ap (λ b. test d && b) (every-all l)
