-- Octets v written into a lent slice from a place on.
use Rattle.std.specs.Prelude.{◌≡◌, List, ℕ, ◌+◌, ◌≤◌, length}
use Rattle.std.proofs.lemmas.List.Edits.{sets}

-- there is room for them
pub record Room (v : List ℕ) (at : ℕ) (l : List ℕ) : Type 0 where
  pub room : at + length v ≤ length l

-- the place past them, and what the slice holds then: v from `at` on, and all else as before
pub record Wrote (v : List ℕ) (at : ℕ) (l : List ℕ) (next : ℕ) (after : List ℕ) : Type 0 where
  pub past : next ≡ at + length v
  pub holds : after ≡ sets l at v
