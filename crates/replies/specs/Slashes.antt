-- Slashes written for line feeds.
use Rattle.std.specs.Prelude.{List, map, ℕ}
use Rattle.integer.specs.Writes.{Wrote}
use Rattle.replies.specs.Cases.{slash}

-- a slash for each line feed of what was written
pub record SlashesPut (at end : ℕ) (out after : List ℕ) : Type 0 where
  pub put : (v l : List ℕ) → Wrote v at l end out → Wrote (map slash v) at l end after
