-- What is held of the input.
use Rattle.std.specs.Prelude.{◌≡◌, List, ◌⊎◌, ℕ, ◌+◌, ◌≤◌, ◌<◌, length, take, drop, set}

-- n octets came after those held, which are as they were; what came is the system's
pub record Came (l : List ℕ) (held n : ℕ) (after : List ℕ) : Type 0 where
  pub room : held + n ≤ length l
  pub kept : take held after ≡ take held l

-- the octets from `from` to `end` stand at the front, n of them
pub record Moved (l : List ℕ) (from end n : ℕ) (after : List ℕ) : Type 0 where
  pub many : n + from ≡ end
  pub front : take n after ≡ take n (drop from l)

-- all that is held, where there is room for more; else one octet, `?`
pub record Shortened (l : List ℕ) (held n : ℕ) (after : List ℕ) : Type 0 where
  pub room : n < length l
  pub is : ((n ≡ held) × (after ≡ l)) ⊎ ((length l ≤ held) × (n ≡ 1) × (after ≡ set l 0 0x3F))
