-- What a turn leaves.
use Rattle.std.specs.Prelude.{ℕ, ◌≤◌, ◌<◌, Option, Some, None, Result, Ok, Err}

-- what is listed was given
abbrev pub Within : {E : Type 0} → ℕ → Result ℕ E → Type 0
Within n (Ok k) = k ≤ n
Within n (Err e) = Unit {0}

-- there is room for more
abbrev pub Going : ℕ → Option ℕ → Type 0
Going n (Some k) = k < n
Going n None = Unit {0}
