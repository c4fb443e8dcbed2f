-- What a turn brings.
use Rattle.std.specs.Prelude.{ℕ, ◌≤◌}
use Rattle.cases.specs.declared.Turn.{Turn}
use Rattle.cases.specs.declared.Turn.TheVariants.{More, Last}

-- no more than there is room for
abbrev pub Going : ℕ → Turn → Type 0
Going n (More k) = k ≤ n
Going n (Last k) = k ≤ n
