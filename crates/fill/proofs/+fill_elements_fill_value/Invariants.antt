use Prim.Native.Nat.{◌+◌, ◌-◌, ◌*◌}
use Rattle.columns.specs.Lent.{table, SameLoans}
use Rattle.fill.proofs.Elements.{Turn}
use Rattle.fill.proofs.+fill_elements_fill_value.Given as goal

abbrev pub invariant-fill_elements-loop-next : goal.invariant-fill_elements-loop-next
invariant-fill_elements-loop-next l = record { lent : SameLoans l.initial.columns l.columns; turn : Turn l.src l.lim l.depth l.nest l.row.end l.base (table l.initial.columns) l.at l.low l.rows (table l.columns) }

abbrev pub decreases-fill_elements-loop-next : goal.decreases-fill_elements-loop-next
decreases-fill_elements-loop-next l = l.nest.count - l.low

abbrev pub decreases-fill_elements : goal.decreases-fill_elements
decreases-fill_elements l = 2 * l.depth + 1

abbrev pub decreases-fill_value : goal.decreases-fill_value
decreases-fill_value l = 2 * l.depth
