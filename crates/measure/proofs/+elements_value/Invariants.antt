use Prim.Native.Nat.{◌+◌, ◌-◌, ◌*◌}
use Rattle.measure.proofs.Cycle.{Looking}
use Rattle.measure.proofs.+elements_value.Given as goal

abbrev pub invariant-elements-loop-coming : goal.invariant-elements-loop-coming
invariant-elements-loop-coming l = Looking l.src l.initial.ids l.depth l.nest l.initial.at l.initial.rows l.ids l.at l.low l.rows l.run l.ahead

abbrev pub decreases-elements-loop-coming : goal.decreases-elements-loop-coming
decreases-elements-loop-coming l = l.nest.count - l.low

abbrev pub decreases-elements : goal.decreases-elements
decreases-elements l = 2 * l.depth + 1

abbrev pub decreases-value : goal.decreases-value
decreases-value l = 2 * l.depth
