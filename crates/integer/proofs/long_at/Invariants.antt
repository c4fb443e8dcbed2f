use Prim.Native.Nat.{◌-◌}
use Rattle.integer.proofs.Steps.{Turn}
use Rattle.integer.proofs.long_at.Given as goal

abbrev pub invariant-loop-next : goal.invariant-loop-next
invariant-loop-next l = Turn l.src l.at l.more l.bits l.scale l.next (l.next-end - l.next)
