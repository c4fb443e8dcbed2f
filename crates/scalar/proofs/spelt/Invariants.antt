use Prim.Native.Nat.{◌-◌}
use Rattle.scalar.specs.Parts.{Reached}
use Rattle.scalar.proofs.spelt.Given as goal

abbrev pub invariant-loop-at : goal.invariant-loop-at
invariant-loop-at l = Reached l.src l.from l.end l.at

abbrev pub decreases-loop-at : goal.decreases-loop-at
decreases-loop-at l = l.end - l.at
