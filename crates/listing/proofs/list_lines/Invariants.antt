use Prim.Native.Nat.{◌-◌}
use lib.ListN.{length}
use Rattle.listing.proofs.Lines.{Going}
use Rattle.listing.proofs.list_lines.Given as goal

abbrev pub invariant-loop-out : goal.invariant-loop-out
invariant-loop-out l = Going l.src l.initial.out l.used l.written l.out

abbrev pub decreases-loop-out : goal.decreases-loop-out
decreases-loop-out l = length l.src - l.used
