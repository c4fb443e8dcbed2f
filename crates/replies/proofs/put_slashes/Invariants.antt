use Rattle.replies.proofs.Slashes.{Slashing}
use Rattle.replies.proofs.put_slashes.Given as goal

abbrev pub invariant-loop-i : goal.invariant-loop-i
invariant-loop-i l = Slashing l.at l.end l.initial.out l.i l.out
