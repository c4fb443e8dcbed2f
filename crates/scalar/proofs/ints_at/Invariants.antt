use Rattle.scalar.proofs.Moments.{Turn}
use Rattle.scalar.proofs.ints_at.Given as goal

abbrev pub invariant-loop-k : goal.invariant-loop-k
invariant-loop-k g l = Turn l.k-end l.src l.fn.at l.k l.next l.values
