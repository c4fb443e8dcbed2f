use Rattle.queries.proofs.Numbers.{Reading}
use Rattle.queries.proofs.value_of.Given as goal

abbrev pub invariant-loop-digit : goal.invariant-loop-digit
invariant-loop-digit l = Reading l.digits l.n l.digit-index
