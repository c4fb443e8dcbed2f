use Rattle.integer.proofs.Spelling.{Counted}
use Rattle.integer.proofs.octets_of.Given as goal

abbrev pub invariant-loop-m : goal.invariant-loop-m
invariant-loop-m l = Counted l.initial.m l.m l.count

abbrev pub decreases-loop-m : goal.decreases-loop-m
decreases-loop-m l = l.m
