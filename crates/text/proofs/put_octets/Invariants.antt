use lib.ListN.{drop}
use Rattle.format.specs.Desk.{octets_of}
use Rattle.text.proofs.Writes.{Left}
use Rattle.text.proofs.put_octets.Given as goal

abbrev pub invariant-loop-i : goal.invariant-loop-i
invariant-loop-i l = Left (octets_of l.line) 0 l.initial.out (drop l.i (octets_of l.line)) l.i l.out
