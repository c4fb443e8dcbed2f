use lib.ListN.{drop}
use Rattle.text.specs.Text.{spaced}
use Rattle.text.proofs.Writes.{Left}
use Rattle.text.proofs.put_spaced.Given as goal

abbrev pub invariant-loop-value : goal.invariant-loop-value
invariant-loop-value l = Left (spaced l.values) l.at l.initial.out (spaced (drop l.value-index l.values)) l.next l.out
