use Rattle.measure.proofs.Entries.{first-can-hold, first-held}
use Rattle.measure.proofs.first_value.Goals as goal

pub elements-requires : goal.elements-requires
elements-requires c = first-can-hold c.alike.ensures c.requires.0 c.requires.1 (record { no_given = c.new-ids.ensures.given; no_ended = c.new-ids.ensures.ended })

pub returns : goal.returns
returns c = first-held c.alike.ensures (record { no_given = c.new-ids.ensures.given; no_ended = c.new-ids.ensures.ended }) c.elements.ensures
