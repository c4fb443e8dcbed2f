use mathlib.Core.Path.{◌∙◌, ap}
use Rattle.columns.specs.Columns.{shortest}
use Rattle.message.proofs.Messages.{can-fill, no_room, stored}
use Rattle.message.proofs.store_rows.Goals as goal

pub returns-then-room-n-clause-stored : goal.returns-then-room-n-clause-stored
returns-then-room-n-clause-stored c = no_room (c.shortest-room.ensures ∙ ap shortest c.rows.ensures) c.if-room-n.true

pub fill-requires : goal.fill-requires
fill-requires c = can-fill (c.shortest-room.ensures ∙ ap shortest c.rows.ensures) c.if-room-n.false c.requires.0 c.requires.1

pub returns-clause-stored : goal.returns-clause-stored
returns-clause-stored c = stored (c.shortest-room.ensures ∙ ap shortest c.rows.ensures) c.if-room-n.false c.fill.ensures.filled
