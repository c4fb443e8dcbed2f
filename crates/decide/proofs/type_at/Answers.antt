use Rattle.decide.proofs.Forms.{type-on, type-off}
use Rattle.decide.proofs.type_at.Goals as goal

pub returns-then-on : goal.returns-then-on
returns-then-on c = type-on c.if-on.true c.element_at.ensures

pub returns : goal.returns
returns c = type-off c.if-on.false c.requires
