use mir.Syntax.{w32}
use Rattle.integer.proofs.Signs.{held}
use Rattle.decide.proofs.form_of.Goals as goal

pub returns-then-on : goal.returns-then-on
returns-then-on c = rw (c.if-on.true, c.bare_form.ensures, held {w = w32} c.ranges.t)
