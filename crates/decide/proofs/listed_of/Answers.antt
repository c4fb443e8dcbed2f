use mathlib.Core.Path.{◌∙◌}
use Rattle.decide.proofs.Coming.{listed-is}
use Rattle.decide.proofs.listed_of.Goals as goal

pub returns : goal.returns
returns c = rw c.if-indexed.false (c.unwrap_or.ensures ∙ listed-is c.args.count c.try_from.result c.try_from.ensures)
