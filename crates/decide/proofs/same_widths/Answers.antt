use Rattle.decide.proofs.Runs.{widths-same, widths-other}
use Rattle.decide.proofs.same_widths.Goals as goal

pub returns-then-most-most_of : goal.returns-then-most-most_of
returns-then-most-most_of c = widths-same c.args.w c.args.v c.most_of-most.ensures c.most_of.ensures c.if-most-most_of.true

pub returns : goal.returns
returns c = widths-other c.args.w c.args.v c.most_of-most.ensures c.most_of.ensures c.if-most-most_of.false
