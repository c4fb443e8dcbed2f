use Rattle.ask.proofs.Judging.{tabled}
use Rattle.ask.proofs.listed.Goals as goal

pub returns : goal.returns
returns c = tabled c.args.n
