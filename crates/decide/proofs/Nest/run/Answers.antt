use Rattle.decide.proofs.Runs.{run-listed}
use Rattle.decide.proofs.Nest.run.Goals as goal

pub returns : goal.returns
returns c = run-listed c.if-self.false c.run_of.ensures
