use Rattle.scalar.proofs.Moments.{time-passed}
use Rattle.scalar.proofs.moment_past.Goals as goal

pub returns-in-Date : goal.returns-in-Date
returns-in-Date c = rw c.in-Date.is c.dated_past.ensures

pub returns-in-Time : goal.returns-in-Time
returns-in-Time c = time-passed c.in-Time.is c.clock_past.ensures

pub returns-in-DateTime : goal.returns-in-DateTime
returns-in-DateTime c = rw c.in-DateTime.is c.dated_past-in-DateTime.ensures
