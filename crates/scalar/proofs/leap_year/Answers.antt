use native.Mathlib.Omega.{arith}
use Rattle.scalar.proofs.Dates.{leap-not, leap-plain, leap-century}
use Rattle.scalar.proofs.leap_year.Goals as goal

pub returns-then-y-ne0 : goal.returns-then-y-ne0
returns-then-y-ne0 c = leap-not _ c.if-y-ne0.true

pub returns-then-y-ne0-2 : goal.returns-then-y-ne0-2
returns-then-y-ne0-2 c = leap-plain _ (omega arith) c.if-y-ne0-2.true

pub returns : goal.returns
returns c = leap-century c.args.y (omega arith)
