use mathlib.Core.Path.{◌∙◌}
use native.Mathlib.Omega.{arith}
use Rattle.std.specs.Prelude.{length}
use Rattle.ask.proofs.Looking.{found, none}
use Rattle.ask.proofs.lookup.Goals as goal

pub returns-in-Some : goal.returns-in-Some
returns-in-Some c = let f = rw c.in-Some.is at c.find.ensures in c.ask.ensures ∙ found c.args.rows.now c.args.label c.args.wanted c.in-Some.k f.0 f.1

pub returns-in-None : goal.returns-in-None
returns-in-None c = none c.args.rows.now c.args.label c.args.wanted (length c.args.rows.now) (rw c.in-None.is at c.find.ensures) (omega arith)
