use mathlib.Core.Bool.{true, false}
use borrow.Author.Rules.{rules}
use Rattle.integer.proofs.Signs.{held}
use Rattle.ask.proofs.Judging.{in-range}
use Rattle.ask.proofs.judge.Goals as goal

pub returns-then-not-contains : goal.returns-then-not-contains
returns-then-not-contains c = in-range c.args.ty c.args.number (held c.ranges.ty) c.kind.ensures c.in_ok-sort.was false (search rules)

pub returns : goal.returns
returns c = in-range c.args.ty c.args.number (held c.ranges.ty) c.kind.ensures c.in_ok-sort.was true (search rules)
