use mathlib.Core.Path.{sym}
use native.Mathlib.Omega.{arith}
use mir.Syntax.{w128}
use borrow.Author.Rules.{rules}
use Rattle.integer.proofs.Signs.{held}
use Rattle.queries.proofs.Split.{number-last, number-not, number_read}
use Rattle.queries.proofs.number_at.Goals as goal

pub returns-in_err-end : goal.returns-in_err-end
returns-in_err-end c = rw c.from_residual.ensures (number-last c.args.line.now c.args.at c.requires c.in_err-end.ensures (omega arith))

pub returns-in_err-number : goal.returns-in_err-number
returns-in_err-number c = rw c.from_residual-in_err-number.ensures (number-not c.args.line.now c.args.at c.requires c.in_ok-end.ensures.0 c.in_ok-end.ensures.1 (sym c.in_err-number.ensures))

pub returns : goal.returns
returns c = rw (held {w = w128} {z = c.in_ok-number.number} (search rules)) (number_read c.args.line.now c.args.at c.requires c.in_ok-end.ensures.0 c.in_ok-end.ensures.1 (sym c.in_ok-number.ensures))
