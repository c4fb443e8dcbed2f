use mathlib.Core.Path.{ap, ◌∙◌}
use mir.Syntax.{w128}
use Rattle.integer.proofs.Signs.{held}
use Rattle.queries.specs.Queries.{answer}
use borrow.Author.Rules.{rules}
use Rattle.std.specs.Prelude.{Some, None}
use Rattle.queries.proofs.Outcomes.{first-not, fourth-none, fourth-not, last_none, word_read}
use Rattle.queries.proofs.ask_line.Goals as goal

pub returns-in_err-ty : goal.returns-in_err-ty
returns-in_err-ty c = search rules ∙ first-not c.args.line.now c.in_err-ty.ensures

pub returns-in_err-fourth : goal.returns-in_err-fourth
returns-in_err-fourth c = search rules ∙ fourth-none c.args.line.now c.in_ok-ty.ensures c.in_err-fourth.ensures

pub returns-in_err-number : goal.returns-in_err-number
returns-in_err-number c = search rules ∙ fourth-not c.args.line.now c.in_ok-ty.ensures c.in_ok-fourth.fourth c.in_ok-fourth.ensures.0 c.in_err-number.ensures

pub returns-in_err-last : goal.returns-in_err-last
returns-in_err-last c = search rules ∙ last_none c.args.line.now c.in_ok-ty.ensures c.in_ok-fourth.fourth c.in_ok-fourth.ensures.0 c.in_ok-number.ensures c.in_err-last.ensures

pub returns-in_err-wanted : goal.returns-in_err-wanted
returns-in_err-wanted c = search rules ∙ word_read c.args.line.now c.in_ok-ty.ensures c.in_ok-fourth.fourth c.in_ok-fourth.ensures.0 c.in_ok-number.ensures c.in_ok-last.last c.in_ok-last.ensures.0 None c.in_err-wanted.ensures

pub returns : goal.returns
returns c = ap answer (rw (held {w = w128} {z = c.in_ok-ty.ty} (search rules), held {w = w128} {z = c.in_ok-number.number} (search rules)) at c.ask_row.ensures) ∙ word_read c.args.line.now c.in_ok-ty.ensures c.in_ok-fourth.fourth c.in_ok-fourth.ensures.0 c.in_ok-number.ensures c.in_ok-last.last c.in_ok-last.ensures.0 (Some c.in_ok-wanted.wanted) c.in_ok-wanted.ensures
