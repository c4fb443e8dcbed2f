use mathlib.Core.Path.{◌∙◌}
use mir.Syntax.{w32, w64}
use borrow.Author.Rules.{rules}
use Rattle.integer.proofs.Signs.{held}
use Rattle.queries.proofs.Outcomes.{no-type, no_number, row_same, row-asked}
use Rattle.queries.proofs.ask_row.Goals as goal

pub returns-in_default : goal.returns-in_default
returns-in_default c = no-type c.args.wanted c.args.ty c.args.number (λ f. c.in_default.ensures (search rules))

pub returns-in_default-try_from : goal.returns-in_default-try_from
returns-in_default-try_from c = no_number c.args.wanted c.args.ty c.args.number (rw (held c.ranges.ty) at c.in-Ok.ensures.0).sfits (λ f. c.in_default-try_from.ensures (search rules))

pub returns : goal.returns
returns c =
    let ty = rw (held c.ranges.ty) at c.in-Ok.ensures in
    let number = rw (held c.ranges.number) at c.in-Ok-try_from.ensures in
    row-asked c.args.wanted c.args.ty c.args.number ty.0.sfits number.0.sfits c.ask.ensures
    (row_same c.row_of.ensures (held {w = w32} {z = c.in-Ok.row_ty} (rw ty.1 ty.0) ∙ ty.1) (held {w = w64} {z = c.in-Ok-try_from.row_number} (rw number.1 number.0) ∙ number.1))
