use mathlib.Core.Path.{sym, ap, ◌∙◌}
use Rattle.std.specs.Prelude.{Some}
use mir.Syntax.{w128}
use borrow.Author.Rules.{rules}
use Rattle.integer.proofs.Signs.{held}
use Rattle.queries.proofs.Numbers.{minus-none, minus_some, minus-fits, field-none, field-minus, field_plain}
use Rattle.queries.proofs.number_of.Goals.{in_default-via-then-field-lt1, in_default-via-else-field-lt1+in_default-1}
use Rattle.queries.proofs.number_of.Goals as goal

pub returns-in_err-digits_of-in-45 : goal.returns-in_err-digits_of-in-45
returns-in_err-digits_of-in-45 c = c.from_residual.ensures ∙ minus-none _ c.in_err-digits_of-in-45.ensures ∙ sym (field-minus c.args.field.now (search rules))

pub overflow_sub-result : goal.overflow_sub-result
overflow_sub-result c = rw (held {w = w128} {z = c.in_ok-digits_of-in-45.field-0} (search rules)) (minus-fits _ (search rules) c.in_ok-digits_of-in-45.ensures)

pub returns-in_ok-digits_of-in-45 : goal.returns-in_ok-digits_of-in-45
returns-in_ok-digits_of-in-45 c = ap Some (rw (held {w = w128} {z = c.in_ok-digits_of-in-45.field-0} (search rules)) (held (minus-fits _ (search rules) c.in_ok-digits_of-in-45.ensures))) ∙ minus_some _ c.in_ok-digits_of-in-45.ensures ∙ sym (field-minus c.args.field.now (search rules))

pub returns-in_default : goal.returns-in_default
returns-in_default c = c.digits_of-in_default.ensures ∙ elim c.in_default.branch [ in_default-via-then-field-lt1 w ↦ sym (field-none c.args.field.now (search rules)) | in_default-via-else-field-lt1+in_default-1 w ↦ sym (field_plain c.args.field.now (search rules)) ]
