use mathlib.Core.Path.{sym}
use borrow.Author.Rules.{rules}
use Rattle.replies.proofs.Fields.{case-asks, case-read}
use Rattle.replies.proofs.case_octets.Goals as goal

pub returns-then-asks_row : goal.returns-then-asks_row
returns-then-asks_row c = case-asks c.args.line.now (sym c.if-asks_row.ensures)

pub returns-in-32 : goal.returns-in-32
returns-in-32 c = case-read c.args.line.now (sym c.if-asks_row.ensures) (search rules) (search rules) c.field_octets.result _ c.field_octets.ensures
