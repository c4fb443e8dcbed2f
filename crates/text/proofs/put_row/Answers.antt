use mathlib.Core.Path.{refl, ap, ◌∙◌}
use lib.IntN.{pos}
use lib.ListN.{get_or}
use mir.Syntax.{w64}
use mir.ValLaws.{to_z-of_z}
use borrow.Author.Rules.{rules}
use Rattle.text.proofs.Writes.{left-all, left-fits}
use Rattle.text.proofs.Lines.{row-begun}
use Rattle.text.proofs.put_row.Goals as goal

pub put_number-next-requires : goal.put_number-next-requires
put_number-next-requires c =
    rw (to_z-of_z w64 (get_or c.numbers_of-values.result 0 (pos 0)) (search rules), ap (λ l. get_or l 0 (pos 0)) c.numbers_of-values.ensures) (left-fits (left-all c.requires) _ _ refl)

pub put_numbers-requires : goal.put_numbers-requires
put_numbers-requires c =
    rw c.numbers_of-values.ensures
    (row-begun c.args.r (to_z-of_z w64 (get_or c.numbers_of-values.result 0 (pos 0)) (search rules) ∙ ap (λ l. get_or l 0 (pos 0)) c.numbers_of-values.ensures) c.requires c.put_number-next.ensures).room

pub returns : goal.returns
returns c =
    (row-begun c.args.r (to_z-of_z w64 (get_or c.numbers_of-values.result 0 (pos 0)) (search rules) ∙ ap (λ l. get_or l 0 (pos 0)) c.numbers_of-values.ensures) c.requires c.put_number-next.ensures).rest
    (rw c.numbers_of-values.ensures at c.put_numbers.ensures)
