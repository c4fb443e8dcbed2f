use mir.ValLaws.{to_z-of_z}
use borrow.Author.Rules.{rules}
use Rattle.columns.proofs.Storing.{row_below, row-beyond}
use Rattle.columns.proofs.ColumnsMut.put_row.Goals as goal

pub returns-then-k-lim-clause-stored : goal.returns-then-k-lim-clause-stored
returns-then-k-lim-clause-stored c = row_below c.if-k-lim.true c.put_leaf.ensures.stored (search (rules, to_z-of_z)) (search (rules, to_z-of_z))

pub returns-else-k-lim-clause-stored : goal.returns-else-k-lim-clause-stored
returns-else-k-lim-clause-stored c = row-beyond c.if-k-lim.false
