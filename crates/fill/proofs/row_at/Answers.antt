use mir.ValLaws.{to_z-of_z}
use borrow.Author.Rules.{rules}
use Rattle.fill.proofs.Begins.{some-as, ok-was, err-was}
use Rattle.fill.proofs.Rows.{typed-past, leaf-past, holder-past, front-fits, row-untyped, row-unread, row-leaf, row-holder}
use Rattle.fill.proofs.row_at.Goals as goal

pub data_at-requires : goal.data_at-requires
data_at-requires c = (typed-past c.typed_at.ensures (ok-was _ c.ok.ensures.value c.in_ok-from.was)).1

pub front_row-requires : goal.front_row-requires
front_row-requires c = front-fits _ c.in-Some-Leaf.fore c.requires (leaf-past c.data_at.ensures (some-as c.in-Some-Leaf.is c.in-Some-Leaf.field-0-is))

pub front_row-requires-in-Some-Holder : goal.front_row-requires-in-Some-Holder
front_row-requires-in-Some-Holder c = front-fits _ c.in-Some-Holder.fore c.requires (holder-past c.data_at.ensures (some-as c.in-Some-Holder.is c.in-Some-Holder.field-0-is))

pub returns-in_err-from : goal.returns-in_err-from
returns-in_err-from c = rw c.from_residual.ensures (row-untyped c.typed_at.ensures (err-was _ c.ok.ensures.value c.in_err-from.was).1)

pub returns-in-None : goal.returns-in-None
returns-in-None c = (row-unread c.typed_at.ensures (ok-was _ c.ok.ensures.value c.in_ok-from.was) (search (rules, to_z-of_z)) c.data_at.ensures c.in-None.is)

pub returns-in-Some-Leaf : goal.returns-in-Some-Leaf
returns-in-Some-Leaf c = row-leaf c.typed_at.ensures (ok-was _ c.ok.ensures.value c.in_ok-from.was) (search (rules, to_z-of_z)) c.data_at.ensures (some-as c.in-Some-Leaf.is c.in-Some-Leaf.field-0-is) c.own_of-own.ensures c.front_row.ensures

pub returns-in-Some-Holder : goal.returns-in-Some-Holder
returns-in-Some-Holder c = row-holder c.typed_at.ensures (ok-was _ c.ok.ensures.value c.in_ok-from.was) (search (rules, to_z-of_z)) c.data_at.ensures (some-as c.in-Some-Holder.is c.in-Some-Holder.field-0-is) c.own_of-own.ensures c.front_row-in-Some-Holder.ensures
