use mir.ValLaws.{to_z-of_z}
use borrow.Author.Rules.{rules}
use Rattle.fill.proofs.Begins.{ok-was, err-was}
use Rattle.fill.proofs.Numbers.{elementary-at}
use Rattle.fill.proofs.Fores.{element-past}
use Rattle.fill.proofs.Contained.{holder-untyped, holder-untyped-2, holder-unnumbered, holder-read}
use Rattle.fill.proofs.holder_data.Goals as goal

pub returns-in_err-at2 : goal.returns-in_err-at2
returns-in_err-at2 c = rw c.from_residual.ensures (holder-untyped c.args.shape (elementary-at c.type_at.ensures) (err-was _ c.ok.ensures.value c.in_err-at2.was).1)

pub type_at-requires-2 : goal.type_at-requires-2
type_at-requires-2 c = (element-past (elementary-at c.type_at.ensures) (ok-was _ c.ok.ensures.value c.in_ok-at2.was)).1

pub returns-in_err-at3 : goal.returns-in_err-at3
returns-in_err-at3 c = rw c.from_residual-in_err-at3.ensures (holder-untyped-2 c.args.shape (elementary-at c.type_at.ensures) (ok-was _ c.ok.ensures.value c.in_ok-at2.was) (elementary-at c.type_at-2.ensures) (err-was _ c.ok-2.ensures.value c.in_err-at3.was).1)

pub returns-in_err-next : goal.returns-in_err-next
returns-in_err-next c = rw c.from_residual-in_err-next.ensures
    (holder-unnumbered c.args.shape (elementary-at c.type_at.ensures) (ok-was _ c.ok.ensures.value c.in_ok-at2.was) (elementary-at c.type_at-2.ensures) (ok-was _ c.ok-2.ensures.value c.in_ok-at3.was) c.amount_at.ensures (err-was _ c.ok-3.ensures.value c.in_err-next.was).1)

pub returns : goal.returns
returns c = holder-read c.args.shape (elementary-at c.type_at.ensures) (ok-was _ c.ok.ensures.value c.in_ok-at2.was) (elementary-at c.type_at-2.ensures) (ok-was _ c.ok-2.ensures.value c.in_ok-at3.was) c.amount_at.ensures (ok-was _ c.ok-3.ensures.value c.in_ok-next.was)
    (search (rules, to_z-of_z)) (search (rules, to_z-of_z)) c.nest_of.ensures
