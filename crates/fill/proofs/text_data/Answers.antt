use Rattle.fill.proofs.Begins.{ok-was, err-was}
use Rattle.fill.proofs.Numbers.{amount-past}
use Rattle.fill.proofs.Fores.{text-unnumbered, text-cut, text-leaf}
use Rattle.fill.proofs.text_data.Goals as goal

pub overflow_sub-src : goal.overflow_sub-src
overflow_sub-src c = (amount-past c.amount_at.ensures (ok-was _ c.ok.ensures.value c.in_ok-next.was)).1

pub returns-in_err-next : goal.returns-in_err-next
returns-in_err-next c = rw c.from_residual.ensures (text-unnumbered c.requires c.amount_at.ensures (err-was _ c.ok.ensures.value c.in_err-next.was).1)

pub returns-then-src-next : goal.returns-then-src-next
returns-then-src-next c = text-cut c.requires c.amount_at.ensures (ok-was _ c.ok.ensures.value c.in_ok-next.was) c.if-src-next.true

pub returns : goal.returns
returns c = text-leaf c.requires c.amount_at.ensures (ok-was _ c.ok.ensures.value c.in_ok-next.was) c.if-src-next.false
