use Rattle.fill.proofs.Begins.{ok-was, err-was}
use Rattle.fill.proofs.Numbers.{amount-number, amount-missing}
use Rattle.fill.proofs.amount_number.Goals as goal

pub returns-in_err-next : goal.returns-in_err-next
returns-in_err-next c = rw c.from_residual.ensures (amount-missing c.amount_at.ensures (err-was _ c.ok.ensures.value c.in_err-next.was).1)

pub returns : goal.returns
returns c = amount-number c.amount_at.ensures (ok-was _ c.ok.ensures.value c.in_ok-next.was)
