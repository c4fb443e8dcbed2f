use Rattle.fill.proofs.Begins.{ok-was, err-was}
use Rattle.fill.proofs.Contained.{identity-unnumbered, identity-holder}
use Rattle.fill.proofs.identity_data.Goals as goal

pub returns-in_err-next : goal.returns-in_err-next
returns-in_err-next c = rw c.from_residual.ensures (identity-unnumbered c.requires c.amount_at.ensures (err-was _ c.ok.ensures.value c.in_err-next.was).1)

pub returns : goal.returns
returns c = identity-holder c.requires c.amount_at.ensures (ok-was _ c.ok.ensures.value c.in_ok-next.was) c.plain.ensures c.alike-one.ensures
