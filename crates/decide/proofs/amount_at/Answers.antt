use Rattle.std.proofs.Common.{rules, ◌≡◌, Err}
use Rattle.decide.proofs.Elements.{amount-positive, amount-negative, amount-faulty}
use Rattle.integer.proofs.Steps.{with_number}
use Rattle.decide.proofs.amount_at.Goals as goal

pub returns-in_err-next : goal.returns-in_err-next
returns-in_err-next c =
    let q : c.from_residual.result ≡ Err c.in_err-next.field-0.0 = search rules in
    rw q (amount-faulty c.signed_at.ensures c.in_err-next.was)

pub returns-in-Positive : goal.returns-in-Positive
returns-in-Positive c = amount-positive c.signed_at.ensures (with_number c.in_ok-next.was c.in-Positive.is)

pub returns-in-Negative : goal.returns-in-Negative
returns-in-Negative c = rw c.out_of_bounds.ensures (amount-negative c.signed_at.ensures (with_number c.in_ok-next.was c.in-Negative.is))
