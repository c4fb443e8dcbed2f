use Rattle.std.proofs.Common.{rules, ◌≡◌, Err}
use Rattle.measure.proofs.Plans.{text-none, text-some}
use Rattle.measure.proofs.text_plan.Goals as goal

pub returns-in_err-next : goal.returns-in_err-next
returns-in_err-next c =
    let q : c.from_residual.result ≡ Err c.in_err-next.field-0.0 = search rules in
    rw q record { plan = λ l once p. text-none c.amount_at.ensures c.in_err-next.was }

pub returns : goal.returns
returns c = record { plan = λ l once p. text-some c.amount_at.ensures c.in_ok-next.was c.text_past.ensures c.single.ensures }
