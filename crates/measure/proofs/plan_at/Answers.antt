use Rattle.std.proofs.Common.{rules, ◌≡◌, Err}
use Rattle.measure.proofs.Values.{value-odd, value-classed}
use Rattle.measure.proofs.plan_at.Goals as goal

pub returns-in_err-from : goal.returns-in_err-from
returns-in_err-from c =
    let q : c.from_residual.result ≡ Err c.in_err-from.field-0.0 = search rules in
    rw q (value-odd c.class_at.ensures c.in_err-from.was)

pub returns : goal.returns
returns c = value-classed c.requires c.class_at.ensures c.in_ok-from.was c.once_of.ensures c.data_plan.ensures
