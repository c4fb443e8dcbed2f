use Rattle.std.proofs.Common.{rules, ◌≡◌, Err}
use Rattle.measure.proofs.Types.{holder-alien, holder-alien-2, holder-none, holder-nest}
use Rattle.measure.proofs.holder_plan.Goals as goal

pub returns-in_err-at2 : goal.returns-in_err-at2
returns-in_err-at2 c =
    let q : c.from_residual.result ≡ Err c.in_err-at2.field-0.0 = search rules in
    rw q (holder-alien _ c.args.shape _ c.type_at.ensures c.in_err-at2.was)

pub returns-in_err-at3 : goal.returns-in_err-at3
returns-in_err-at3 c =
    let q : c.from_residual-in_err-at3.result ≡ Err c.in_err-at3.field-0.0 = search rules in
    rw q (holder-alien-2 _ c.args.shape _ c.type_at.ensures c.in_ok-at2.was c.type_at-2.ensures c.in_err-at3.was)

pub returns-in_err-from : goal.returns-in_err-from
returns-in_err-from c =
    let q : c.from_residual-in_err-from.result ≡ Err c.in_err-from.field-0.0 = search rules in
    rw q (holder-none _ c.args.shape _ c.type_at.ensures c.in_ok-at2.was c.type_at-2.ensures c.in_ok-at3.was c.amount_at.ensures c.in_err-from.was)

pub returns : goal.returns
returns c = holder-nest _ c.args.shape _ c.type_at.ensures c.in_ok-at2.was c.type_at-2.ensures c.in_ok-at3.was c.amount_at.ensures c.in_ok-from.was (search rules) (search rules) c.nest_of.ensures
