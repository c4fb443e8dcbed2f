use mathlib.Core.Path.{sym, ◌∙◌}
use Rattle.std.proofs.Common.{rules, ◌≡◌, Err}
use Rattle.measure.proofs.Naming.{reference-none, reference-aimed, reference-lost}
use Rattle.measure.proofs.reference_plan.Goals as goal

pub returns-then-ended : goal.returns-then-ended
returns-then-ended c = record { plan = λ once p. reference-aimed _ _ _ _ once c.amount_at.ensures c.in_ok-next.was (sym c.ended.ensures ∙ c.if-ended.true) }

pub returns-in_err-next : goal.returns-in_err-next
returns-in_err-next c =
    let q : c.from_residual.result ≡ Err c.in_err-next.field-0.0 = search rules in
    rw q record { plan = λ once p. reference-none _ _ _ _ once c.amount_at.ensures c.in_err-next.was }

pub returns : goal.returns
returns c = record { plan = λ once p. reference-lost _ _ _ _ once c.amount_at.ensures c.in_ok-next.was (sym c.ended.ensures ∙ c.if-ended.false) }
