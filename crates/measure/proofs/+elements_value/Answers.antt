use mathlib.Core.Path.{refl, ap, ◌∙◌}
use Rattle.std.proofs.Common.{arith, rules, ◌≡◌, Ok, Err}
use Rattle.measure.proofs.Cycle.{looking-can-read, looking-again, held-halted, held-ended, held-stopped, value-deep, value-refused, value-single, value-nested, ran-onto, ran-halted, turned-deep, turned-plan, read-mixed, read-deep}
use Rattle.measure.proofs.+elements_value.Goals as goal

pub elements-returns-in_err-coming : goal.elements-returns-in_err-coming
elements-returns-in_err-coming t c =
    let q : c.from_residual.result ≡ Err c.in_err-coming.field-0.0 = search rules in
    rw q (held-halted _ c.requires c.open.ensures c.loop-coming.invariant.turning c.next_at.ensures c.in_err-coming.was)

pub elements-returns-in-End : goal.elements-returns-in-End
elements-returns-in-End t c = held-ended _ c.requires c.open.ensures c.loop-coming.invariant.turning c.next_at.ensures (c.in_ok-coming.was ∙ ap Ok c.in-End.is) c.close.ensures

pub elements-value-requires : goal.elements-value-requires
elements-value-requires t c = (omega (arith, c.decreases), looking-can-read c.loop-coming.invariant c.next_at.ensures (c.in_ok-coming.was ∙ ap Ok c.in-Value.is))

pub elements-returns-in_err-there-in-Value : goal.elements-returns-in_err-there-in-Value
elements-returns-in_err-there-in-Value t c =
    let q : c.from_residual-in_err-there-in-Value.result ≡ Err c.in_err-there-in-Value.field-0.0 = search rules in
    rw q (held-stopped _ c.requires c.open.ensures c.loop-coming.invariant.turning c.next_at.ensures (c.in_ok-coming.was ∙ ap Ok c.in-Value.is) refl c.value.ensures.read c.in_err-there-in-Value.was)

pub elements-loop-coming-preserved : goal.elements-loop-coming-preserved
elements-loop-coming-preserved t c = looking-again c.loop-coming.invariant c.next_at.ensures (c.in_ok-coming.was ∙ ap Ok c.in-Value.is) c.value.ensures c.in_ok-there-in-Value.was

pub value-returns-then-depth-eq0 : goal.value-returns-then-depth-eq0
value-returns-then-depth-eq0 t c = read-deep (value-deep _ _ _ _ _ _ c.if-depth-eq0.true (turned-deep c.form_at.ensures c.too_deep.ensures))

pub value-returns-in_err-next-in-Some : goal.value-returns-in_err-next-in-Some
value-returns-in_err-next-in-Some t c =
    let q : c.from_residual.result ≡ Err c.in_err-next-in-Some.field-0.0 = search rules in
    rw q (ran-halted c.requires c.in-Some.is (omega (arith, c.if-depth-eq0.false)) c.int_ahead.ensures c.in_err-next-in-Some.was)

pub value-returns-in_ok-next-in-Some : goal.value-returns-in_ok-next-in-Some
value-returns-in_ok-next-in-Some t c = ran-onto c.requires c.in-Some.is (omega (arith, c.if-depth-eq0.false)) c.int_ahead.ensures c.in_ok-next-in-Some.was

pub value-returns-in_err-plan-in-None : goal.value-returns-in_err-plan-in-None
value-returns-in_err-plan-in-None t c =
    let q : c.from_residual-in_err-plan-in-None.result ≡ Err c.in_err-plan-in-None.field-0.0 = search rules in
    rw q (read-mixed c.in-None.is (value-refused _ _ _ _ _ _ (turned-plan c.form_at-in-None.ensures c.plan_at.ensures) (omega (arith, c.if-depth-eq0.false)) c.in_err-plan-in-None.was))

pub value-returns-in-Single : goal.value-returns-in-Single
value-returns-in-Single t c = read-mixed c.in-None.is (value-single _ _ _ _ _ _ (turned-plan c.form_at-in-None.ensures c.plan_at.ensures) (omega (arith, c.if-depth-eq0.false)) (c.in_ok-plan-in-None.was ∙ ap Ok c.in-Single.is) c.requires.can)

pub value-returns-in-Inner : goal.value-returns-in-Inner
value-returns-in-Inner t c = read-mixed c.in-None.is (value-nested _ _ _ _ _ _ (turned-plan c.form_at-in-None.ensures c.plan_at.ensures) (omega (arith, c.if-depth-eq0.false)) (c.in_ok-plan-in-None.was ∙ ap Ok c.in-Inner.is) c.requires.can c.elements.ensures)
