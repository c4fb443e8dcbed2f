use mathlib.Core.Path.{sym, ◌∙◌}
use borrow.Author.Tests.{leb-true, leb-false}
use Rattle.std.proofs.Common.{rules, ◌≡◌, Err}
use Rattle.measure.proofs.Naming.{identity-twice, identity-none, identity-known, identity-full, identity-new}
use Rattle.measure.proofs.identity_plan.Goals as goal
use Rattle.measure.proofs.identity_plan.Goals.{then-knows-via-then-knows, then-knows-via-else-knows+then-is_full}

pub returns-then-once : goal.returns-then-once
returns-then-once c = identity-twice _ _ _ _ c.if-once.true

pub returns-then-knows : goal.returns-then-knows
returns-then-knows c = elim c.then-knows.branch [
  | then-knows-via-then-knows w ↦ identity-known _ _ _ _ c.if-once.false c.amount_at.ensures c.in_ok-next.was (sym c.knows.ensures ∙ w.if-knows.true)
  | then-knows-via-else-knows+then-is_full w ↦ identity-full _ _ _ _ c.if-once.false c.amount_at.ensures c.in_ok-next.was (sym c.knows.ensures ∙ w.if-knows.false) (leb-true _ _ (sym w.is_full.ensures ∙ w.if-is_full.true))
]

pub returns-in_err-next : goal.returns-in_err-next
returns-in_err-next c =
    let q : c.from_residual.result ≡ Err c.in_err-next.field-0.0 = search rules in
    rw q (identity-none _ _ _ _ c.if-once.false c.amount_at.ensures c.in_err-next.was)

pub returns : goal.returns
returns c = identity-new _ _ _ _ c.if-once.false c.amount_at.ensures c.in_ok-next.was (sym c.knows.ensures ∙ c.if-knows.false) (leb-false _ _ (sym c.is_full.ensures ∙ c.if-is_full.false)) c.alike.ensures
