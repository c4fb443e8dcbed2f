use Rattle.scalar.proofs.Passing.{read-small}
use mathlib.Core.Path.{sym, ◌∙◌}
use Rattle.std.proofs.Common.{rules, ◌≡◌, Err}
use Rattle.decide.proofs.Elements.{type-some, type-none, type-faulty}
use Rattle.decide.proofs.element_at.Goals as goal

pub returns-then-may_be_element : goal.returns-then-may_be_element
returns-then-may_be_element c = type-some c.int_at.ensures c.in_ok-next.was (read-small c.int_at.ensures c.in_ok-next.was (λ i. (c.type_inv.src i).fits)) c.class_of.ensures (sym c.may_be_element.ensures ∙ c.if-may_be_element.true)

pub returns-in_err-next : goal.returns-in_err-next
returns-in_err-next c =
    let q : c.from_residual.result ≡ Err c.in_err-next.field-0.0 = search rules in
    rw q (type-faulty c.int_at.ensures c.in_err-next.was)

pub returns : goal.returns
returns c = type-none c.int_at.ensures c.in_ok-next.was (read-small c.int_at.ensures c.in_ok-next.was (λ i. (c.type_inv.src i).fits)) c.class_of.ensures (sym c.may_be_element.ensures ∙ c.if-may_be_element.false)
