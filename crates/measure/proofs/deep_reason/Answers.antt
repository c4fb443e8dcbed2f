use Rattle.measure.proofs.Cycle.{as-deep, deep-refused, deep-plain, deep-twice, deep-first}
use Rattle.measure.proofs.deep_reason.Goals as goal

pub returns-in-Refused : goal.returns-in-Refused
returns-in-Refused c = as-deep c.in-Refused.is deep-refused

pub returns-then-once : goal.returns-then-once
returns-then-once c = as-deep c.in-Identity.is (deep-twice c.if-once.true)

pub returns-else-once : goal.returns-else-once
returns-else-once c = as-deep c.in-Identity.is (deep-first c.if-once.false)

pub returns-in_default : goal.returns-in_default
returns-in_default c = deep-plain c.in_default.not-Refused c.in_default.not-Identity

pub returns-in-Holder : goal.returns-in-Holder
returns-in-Holder c = as-deep c.in-Holder.is (deep-plain (λ e. cc) (λ e. cc))
