use Rattle.std.proofs.Common.{rules, ◌≡◌, Err}
use Rattle.integer.proofs.Steps.{with_number}
use Rattle.decide.proofs.Coming.{index-faulty, index-end, index_below, index-low, index-high, index-value}
use Rattle.decide.proofs.index_next.Goals as goal

pub returns-then-n-eq0 : goal.returns-then-n-eq0
returns-then-n-eq0 c = index-end c.signed_at.ensures (with_number c.in_ok-next.was c.in-Negative.is) c.if-n-eq0.true

pub returns-then-j-low : goal.returns-then-j-low
returns-then-j-low c = rw c.out_of_bounds-then-j-low.ensures (index-low c.signed_at.ensures (with_number c.in_ok-next.was c.in-Positive.is) c.if-j-low.true)

pub returns-then-top-j : goal.returns-then-top-j
returns-then-top-j c = rw c.out_of_bounds-then-top-j.ensures (index-high c.signed_at.ensures (with_number c.in_ok-next.was c.in-Positive.is) c.if-j-low.false c.if-top-j.true)

pub returns-in_err-next : goal.returns-in_err-next
returns-in_err-next c =
    let q : c.from_residual.result ≡ Err c.in_err-next.field-0.0 = search rules in
    rw q (index-faulty c.signed_at.ensures c.in_err-next.was)

pub returns-else-n-eq0 : goal.returns-else-n-eq0
returns-else-n-eq0 c = rw c.out_of_bounds.ensures (index_below c.signed_at.ensures (with_number c.in_ok-next.was c.in-Negative.is) c.if-n-eq0.false)

pub returns-else-top-j : goal.returns-else-top-j
returns-else-top-j c = index-value c.signed_at.ensures (with_number c.in_ok-next.was c.in-Positive.is) c.if-j-low.false c.if-top-j.false
