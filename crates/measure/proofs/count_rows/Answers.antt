use Rattle.std.proofs.Common.{rules, ◌≡◌, Err}
use Rattle.measure.proofs.Entries.{counted-refused, counted-left, counted}
use Rattle.measure.proofs.count_rows.Goals as goal

pub returns-then-next-src : goal.returns-then-next-src
returns-then-next-src c = counted-left _ c.outermost.ensures c.in_ok-next.was c.if-next-src.true

pub returns-in_err-next : goal.returns-in_err-next
returns-in_err-next c =
    let q : c.from_residual.result ≡ Err c.in_err-next.field-0.0 = search rules in
    rw q (counted-refused _ c.outermost.ensures c.in_err-next.was)

pub returns : goal.returns
returns c = counted _ c.outermost.ensures c.in_ok-next.was c.if-next-src.false
