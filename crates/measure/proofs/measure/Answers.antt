use Rattle.std.proofs.Common.{rules, ◌≡◌, Err}
use Rattle.measure.proofs.Entries.{measured}
use Rattle.measure.proofs.measure.Goals as goal

pub returns-in_err-next : goal.returns-in_err-next
returns-in_err-next c =
    let q : c.from_residual.result ≡ Err c.in_err-next.field-0.0 = search rules in
    rw q (measured _ c.outermost.ensures c.in_err-next.was)

pub returns : goal.returns
returns c = measured _ c.outermost.ensures c.in_ok-next.was
