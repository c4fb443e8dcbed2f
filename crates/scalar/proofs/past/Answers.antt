use Rattle.std.proofs.Common.{rules, ◌≡◌, Err}
use Rattle.scalar.proofs.Passing.{passes-read, passes-unread}
use Rattle.scalar.proofs.past.Goals as goal

pub returns-in_err-next : goal.returns-in_err-next
returns-in_err-next g c =
    let q : c.from_residual.result ≡ Err c.in_err-next.field-0.0 = search rules in
    rw q (passes-unread c.int_at.ensures c.in_err-next.was)

pub returns : goal.returns
returns g c = passes-read c.int_at.ensures c.in_ok-next.was
