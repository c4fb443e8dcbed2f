use Rattle.format.specs.Data.{part}
use lib.Dec.{lit<}
use Rattle.std.proofs.Common.{rules, ◌≡◌, Err}
use Rattle.scalar.proofs.Moments.{date-told, dated-clock, dated-fit, dated-cut, dated-unfit, parts-small, of-three, listed}
use Rattle.scalar.proofs.dated_past.Goals as goal

pub returns-then-clocked : goal.returns-then-clocked
returns-then-clocked c =
    let l = c.in_ok-next.field-0-1 in
    let p = parts-small c.ints_at.ensures c.in_ok-next.was in
    let good = date-told (part 0 l) (part 1 l) (part 2 l) (p.1 0 (lit< tt)) (p.1 1 (lit< tt)) (p.1 2 (lit< tt)) c.date_fits-fits.ensures in
    dated-clock c.args.clocked c.ints_at.ensures (listed c.in_ok-next.was (of-three _ p.0)) good c.if-clocked.true c.clock_past.ensures

pub returns-then-fits : goal.returns-then-fits
returns-then-fits c =
    let l = c.in_ok-next.field-0-1 in
    let p = parts-small c.ints_at.ensures c.in_ok-next.was in
    let good = date-told (part 0 l) (part 1 l) (part 2 l) (p.1 0 (lit< tt)) (p.1 1 (lit< tt)) (p.1 2 (lit< tt)) c.date_fits-fits.ensures in
    dated-fit c.args.clocked c.ints_at.ensures (listed c.in_ok-next.was (of-three _ p.0)) good c.if-clocked.false c.if-fits.true

pub returns-in_err-next : goal.returns-in_err-next
returns-in_err-next c =
    let q : c.from_residual.result ≡ Err c.in_err-next.field-0.0 = search rules in
    rw q (dated-cut c.args.clocked c.ints_at.ensures c.in_err-next.was)

pub returns : goal.returns
returns c =
    let l = c.in_ok-next.field-0-1 in
    let p = parts-small c.ints_at.ensures c.in_ok-next.was in
    let good = date-told (part 0 l) (part 1 l) (part 2 l) (p.1 0 (lit< tt)) (p.1 1 (lit< tt)) (p.1 2 (lit< tt)) c.date_fits-fits.ensures in
    dated-unfit c.args.clocked c.ints_at.ensures (listed c.in_ok-next.was (of-three _ p.0)) good c.if-clocked.false c.if-fits.false
