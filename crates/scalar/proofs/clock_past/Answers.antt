use Rattle.format.specs.Data.{part}
use lib.Dec.{lit<}
use lib.IntN.{pos}
use Rattle.std.proofs.Common.{rules, ◌≡◌, Err}
use Rattle.scalar.proofs.Signed.{seen}
use Rattle.scalar.proofs.Moments.{clock-told, zone-told, clock-cut, clock-offset, clock-fit, clock-unfit, parts-small, of-five, listed}
use Rattle.scalar.proofs.clock_past.Goals as goal

pub returns-then-between : goal.returns-then-between
returns-then-between c =
    let s = c.args in
    let l = c.in_ok-next.field-0-1 in
    let p = parts-small c.ints_at.ensures c.in_ok-next.was in
    let good = clock-told s.fits (part 0 l) (part 1 l) (part 2 l) (part 3 l) (p.1 0 (lit< tt)) (p.1 1 (lit< tt)) (p.1 2 (lit< tt)) (p.1 3 (lit< tt)) c.clock_fits.ensures c.both-good.ensures in
    clock-offset s.fits s.from s.n c.ints_at.ensures (listed c.in_ok-next.was (of-five _ p.0)) good (seen (pos 2) (pos 2) (part 4 l) (p.1 4 (lit< tt)) c.between.ensures c.if-between.true) c.offset_past.ensures

pub returns-then-both : goal.returns-then-both
returns-then-both c =
    let s = c.args in
    let l = c.in_ok-next.field-0-1 in
    let p = parts-small c.ints_at.ensures c.in_ok-next.was in
    let good = clock-told s.fits (part 0 l) (part 1 l) (part 2 l) (part 3 l) (p.1 0 (lit< tt)) (p.1 1 (lit< tt)) (p.1 2 (lit< tt)) (p.1 3 (lit< tt)) c.clock_fits.ensures c.both-good.ensures in
    let zone = zone-told c.both-good.result (part 4 l) (p.1 4 (lit< tt)) c.between-2.ensures c.both.ensures in
    clock-fit s.fits s.from s.n c.ints_at.ensures (listed c.in_ok-next.was (of-five _ p.0)) good (seen (pos 2) (pos 2) (part 4 l) (p.1 4 (lit< tt)) c.between.ensures c.if-between.false) zone c.if-both.true

pub returns-in_err-next : goal.returns-in_err-next
returns-in_err-next c =
    let q : c.from_residual.result ≡ Err c.in_err-next.field-0.0 = search rules in
    rw q (clock-cut c.args.fits c.args.from c.args.n c.ints_at.ensures c.in_err-next.was)

pub returns : goal.returns
returns c =
    let s = c.args in
    let l = c.in_ok-next.field-0-1 in
    let p = parts-small c.ints_at.ensures c.in_ok-next.was in
    let good = clock-told s.fits (part 0 l) (part 1 l) (part 2 l) (part 3 l) (p.1 0 (lit< tt)) (p.1 1 (lit< tt)) (p.1 2 (lit< tt)) (p.1 3 (lit< tt)) c.clock_fits.ensures c.both-good.ensures in
    let zone = zone-told c.both-good.result (part 4 l) (p.1 4 (lit< tt)) c.between-2.ensures c.both.ensures in
    clock-unfit s.fits s.from s.n c.ints_at.ensures (listed c.in_ok-next.was (of-five _ p.0)) good (seen (pos 2) (pos 2) (part 4 l) (p.1 4 (lit< tt)) c.between.ensures c.if-between.false) zone c.if-both.false
