use lib.IntN.{pos, negsuc}
use Rattle.scalar.proofs.Signed.{in-range}
use Rattle.scalar.proofs.Dates.{clock-is}
use Rattle.scalar.proofs.clock_fits.Goals as goal

pub returns : goal.returns
returns c = clock-is c.args.h c.args.m c.args.s c.args.f
    (in-range (pos 0) (pos 23) c.args.h c.ranges.h c.between.ensures)
    (in-range (pos 0) (pos 59) c.args.m c.ranges.m c.between-2.ensures)
    (in-range (pos 0) (pos 59) c.args.s c.ranges.s c.between-3.ensures)
    (in-range (negsuc 999999998) (pos 999) c.args.f c.ranges.f c.between-4.ensures)
    c.both-hm.ensures c.both.ensures c.both-2.ensures
