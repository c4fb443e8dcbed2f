use Rattle.scalar.proofs.Signed.{between-yes, between-no}
use Rattle.scalar.proofs.between.Goals as goal

pub returns-then-low-n : goal.returns-then-low-n
returns-then-low-n c = between-yes c.args.low c.args.high c.args.n c.ranges.low c.ranges.high c.ranges.n c.if-low-n.true

pub returns-else-low-n : goal.returns-else-low-n
returns-else-low-n c = between-no c.args.low c.args.high c.args.n c.ranges.low c.ranges.high c.ranges.n c.if-low-n.false
