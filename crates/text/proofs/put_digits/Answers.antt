use native.Mathlib.Numerals.{add-one}
use native.Mathlib.Omega.{arith}
use mathlib.Core.Path.{refl}
use Rattle.integer.proofs.Writes.{room-one, room-more}
use Rattle.text.proofs.Decimal.{decimal-one, decimal-two, spelt}
use Rattle.text.proofs.put_digits.Goals as goal

pub bounds-out-at : goal.bounds-out-at
bounds-out-at c = room-one (decimal-one c.args.n c.if-n-lt10.true) c.requires

pub returns-then-n-lt10 : goal.returns-then-n-lt10
returns-then-n-lt10 c = rw (decimal-one c.args.n c.if-n-lt10.true) (record { past = refl; holds = refl })

pub bounds-out-at-then-n-lt100 : goal.bounds-out-at-then-n-lt100
bounds-out-at-then-n-lt100 c = room-one (decimal-two c.args.n (omega arith) (omega arith)) c.requires

pub bounds-out-at-then-n-lt100-2 : goal.bounds-out-at-then-n-lt100-2
bounds-out-at-then-n-lt100-2 c = room-one refl (room-more (decimal-two c.args.n (omega arith) (omega arith)) c.requires)

pub returns-then-n-lt100 : goal.returns-then-n-lt100
returns-then-n-lt100 c = rw (decimal-two c.args.n (omega arith) (omega arith)) (record { past = refl; holds = rw add-one refl })

pub put_text-requires : goal.put_text-requires
put_text-requires c = rw (c.as_bytes.ensures.value, c.format.ensures.text) (rw (spelt c.args.n c.ranges.n.fits) at c.requires)

pub returns : goal.returns
returns c = rw (spelt c.args.n c.ranges.n.fits) (rw (c.as_bytes.ensures.value, c.format.ensures.text) at c.put_text.ensures)
