use native.Mathlib.Omega.{arith}
use Rattle.queries.proofs.Numbers.{reading-again, reading_small, reading-all, digit-range}
use Rattle.queries.proofs.value_of.Goals as goal

pub overflow_mul-n : goal.overflow_mul-n
overflow_mul-n c = omega (arith, reading_small c.loop-digit.invariant c.requires.0 c.requires.1 c.loop-digit-test.true)

pub overflow_sub-n : goal.overflow_sub-n
overflow_sub-n c = (digit-range c.loop-digit.invariant c.requires.0 c.requires.1 c.loop-digit-test.true).0

pub overflow_cast-n : goal.overflow_cast-n
overflow_cast-n c = omega (arith, (digit-range c.loop-digit.invariant c.requires.0 c.requires.1 c.loop-digit-test.true).1)

pub overflow_add-n : goal.overflow_add-n
overflow_add-n c = omega (arith, (digit-range c.loop-digit.invariant c.requires.0 c.requires.1 c.loop-digit-test.true).1, reading_small c.loop-digit.invariant c.requires.0 c.requires.1 c.loop-digit-test.true)

pub loop-digit-preserved : goal.loop-digit-preserved
loop-digit-preserved c = reading-again c.loop-digit.invariant c.requires.0 c.requires.1 c.loop-digit-test.true

pub returns : goal.returns
returns c = reading-all c.loop-digit.invariant c.loop-digit-test.false
