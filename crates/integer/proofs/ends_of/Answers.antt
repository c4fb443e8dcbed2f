use native.Mathlib.Omega.{arith}
use lib.Bits.{and_le_r}
use Rattle.integer.proofs.Windows.{marks-ends}
use Rattle.integer.proofs.ends_of.Goals as goal

pub overflow_sub-result : goal.overflow_sub-result
overflow_sub-result c = and_le_r c.args.w _

pub returns : goal.returns
returns c = omega (arith, marks-ends 8 c.args.w)
