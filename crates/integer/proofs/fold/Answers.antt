use native.Mathlib.Omega.{arith}
use lib.Bits.{and_le_l}
use Rattle.integer.proofs.Windows.{folded-le}
use Rattle.integer.proofs.fold.Goals as goal

pub overflow_sub-result : goal.overflow_sub-result
overflow_sub-result c = and_le_l c.args.x c.args.mask

pub overflow_add-result : goal.overflow_add-result
overflow_add-result c = omega (arith, folded-le c.args.mask c.args.by c.args.x)
