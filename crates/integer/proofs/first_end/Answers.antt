use native.Mathlib.Omega.{arith}
use mathlib.Core.Path.{refl}
use lib.Count.{trailing_le}
use Rattle.integer.proofs.Windows.{zeros-lt}
use Rattle.integer.proofs.first_end.Goals as goal

pub overflow_cast-result : goal.overflow_cast-result
overflow_cast-result c = omega (arith, trailing_le 64 c.args.e)

pub returns : goal.returns
returns c = (refl, omega (arith, zeros-lt 64 c.args.e c.requires (omega arith)))
