use native.Mathlib.Omega.{arith}
use Rattle.std.proofs.Common.{rules}
use Rattle.input.proofs.Moving.{moved}
use Rattle.input.proofs.keep.Goals as goal

pub returns : goal.returns
returns c = moved c.requires (search (rules, arith))
