use native.Mathlib.Omega.{arith}
use borrow.Author.Tests.{ltb-true, ltb-false}
use Rattle.scalar.proofs.Chars.{char-if, is_one, one_told}
use Rattle.scalar.proofs.is_single.Goals as goal

pub returns : goal.returns
returns c = char-if _ _ (λ t. is_one _ (ltb-true 0 _ t) (omega arith)) (λ f t. omega (arith, (one_told _ t).0, ltb-false 0 _ f))
