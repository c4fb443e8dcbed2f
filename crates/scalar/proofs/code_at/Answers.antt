use native.Mathlib.Omega.{arith}
use Rattle.scalar.proofs.Chars.{follow-two, follow-three}
use Rattle.scalar.proofs.Character.{lost-none, lost-cut, code_one, code-two, code-three}
use Rattle.scalar.proofs.code_at.Goals as goal

pub returns-then-src-at : goal.returns-then-src-at
returns-then-src-at c = lost-none _ _ c.if-src-at.true

pub returns-then-a-lt128 : goal.returns-then-a-lt128
returns-then-a-lt128 c = code_one _ _ (omega arith) c.if-a-lt128.true

pub returns-then-src-at-lt2 : goal.returns-then-src-at-lt2
returns-then-src-at-lt2 c = lost-cut _ _ (omega arith) (omega (arith, follow-two _ c.if-a-lt128.false c.if-a-lt224.true))

pub returns-then-a-lt224 : goal.returns-then-a-lt224
returns-then-a-lt224 c = code-two _ _ (omega arith) c.if-a-lt128.false c.if-a-lt224.true (omega arith) c.code_of_two.ensures

pub returns-then-src-at-lt3 : goal.returns-then-src-at-lt3
returns-then-src-at-lt3 c = lost-cut _ _ (omega arith) (omega (arith, follow-three _ c.if-a-lt224.false))

pub returns : goal.returns
returns c = code-three _ _ (omega arith) c.if-a-lt224.false (omega arith) c.code_of_three.ensures
