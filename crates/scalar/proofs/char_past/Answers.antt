use native.Mathlib.Omega.{arith}
use Rattle.scalar.proofs.Character.{none-refused, null-refused, one-passed}
use Rattle.scalar.proofs.char_past.Goals as goal

pub returns-then-src-at : goal.returns-then-src-at
returns-then-src-at c = none-refused c.if-src-at.true

pub returns-then-a-eq0 : goal.returns-then-a-eq0
returns-then-a-eq0 c = null-refused _ _ (omega arith) c.if-a-eq0.true

pub returns-then-a-lt128 : goal.returns-then-a-lt128
returns-then-a-lt128 c = one-passed _ _ (omega arith) (omega arith) c.if-a-lt128.true
