use native.Mathlib.Omega.{arith}
use borrow.Author.Tests.{ltb-true}
use Rattle.scalar.proofs.Integers.{reads-one, reads_two}
use Rattle.scalar.proofs.int_at.Goals as goal

pub returns-then-b-lt128 : goal.returns-then-b-lt128
returns-then-b-lt128 c = reads-one c.if-at-src.true c.signed.type_inv c.if-b-lt128.true c.signed.ensures

pub overflow_mul-c : goal.overflow_mul-c
overflow_mul-c c = omega (arith, ltb-true)

pub overflow_add-low : goal.overflow_add-low
overflow_add-low c = omega (arith, ltb-true)

pub signed-requires-then-c-lt128 : goal.signed-requires-then-c-lt128
signed-requires-then-c-lt128 c = omega (arith, ltb-true)

pub returns-then-c-lt128 : goal.returns-then-c-lt128
returns-then-c-lt128 c = reads_two c.if-at-src.true c.signed-then-c-lt128.type_inv c.if-b-lt128.false (omega arith) c.if-c-gt0.true (omega (arith, ltb-true)) c.signed-then-c-lt128.ensures
