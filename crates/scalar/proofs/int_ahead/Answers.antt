use native.Mathlib.Omega.{arith}
use mathlib.Core.Path.{refl}
use Prim.Native.Nat.{◌+◌, ◌/◌}
use lib.Count.{count_trailing_zeros, trailing_le}
use Rattle.integer.proofs.Windows.{zeros-lt}
use Rattle.scalar.proofs.Integers.{runs_on}
use Rattle.scalar.proofs.int_ahead.Goals as goal

pub overflow_cast-k : goal.overflow_cast-k
overflow_cast-k c = omega (arith, trailing_le 64 c.args.near)

pub overflow_add-last : goal.overflow_add-last
overflow_add-last c = omega (arith, zeros-lt 64 c.args.near (omega arith) (omega arith))

pub bounds-src-at : goal.bounds-src-at
bounds-src-at c = omega (arith, zeros-lt 64 c.args.near (omega arith) (omega arith))

pub overflow_mul-last : goal.overflow_mul-last
overflow_mul-last c = omega (arith, c.type_inv.src (c.args.at + count_trailing_zeros 64 c.args.near / 8))

pub overflow_mul-k : goal.overflow_mul-k
overflow_mul-k c = omega (arith, zeros-lt 64 c.args.near (omega arith) (omega arith))

pub overflow_add-k : goal.overflow_add-k
overflow_add-k c = omega (arith, zeros-lt 64 c.args.near (omega arith) (omega arith), c.type_inv.src (c.args.at + count_trailing_zeros 64 c.args.near / 8))

pub overflow_add-result : goal.overflow_add-result
overflow_add-result c = omega (arith, zeros-lt 64 c.args.near (omega arith) (omega arith))

pub overflow_add-result-then-k-last-2 : goal.overflow_add-result-then-k-last-2
overflow_add-result-then-k-last-2 c = omega (arith, zeros-lt 64 c.args.near (omega arith) (omega arith))

pub ends_on-requires : goal.ends_on-requires
ends_on-requires c = zeros-lt 64 c.args.near (omega arith) (omega arith)

pub overflow_add-at-then-k-last-2 : goal.overflow_add-at-then-k-last-2
overflow_add-at-then-k-last-2 c = omega (arith, zeros-lt 64 c.args.near (omega arith) (omega arith))

pub overflow_add-at-then-k-last-2-2 : goal.overflow_add-at-then-k-last-2-2
overflow_add-at-then-k-last-2-2 c = omega (arith, zeros-lt 64 c.args.near (omega arith) (omega arith))

pub ends_at-requires : goal.ends_at-requires
ends_at-requires c = omega (arith, zeros-lt 64 c.args.near (omega arith) (omega arith))

pub returns-then-k-last-2 : goal.returns-then-k-last-2
returns-then-k-last-2 c = runs_on _ _ _ _ c.if-at-src.true (λ i. (c.type_inv.src i).fits) c.requires.3 c.if-near-ne0.true refl c.requires.2 c.if-k-last.true c.if-k-last-2.true c.ends_on.ensures c.ends_at.ensures
