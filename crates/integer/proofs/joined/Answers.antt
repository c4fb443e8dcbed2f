use Prim.Native.Nat.{◌+◌, ◌*◌, ◌%◌}
use native.Mathlib.Omega.{arith}
use borrow.Author.Tests.{eq-eqb, ne_eqb, lt-ltb, le-ltb}
use Rattle.integer.proofs.joined.Goals as goal

pub returns-then-last-eq0 : goal.returns-then-last-eq0
returns-then-last-eq0 c = rw (eq-eqb _ _ c.if-last-eq0.true)

pub returns-then-bits-bound : goal.returns-then-bits-bound
returns-then-bits-bound c = let a = c.args in rw (ne_eqb _ _ c.if-last-eq0.false, lt-ltb (a.first % 64 + 64 * a.bits) a.bound (omega arith))

pub returns : goal.returns
returns c = let a = c.args in rw (ne_eqb _ _ c.if-last-eq0.false, le-ltb (a.first % 64 + 64 * a.bits) a.bound (omega arith))
