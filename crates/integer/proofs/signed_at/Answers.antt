use Rattle.std.proofs.Common.{rules, ◌≡◌, Err}
use Rattle.integer.proofs.Spelling.{one-positive, one-negative, more-positive, more-negative}
use Rattle.integer.proofs.Spelling.{one-positive, one-negative}
use mathlib.Core.Path.{sym}
use native.Mathlib.Omega.{arith}
use lib.Dec.{lit≤}
use Rattle.integer.specs.Packed.{wide32}
use Rattle.integer.proofs.Steps.{integer-end, integer-one, found-mag, found-ill, found-past, told}
use Rattle.integer.proofs.signed_at.Goals as goal

pub returns-then-src-at : goal.returns-then-src-at
returns-then-src-at c = record { same = λ e. sym (integer-end wide32 _ _ e c.if-src-at.true); past = tt }

pub returns-then-b-lt64 : goal.returns-then-b-lt64
returns-then-b-lt64 c = record { same = λ e. told (one-positive _ c.if-b-lt64.true) (integer-one wide32 _ _ e (lit≤ tt) (omega arith) (omega arith)); past = omega arith }

pub returns-then-b-lt128 : goal.returns-then-b-lt128
returns-then-b-lt128 c = record { same = λ e. told (one-negative _ c.if-b-lt64.false c.if-b-lt128.true) (integer-one wide32 _ _ e (lit≤ tt) (omega arith) c.if-b-lt128.true); past = omega arith }

pub overflow_cast-result-then-b-lt192 : goal.overflow_cast-result-then-b-lt192
overflow_cast-result-then-b-lt192 c = omega (arith, (found-past {w = wide32} c.tail_at.ensures (omega arith) c.if-b-lt128.false c.in_ok-next.was).2)

pub returns-then-b-lt192 : goal.returns-then-b-lt192
returns-then-b-lt192 c = record { same = λ e. told (more-positive _ _ c.if-b-lt128.false c.if-b-lt192.true) (found-mag {w = wide32} c.tail_at.ensures (omega arith) c.if-b-lt128.false c.in_ok-next.was e); past = found-past {w = wide32} c.tail_at.ensures (omega arith) c.if-b-lt128.false c.in_ok-next.was }

pub overflow_cast-result-2 : goal.overflow_cast-result-2
overflow_cast-result-2 c = omega (arith, (found-past {w = wide32} c.tail_at.ensures (omega arith) c.if-b-lt128.false c.in_ok-next.was).2)

pub returns : goal.returns
returns c = record { same = λ e. told (more-negative _ _ c.if-b-lt192.false (c.type_inv.src _).fits) (found-mag {w = wide32} c.tail_at.ensures (omega arith) c.if-b-lt128.false c.in_ok-next.was e); past = found-past {w = wide32} c.tail_at.ensures (omega arith) c.if-b-lt128.false c.in_ok-next.was }

pub returns-in_err-next : goal.returns-in_err-next
returns-in_err-next c =
    let q : c.from_residual.result ≡ Err c.in_err-next.field-0.0 = search rules in
    rw q (record { same = λ e. sym (found-ill {w = wide32} c.tail_at.ensures (omega arith) c.if-b-lt128.false c.in_err-next.was e); past = tt })
