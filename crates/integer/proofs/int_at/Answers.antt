use Rattle.std.proofs.Common.{rules, ◌≡◌, Err}
use native.Mathlib.Omega.{arith}
use mathlib.Core.Path.{sym}
use Rattle.integer.specs.Packed.{width}
use Rattle.integer.proofs.Steps.{integer-end, integer-one, found-mag, found-ill, found-past, told}
use Rattle.integer.proofs.int_at.Goals as goal

pub returns-then-src-at : goal.returns-then-src-at
returns-then-src-at g c = record { same = λ e. sym (integer-end (width _ _) _ _ e c.if-src-at.true); past = tt }

pub signed-requires : goal.signed-requires
signed-requires g c = let p = g.met.T.Packed.packable in omega (arith, p.most)

pub returns-then-b-lt128 : goal.returns-then-b-lt128
returns-then-b-lt128 g c = let p = g.met.T.Packed.packable in record { same = λ e. told c.signed.ensures (integer-one (width _ _) _ _ e p.most (omega arith) c.if-b-lt128.true); past = omega arith }

pub tail_at-requires : goal.tail_at-requires
tail_at-requires g c = let p = g.met.T.Packed.packable in rw (c.MORE.ensures, c.BOUND.ensures) (c.if-src-at.false, p.few, p.by_64)

pub signed-requires-2 : goal.signed-requires-2
signed-requires-2 g c = (found-past {w = width _ _} (rw (c.MORE.ensures, c.BOUND.ensures) at c.tail_at.ensures) (omega arith) c.if-b-lt128.false c.in_ok-next.was).2

pub returns-in_err-next : goal.returns-in_err-next
returns-in_err-next g c =
    let q : c.from_residual.result ≡ Err c.in_err-next.field-0.0 = search rules in
    rw q (record { same = λ e. sym (found-ill {w = width _ _} (rw (c.MORE.ensures, c.BOUND.ensures) at c.tail_at.ensures) (omega arith) c.if-b-lt128.false c.in_err-next.was e); past = tt })

pub returns : goal.returns
returns g c =
    let t = rw (c.MORE.ensures, c.BOUND.ensures) at c.tail_at.ensures in
    let f = found-past {w = width _ _} t (omega arith) c.if-b-lt128.false c.in_ok-next.was in
    record { same = λ e. told c.signed-2.ensures (found-mag {w = width _ _} t (omega arith) c.if-b-lt128.false c.in_ok-next.was e); past = (f.0, f.1) }
