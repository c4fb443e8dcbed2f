use Prim.Native.Nat.{ℕ, ◌+◌, ◌-◌, ◌%◌, ◌<◌}
use mathlib.Core.Path.{◌≡◌, subst}
use lib.ListN.{get_or}
use native.Mathlib.Omega.{arith}
use Rattle.integer.proofs.Steps.{Turn, turn-first, turn-again, turn-ends, turn-over, turn-joined, one_more, worth, tail-ill}
use Rattle.integer.proofs.long_at.Goals as goal

-- an octet is left to come
more-left : {n m : ℕ} → n < m → 0 < m - n
more-left h = omega arith

pub loop-next-init : goal.loop-next-init
loop-next-init c = let k : c.args.at + 1 + c.args.more - (c.args.at + 1) ≡ c.args.more = omega arith in rw k (turn-first _ _ _ c.requires.0 c.requires.1)

pub returns-then-src-next : goal.returns-then-src-next
returns-then-src-next c = tail-ill _ _ _ _ _ _ (turn-ends c.loop-next.invariant (more-left c.loop-next-test.true) c.if-src-next.true)

pub overflow_mul-scale : goal.overflow_mul-scale
overflow_mul-scale c = let m = more-left c.loop-next-test.true in omega (arith, one_more c.loop-next.invariant m, worth c.loop-next.invariant m _ c.if-b-lt128.true)

pub overflow_add-bits : goal.overflow_add-bits
overflow_add-bits c = let m = more-left c.loop-next-test.true in omega (arith, one_more c.loop-next.invariant m, worth c.loop-next.invariant m _ c.if-b-lt128.true)

pub returns-then-b-lt128 : goal.returns-then-b-lt128
returns-then-b-lt128 c = turn-joined c.loop-next.invariant (more-left c.loop-next-test.true) (omega arith) c.if-b-lt128.true c.joined.ensures

pub overflow_mul-bits : goal.overflow_mul-bits
overflow_mul-bits c = let m = more-left c.loop-next-test.true in omega (arith, one_more c.loop-next.invariant m, worth c.loop-next.invariant m (get_or c.args.src.now c.loop-next.next 0 % 128) (omega arith))

pub overflow_add-bits-in-loop-next : goal.overflow_add-bits-in-loop-next
overflow_add-bits-in-loop-next c = let m = more-left c.loop-next-test.true in omega (arith, one_more c.loop-next.invariant m, worth c.loop-next.invariant m (get_or c.args.src.now c.loop-next.next 0 % 128) (omega arith))

pub overflow_mul-scale-in-loop-next : goal.overflow_mul-scale-in-loop-next
overflow_mul-scale-in-loop-next c = omega (arith, one_more c.loop-next.invariant (more-left c.loop-next-test.true))

pub loop-next-preserved : goal.loop-next-preserved
loop-next-preserved c =
    let s = c in
    let e = s.args.at + 1 + s.args.more in
    let k : e - (s.loop-next.next + 1) ≡ e - s.loop-next.next - 1 = omega arith in
    rw k (turn-again c.loop-next.invariant (more-left c.loop-next-test.true) (omega arith) c.if-b-lt128.false)

pub returns : goal.returns
returns c =
    let s = c in
    let l = c.loop-next in
    let z : s.args.at + 1 + s.args.more - l.next ≡ 0 = omega arith in
    tail-ill _ _ _ _ _ _ (turn-over (subst (λ (n : ℕ). Turn s.args.src.now s.args.at s.args.more l.bits l.scale l.next n) z l.invariant))
