use Prim.Native.Nat.{◌+◌}
use native.Mathlib.Omega.{arith}
use native.Mathlib.Nat.{add-zero}
use lib.ListN.{length}
use lib.Dec.{leb}
use Rattle.std.proofs.Common.{rules, ◌≡◌, Err}
use Rattle.scalar.proofs.Integers.{next-within, runs-got, runs-stop}
use Rattle.scalar.proofs.long_run.Goals as goal

pub window_at-requires : goal.window_at-requires
window_at-requires c = (next-within c.args.w c.long_past.ensures c.in_ok-next.was, omega arith, omega arith)

pub window_at-requires-2 : goal.window_at-requires-2
window_at-requires-2 c = (next-within c.args.w c.long_past.ensures c.in_ok-next.was, omega arith, omega arith)

pub returns-in_err-next : goal.returns-in_err-next
returns-in_err-next c =
    let q : c.from_residual.result ≡ Err c.in_err-next.field-0.0 = search rules in
    rw q (runs-stop c.args.w c.long_past.ensures c.in_err-next.was)

pub returns : goal.returns
returns c = runs-got c.args.w c.long_past.ensures (leb (c.in_ok-next.next + 16) (length c.args.src.now)) c.in_ok-next.was (rw (add-zero c.in_ok-next.next) at c.window_at.ensures) c.window_at-2.ensures
