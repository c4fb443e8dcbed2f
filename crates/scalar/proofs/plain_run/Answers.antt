use mathlib.Core.Path.{◌≡◌, subst}
use Prim.Native.Nat.{◌+◌, ◌*◌}
use native.Mathlib.Omega.{arith}
use Rattle.scalar.specs.Parts.{Reached}
use Rattle.scalar.proofs.Text.{plain_more}
use Rattle.scalar.proofs.plain_run.Goals as goal

pub loop-i-preserved : goal.loop-i-preserved
loop-i-preserved c =
    let s = c in
    let next : s.args.from + 16 * s.loop-i.i + 16 ≡ s.args.from + 16 * (s.loop-i.i + 1) = omega arith in
    subst (Reached s.args.src.now s.args.from s.args.end) next (plain_more c.requires.1 16 _ c.loop-i.invariant (c.plain16.ensures c.if-not-plain16.false) (omega arith))
