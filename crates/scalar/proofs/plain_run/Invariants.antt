use Prim.Native.Nat.{◌+◌, ◌*◌}
use Rattle.scalar.specs.Parts.{Reached}
use Rattle.scalar.proofs.plain_run.Given as goal

abbrev pub invariant-loop-i : goal.invariant-loop-i
invariant-loop-i l = Reached l.src l.from l.end (l.from + 16 * l.i)
