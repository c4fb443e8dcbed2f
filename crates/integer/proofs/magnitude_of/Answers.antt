use mathlib.Core.Path.{ap}
use lib.IntN.{nat_abs}
use mir.Syntax.{w64}
use Rattle.integer.proofs.Signs.{down-read, up-read, cast-read}
use Rattle.integer.proofs.magnitude_of.Goals as goal

pub overflow_cast-result : goal.overflow_cast-result
overflow_cast-result c = let s = c in cast-read w64 s.args.v s.ranges.v _ (down-read w64 s.args.v s.ranges.v c.if-v-lt0.true)

pub returns-then-v-lt0 : goal.returns-then-v-lt0
returns-then-v-lt0 c = let s = c in ap nat_abs (down-read w64 s.args.v s.ranges.v c.if-v-lt0.true)

pub overflow_cast-result-2 : goal.overflow_cast-result-2
overflow_cast-result-2 c = let s = c in cast-read w64 s.args.v s.ranges.v _ (up-read w64 s.args.v s.ranges.v c.if-v-lt0.false)

pub returns : goal.returns
returns c = let s = c in ap nat_abs (up-read w64 s.args.v s.ranges.v c.if-v-lt0.false)
