use mathlib.Core.Path.{ap, sym}
use mir.Syntax.{w64}
use Rattle.integer.specs.Packed.{sign_bit}
use Rattle.integer.proofs.Signs.{is_negative, is_positive}
use Rattle.integer.proofs.sign_bit.Goals as goal

pub returns-then-v-lt0 : goal.returns-then-v-lt0
returns-then-v-lt0 c = sym (ap sign_bit (is_negative w64 c.args.v c.ranges.v c.if-v-lt0.true))

pub returns : goal.returns
returns c = sym (ap sign_bit (is_positive w64 c.args.v c.ranges.v c.if-v-lt0.false))
