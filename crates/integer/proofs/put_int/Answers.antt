use mathlib.Core.Path.{ap, ◌∙◌}
use lib.Signed.{mag}
use mir.Syntax.{w64}
use mir.ValLaws.{to_z-of_z}
use Rattle.integer.specs.Packed.{spell_int, sign_bit}
use Rattle.integer.proofs.Spelling.{sign_bit-le}
use Rattle.integer.proofs.put_int.Goals as goal

pub put-requires : goal.put-requires
unfolding spell_int
put-requires c = let v = to_z-of_z w64 _ c.ranges.v in rw (c.sign_bit.ensures ∙ ap sign_bit v, c.magnitude_of.ensures ∙ ap mag v) (sign_bit-le c.args.v, c.requires)

pub returns : goal.returns
unfolding spell_int
returns c = let v = to_z-of_z w64 _ c.ranges.v in rw (c.sign_bit.ensures ∙ ap sign_bit v, c.magnitude_of.ensures ∙ ap mag v) at c.put.ensures
