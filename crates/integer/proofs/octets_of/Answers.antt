use mathlib.Core.Path.{◌≡◌, sym, ap, ◌∙◌}
use native.Mathlib.Omega.{arith}
use lib.Signed.{mag}
use mir.Syntax.{w64}
use mir.ValLaws.{to_z-of_z}
use Rattle.integer.specs.Packed.{spell_int, sign_bit}
use Rattle.integer.proofs.Spelling.{length-one, length_more, counted-first, counted-again, counted-last}
use Rattle.integer.proofs.octets_of.Goals as goal

pub magnitude_of-n-requires : goal.magnitude_of-n-requires
magnitude_of-n-requires c = tt

pub returns-then-n-lt64 : goal.returns-then-n-lt64
unfolding spell_int
returns-then-n-lt64 c = let s = c in let m : c.magnitude_of-n.result ≡ mag s.args.v = c.magnitude_of-n.ensures ∙ ap mag (to_z-of_z w64 s.args.v s.ranges.v) in sym (length-one (sign_bit s.args.v) (mag s.args.v) (omega arith))

pub loop-m-init : goal.loop-m-init
loop-m-init c = counted-first _ (omega arith)

pub overflow_add-count : goal.overflow_add-count
overflow_add-count c = let k = c.loop-m.invariant in omega (arith, k.total, k.few)

pub loop-m-preserved : goal.loop-m-preserved
loop-m-preserved c = counted-again c.loop-m.invariant c.loop-m-test.true

pub returns : goal.returns
unfolding spell_int
returns c = let s = c in let m : c.magnitude_of-n.result ≡ mag s.args.v = c.magnitude_of-n.ensures ∙ ap mag (to_z-of_z w64 s.args.v s.ranges.v) in counted-last c.loop-m.invariant (omega arith) ∙ sym (rw m (length_more (sign_bit s.args.v) (mag s.args.v) (omega arith)))
