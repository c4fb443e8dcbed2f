use native.Mathlib.Omega.{arith}
use mathlib.Core.Path.{refl}
use borrow.Author.Rules.{rules}
use lib.ListN.{get_or}
use lib.IntN.{pos}
use mir.Syntax.{w64}
use mir.ValLaws.{to_z-of_z}
use Rattle.text.proofs.Writes.{left_one, left-place, left-part, left_after, left-none}
use Rattle.text.proofs.Lines.{spaced-at, spaced-end}
use Rattle.text.proofs.put_spaced.Goals as goal

pub bounds-out-next : goal.bounds-out-next
bounds-out-next c = left-place c.loop-value.invariant (spaced-at _ _ c.loop-value-test.true)

pub put_number-next-requires : goal.put_number-next-requires
put_number-next-requires c = rw (to_z-of_z w64 (get_or c.args.values.now c.loop-value.value-index (pos 0)) (search rules)) (left_after c.loop-value.invariant _ _ _ (spaced-at _ _ c.loop-value-test.true) (omega arith))

pub loop-value-preserved : goal.loop-value-preserved
loop-value-preserved c = left-part (left_one c.loop-value.invariant (spaced-at _ _ c.loop-value-test.true)) _ refl (rw (to_z-of_z w64 (get_or c.args.values.now c.loop-value.value-index (pos 0)) (search rules)) at c.put_number-next.ensures)

pub returns : goal.returns
returns c = left-none c.loop-value.invariant (spaced-end _ _ c.loop-value-test.false)
