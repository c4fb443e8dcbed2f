use mathlib.Core.Path.{refl}
use native.Mathlib.Omega.{arith}
use Rattle.text.proofs.Writes.{left-place, left-within, left_one, left-fits, left-none}
use Rattle.text.proofs.Lines.{told-word, told-begun, told-fits, told-first, told-second}
use Rattle.text.proofs.put_told.Goals as goal

pub put_text-next-requires : goal.put_text-next-requires
put_text-next-requires c = told-word c.ranges.first _ c.requires

pub bounds-out-next : goal.bounds-out-next
bounds-out-next c = left-place (told-begun c.ranges.first _ c.requires c.put_text-next.ensures) refl

pub overflow_add-next : goal.overflow_add-next
overflow_add-next c = omega (arith, left-within (told-begun c.ranges.first _ c.requires c.put_text-next.ensures) refl)

pub put_number-mid-requires : goal.put_number-mid-requires
put_number-mid-requires c = told-fits c.ranges.first _ c.requires c.put_text-next.ensures

pub bounds-out-mid : goal.bounds-out-mid
bounds-out-mid c = left-place (told-first c.ranges.first _ c.requires c.put_text-next.ensures c.put_number-mid.ensures) refl

pub overflow_add-mid : goal.overflow_add-mid
overflow_add-mid c = omega (arith, left-within (told-first c.ranges.first _ c.requires c.put_text-next.ensures c.put_number-mid.ensures) refl)

pub put_digits-end-requires : goal.put_digits-end-requires
put_digits-end-requires c = left-fits (left_one (told-first c.ranges.first _ c.requires c.put_text-next.ensures c.put_number-mid.ensures) refl) _ _ refl

pub bounds-out-end : goal.bounds-out-end
bounds-out-end c = left-place (told-second c.ranges.first _ c.requires c.put_text-next.ensures c.put_number-mid.ensures c.put_digits-end.ensures) refl

pub overflow_add-result : goal.overflow_add-result
overflow_add-result c = omega (arith, left-within (told-second c.ranges.first _ c.requires c.put_text-next.ensures c.put_number-mid.ensures c.put_digits-end.ensures) refl)

pub returns : goal.returns
returns c = left-none (left_one (told-second c.ranges.first _ c.requires c.put_text-next.ensures c.put_number-mid.ensures c.put_digits-end.ensures) refl) refl
