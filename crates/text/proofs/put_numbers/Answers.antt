use mathlib.Core.Path.{refl}
use native.Mathlib.Omega.{arith}
use Rattle.text.proofs.Writes.{left-all, left_one, left-place, left-within, left-fits, left-none}
use Rattle.text.proofs.Lines.{numbers-spaced, numbers-begun}
use Rattle.text.proofs.put_numbers.Goals as goal

pub put_spaced-next-requires : goal.put_spaced-next-requires
put_spaced-next-requires c = left-fits (left-all c.requires) _ _ (numbers-spaced _)

pub bounds-out-next : goal.bounds-out-next
bounds-out-next c = left-place (numbers-begun _ c.requires c.put_spaced-next.ensures) refl

pub overflow_add-result : goal.overflow_add-result
overflow_add-result c = omega (arith, left-within (numbers-begun _ c.requires c.put_spaced-next.ensures) refl)

pub returns : goal.returns
returns c = left-none (left_one (numbers-begun _ c.requires c.put_spaced-next.ensures) refl) refl
