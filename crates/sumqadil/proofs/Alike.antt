-- Rows that have the same type and number answer the same.
use mathlib.Core.Path.{◌≡◌, refl}
use Prim.Native.Nat.{ℕ}
use Rattle.format.specs.declared.Row.{Row}
use Rattle.format.specs.Asking.{ask}
use Rattle.sumqadil.specs.Told.{ask_by}

pub asked-alike : (n : ℕ) (r s : Row) → r.ty ≡ s.ty → r.number ≡ s.number → ask_by n r ≡ ask_by n s
unfolding ask
asked-alike n r s t m = rw (t, m) refl
