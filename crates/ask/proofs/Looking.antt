-- The first row with a label, as the definition finds it.
use mathlib.Core.Path.{◌≡◌, refl}
use mathlib.Core.List.{List, [], ◌∷◌}
use Prim.Native.Nat.{ℕ, zero, suc, ◌<◌, ◌≤◌}
use native.Mathlib.Omega.{arith}
use lib.ListN.{length, get_or}
use borrow.Author.Tests.{eq-eqb, ne_eqb}
use Rattle.reading.specs.Reading.{refusal}
use Rattle.format.specs.declared.Row.{Row}
use Rattle.format.specs.declared.As.{As}
use Rattle.format.specs.Message.{refused}
use Rattle.format.specs.Asking.{ask, lookup}
use Rattle.ask.specs.First.{no_row, FirstAt}

-- past a row with another label
later : {r : Row} {rs : List Row} {i k : ℕ} → FirstAt (r ∷ rs) i (suc k) → FirstAt rs i k
later f = record { within = omega (arith, f.within); before = λ j h. f.before (suc j) (omega arith); found = λ h. f.found (omega arith) }

pub found : (rs : List Row) (i : ℕ) (a : As) (k : ℕ) → FirstAt rs i k → k < length rs → ask a (get_or rs k no_row) ≡ lookup rs i a
unfolding lookup
found [] i a k f h = absurd (omega arith)
found (r ∷ rs) i a zero f h = rw (eq-eqb r.label i (f.found (omega arith)))
found (r ∷ rs) i a (suc k) f h = rw (ne_eqb r.label i (f.before 0 (omega arith))) (found rs i a k (later f) (omega arith))

pub none : (rs : List Row) (i : ℕ) (a : As) (k : ℕ) → FirstAt rs i k → length rs ≤ k → refused (refusal 16 0) ≡ lookup rs i a
unfolding lookup
none [] i a k f h = refl
none (r ∷ rs) i a zero f h = absurd (omega arith)
none (r ∷ rs) i a (suc k) f h = rw (ne_eqb r.label i (f.before 0 (omega arith))) (none rs i a k (later f) (omega arith))
