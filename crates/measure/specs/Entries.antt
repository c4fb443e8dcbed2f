-- What is given of the first value of octets, and of a message.
use Rattle.std.specs.Prelude.{◌≡◌, List, [], ◌⊎◌, ℕ, ◌*◌, ◌<◌, ◌≤◌, length, Result, Ok, Err}
use Rattle.reading.specs.declared.Refusal.{Refusal}
use Rattle.reading.specs.Reading.{Env, refusal, stand}
use Rattle.format.specs.Values.{outermost}
use Rattle.format.specs.Rows.{rows}
use Rattle.format.specs.Message.{Answer, ok, refused, then, most_octets, message}
use Rattle.measure.specs.Tally.{value_rows}
use Rattle.measure.specs.Cycle.{step_out}

abbrev pub none : Env
none = record { opened = []; ended = [] }

abbrev pub PastFirst : List ℕ → ℕ → Result (ℕ × ℕ) Refusal → Type 0
PastFirst o at (Ok (next, n)) = (at ≤ next) × (next ≤ length o) × (n ≤ 11 * next)
PastFirst o at (Err r) = Unit {0}

-- the outermost value of the octets from a place on
pub record FirstAt (o : List ℕ) (at : ℕ) (r : Result (ℕ × ℕ) Refusal) : Type 0 where
  pub after : Env
  pub same : step_out o after r ≡ value_rows outermost (stand o at none)
  pub past : PastFirst o at r

-- the outermost value of octets on their own: 2 comes first
pub record Outermost (o : List ℕ) (r : Result (ℕ × ℕ) Refusal) : Type 0 where
  pub is : ((most_octets < length o) × (r ≡ Err (refusal 2 0))) ⊎ ((length o ≤ most_octets) × FirstAt o 0 r)

abbrev pub answer_of : Result ℕ Refusal → Answer ℕ
answer_of (Ok n) = ok n
answer_of (Err r) = refused r

-- how many rows a message has
unfoldable pub rows_needed : List ℕ → Answer ℕ
rows_needed o = then (message o) (λ v. ok (length (rows v)))
