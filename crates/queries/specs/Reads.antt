-- What the code reads of a case, and what it answers.
use Rattle.std.specs.Prelude.{◌≡◌, List, [], ◌∷◌, ℕ, ◌≤◌, length, drop, ℤ, Option, Some, None, Result}
use Rattle.reading.specs.declared.Refusal.{Refusal}
use Rattle.ask.specs.Outcomes.{answered}
use Rattle.queries.specs.Numerals.{numeral_of}
use Rattle.queries.specs.Queries.{fields_of, after, Outcome, answer, malformed}

-- the field at `at` says a number, and the next one stands at `next`
pub record NumberRead (line : List ℕ) (at : ℕ) (z : ℤ) (next : ℕ) : Type 0 where
  pub field : List ℕ
  pub says : numeral_of field ≡ Some z
  pub parts : fields_of (drop at line) ≡ field ∷ fields_of (drop next line)
  pub within : next ≤ length line

-- or there is no number with a field after it
abbrev pub NumberAt : List ℕ → ℕ → Option (ℤ × ℕ) → Type 0
NumberAt line at (Some (z, next)) = NumberRead line at z next
NumberAt line at None = after 1 (fields_of (drop at line)) ≡ []

-- the fields after so many numbers stand at `next`; or there are none
abbrev pub Passes : List ℕ → ℕ → ℕ → Option ℕ → Type 0
Passes line at count (Some next) = (after count (fields_of (drop at line)) ≡ fields_of (drop next line)) × (next ≤ length line)
Passes line at count None = after count (fields_of (drop at line)) ≡ []

-- what an answer says, case by case
abbrev pub told : Option (Result ℤ Refusal) → Outcome
told (Some r) = answer (answered r)
told None = malformed
