-- What the parts of the code say.
use Rattle.std.specs.Prelude.{◌≡◌, cond, List, [], ◌∷◌, ℕ, ◌+◌, ◌-◌, ◌<◌, ◌≤◌, get_or, take, drop, ltb, Option, Some, None}
use Rattle.reading.specs.Reading.{State, got, stop, refusal}
use Rattle.format.specs.Data.{followers, is_char, chars}

-- ---- characters

-- the octets from a place to another
abbrev pub part : List ℕ → ℕ → ℕ → List ℕ
part o at end = take (end - at) (drop at o)

-- so many if the octets are a character
abbrev pub counts : ℕ → List ℕ → Option ℕ
counts k l = cond (is_char l) (Some k) None

-- how many octets the first character has, if it is well spelt and not cut
abbrev pub spelling_of : List ℕ → Option ℕ
spelling_of [] = None
spelling_of (a ∷ l) = counts (1 + followers a) (take (1 + followers a) (a ∷ l))

abbrev pub Within : ℕ → ℕ → Option ℕ → Type 0
Within at end (Some n) = (0 < n) × (at + n ≤ end)
Within at end None = Unit {0}

pub record Spells (o : List ℕ) (at end : ℕ) (r : Option ℕ) : Type 0 where
  pub same : r ≡ spelling_of (part o at end)
  pub within : Within at end r

-- so many octets from a place on are each a character
abbrev pub Plain : List ℕ → ℕ → ℕ → Type 0
Plain o at n = (j : ℕ) → j < n → (0 < get_or o (at + j) 0) × (get_or o (at + j) 0 < 128)

-- the characters from a place to an end are well spelt as far as another place
pub record Reached (o : List ℕ) (from end at : ℕ) : Type 0 where
  pub past : from ≤ at
  pub within : at ≤ end
  pub same : (s : State) → chars 0 from (part o from end) s ≡ chars 0 at (part o at end) s

-- the characters from a place to an end are well spelt up to r, where the first misspelt one stands, or all of them, and r is the end
pub record Told (o : List ℕ) (from end r : ℕ) : Type 0 where
  pub within : r ≤ end
  pub same : (s : State) → chars 0 from (part o from end) s ≡ cond (ltb r end) (stop (refusal 6 r)) (got tt s)
