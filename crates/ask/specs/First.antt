-- The first row with a label.
use Rattle.std.specs.Prelude.{◌≡◌, List, ℕ, ◌<◌, ◌≤◌, pos, length, get_or, Option, Some, None}
use Rattle.format.specs.declared.Row.{Row}

-- what is read past the end of a list of rows
abbrev pub no_row : Row
no_row = record { ty = pos 0; own = 0; label = 0; number = pos 0; first = pos 0; second = pos 0; place = 0; below = 0; start = 0; end = 0 }

-- r is the index of the first row with the label, or the count where there is none
pub record FirstAt (rs : List Row) (label r : ℕ) : Type 0 where
  pub within : r ≤ length rs
  pub before : (k : ℕ) → k < r → (get_or rs k no_row).label ≡ label → ⊥
  pub found : r < length rs → (get_or rs r no_row).label ≡ label

-- what a search for it says: its index, or that there is none
abbrev pub First : List Row → ℕ → Option ℕ → Type 0
First rs label (Some r) = FirstAt rs label r × (r < length rs)
First rs label None = FirstAt rs label (length rs)
