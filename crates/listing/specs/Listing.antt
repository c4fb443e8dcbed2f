-- What the desk prints for a line, written into a lent slice.
use Rattle.std.specs.Prelude.{◌≡◌, false, List, ◌⊎◌, ℕ, ◌+◌, ◌-◌, ◌*◌, ◌≤◌, length, get_or, take, drop}
use Rattle.format.specs.Values.{has}
use Rattle.format.specs.Desk.{rows_text, desk}
use Rattle.format.specs.Writing.{Table, tabled}
use Rattle.integer.specs.Writes.{Wrote}
use Rattle.listing.specs.declared.Progress.{Progress}

-- room for the lines of n rows, of at most 116 octets each
pub record Fits (at n : ℕ) (out : List ℕ) : Type 0 where
  pub fits : at + 116 * n ≤ length out

-- the lines of the first n rows of a table
pub record RowsListed (t : Table) (at : ℕ) (l : List ℕ) (n next : ℕ) (out : List ℕ) : Type 0 where
  pub wrote : Wrote (rows_text (tabled t 0 n)) at l next out
  pub few : next ≤ at + 116 * n

-- written from `at` on, and at most 32,768 octets
pub record Listed (v : List ℕ) (at : ℕ) (l : List ℕ) (next : ℕ) (after : List ℕ) : Type 0 where
  pub wrote : Wrote v at l next after
  pub short : length v ≤ 32768

-- what is used ends with a line feed, if it is anything
abbrev pub WholeLines : List ℕ → ℕ → Type 0
WholeLines o used = (used ≡ 0) ⊎ (get_or o (used - 1) 0 ≡ 0x0A)

-- the lines that end before `used`: what the desk prints for them is written from the front on. No whole line is left, where there is room for one more.
pub record LinesListed (o l : List ℕ) (r : Progress) (after : List ℕ) : Type 0 where
  pub wrote : Wrote (desk (take r.used o)) 0 l r.written after
  pub whole : WholeLines o r.used
  pub within : r.used ≤ length o
  pub room : r.written ≤ length l
  pub all : r.written + 32768 ≤ length l → has 0x0A (drop r.used o) ≡ false
