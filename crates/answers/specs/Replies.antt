-- Answers written into a lent slice, in parts.
use Rattle.std.specs.Prelude.{◌≡◌, List, ℕ, ◌+◌, ◌*◌, ◌≤◌, length}
use Rattle.format.specs.Writing.{Table, tabled}
use Rattle.columns.specs.Columns.{Roomy}
use Rattle.integer.specs.Writes.{Wrote}
use Rattle.listing.specs.Listing.{Listed}
use Rattle.replies.specs.Cases.{Reply, row_parts, lent}
use Rattle.answers.specs.declared.Begun.{Begun}

-- the columns that are lent
pub record Lent (t : Table) : Type 0 where
  pub ty_lent : length t.ty ≡ lent
  pub own_lent : length t.own ≡ lent
  pub label_lent : length t.label ≡ lent
  pub number_lent : length t.number ≡ lent
  pub first_lent : length t.first ≡ lent
  pub second_lent : length t.second ≡ lent
  pub place_lent : length t.place ≡ lent
  pub below_lent : length t.below ≡ lent
  pub start_lent : length t.start ≡ lent
  pub end_lent : length t.end ≡ lent

-- what the answer begins with is written, and its rows stand first in the columns
pub record Begins (a : Reply) (at : ℕ) (l : List ℕ) (r : Begun) (out : List ℕ) (t : Table) : Type 0 where
  pub listed : Listed a.head at l r.end out
  pub same : tabled t 0 r.rows ≡ a.rows
  pub room : Roomy r.rows t

-- room for the parts of n rows, of at most 118 octets each
pub record PartsFit (at n : ℕ) (out : List ℕ) : Type 0 where
  pub fits : at + 118 * n ≤ length out

-- the parts of n rows from k on
pub record PartsPut (t : Table) (k n at : ℕ) (l : List ℕ) (next : ℕ) (out : List ℕ) : Type 0 where
  pub wrote : Wrote (row_parts (tabled t k n)) at l next out
  pub few : next ≤ at + 118 * n
