-- Reading a message into ten lent columns (01, "Numbers given back").
use Rattle.std.specs.Prelude.{◌≡◌, Result, Ok, Err, List, ℕ, length}
use Rattle.reading.specs.declared.Refusal.{Refusal}
use Rattle.format.specs.declared.Row.{Row}
use Rattle.format.specs.Values.{Value}
use Rattle.format.specs.Spelling.{spell}
use Rattle.format.specs.Grammar.{Valid}
use Rattle.format.specs.Rows.{rows}
use Rattle.format.specs.Writing.{Table}
use Rattle.format.specs.Message.{Answer, ok, refused, then, within_rows, read_message}
use Rattle.measure.specs.Entries.{answer_of}
use Rattle.columns.specs.Columns.{shortest, Filled}

-- what the columns hold afterwards: the rows first in each, and all else as it was; after a refusal, what they held
abbrev pub Holds : Answer (List Row) → Table → Table → Type 0
Holds (ok rs) t t' = Filled 0 rs t t'
Holds (refused r) t t' = t' ≡ t

abbrev pub counted : List Row → Answer ℕ
counted rs = ok (length rs)

pub record MessageRead (o : List ℕ) (t : Table) (r : Result ℕ Refusal) (t' : Table) : Type 0 where
  pub told : answer_of r ≡ then (read_message (shortest t) o) counted
  pub holds : Holds (read_message (shortest t) o) t t'

-- rows that were stored, or why they were not
abbrev pub stored_as : Result (Unit {0}) Refusal → List Row → Answer (List Row)
stored_as (Ok u) rs = ok rs
stored_as (Err r) rs = refused r

-- the rows of an accepted message, n of them: there is room, or it is 12
pub record RowsStored (o : List ℕ) (n : ℕ) (t : Table) (r : Result (Unit {0}) Refusal) (t' : Table) : Type 0 where
  pub stored : (v : Value) → Valid v → o ≡ spell v → n ≡ length (rows v)
      → (within_rows (shortest t) (rows v) ≡ stored_as r (rows v)) × Holds (stored_as r (rows v)) t t'
