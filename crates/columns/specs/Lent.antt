-- Ten lent columns as a table, and what a function that writes to them leaves of the loans.
use Rattle.std.specs.Prelude.{◌≡◌, ℕ, pos}
use Rattle.format.specs.Writing.{Table}
use Rattle.columns.specs.declared.ColumnsMut.{ColumnsMut}
use Rattle.columns.specs.declared.Columns.{Columns}
use Rattle.columns.specs.Columns.{columns, cleared, Kept}

-- the table that stands in columns lent for writing
abbrev pub table : ColumnsMut → Table
table c = columns c.ty.now c.own.now c.label.now c.number.now c.first.now c.second.now c.place.now c.below.now c.start.now c.end.now

-- and in columns lent for reading
abbrev pub table_of : Columns → Table
table_of c = columns c.ty.now c.own.now c.label.now c.number.now c.first.now c.second.now c.place.now c.below.now c.start.now c.end.now

-- the same ten loans, and every column as long as before
pub record SameLoans (c d : ColumnsMut) : Type 0 where
  pub ty_lent : d.ty.ghost_name ≡ c.ty.ghost_name
  pub own_lent : d.own.ghost_name ≡ c.own.ghost_name
  pub label_lent : d.label.ghost_name ≡ c.label.ghost_name
  pub number_lent : d.number.ghost_name ≡ c.number.ghost_name
  pub first_lent : d.first.ghost_name ≡ c.first.ghost_name
  pub second_lent : d.second.ghost_name ≡ c.second.ghost_name
  pub place_lent : d.place.ghost_name ≡ c.place.ghost_name
  pub below_lent : d.below.ghost_name ≡ c.below.ghost_name
  pub start_lent : d.start.ghost_name ≡ c.start.ghost_name
  pub end_lent : d.end.ghost_name ≡ c.end.ghost_name
  pub kept : Kept (table d) (table c)

-- 0 in the first n rows of the element types and of the rows below, and all else as it was
pub record Cleared (n : ℕ) (t t' : Table) : Type 0 where
  pub now_cleared : t' ≡ record t { first = cleared n (pos 0) t.first; second = cleared n (pos 0) t.second; below = cleared n 0 t.below }
