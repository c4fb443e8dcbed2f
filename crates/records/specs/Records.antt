-- Rows of ten columns, one by one.
use Rattle.std.specs.Prelude.{List}
use Rattle.format.specs.declared.Row.{Row}
use Rattle.format.specs.Writing.{Table, tabled}
use Rattle.columns.specs.Columns.{shortest}

-- all rows of ten columns: as many as the shortest has
unfoldable pub rows_in : Table → List Row
rows_in t = tabled t 0 (shortest t)
