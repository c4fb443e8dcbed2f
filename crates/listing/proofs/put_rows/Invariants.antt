use Prim.Native.Nat.{◌≤◌}
use Rattle.columns.specs.Lent.{table_of}
use Rattle.listing.specs.Listing.{RowsListed}
use Rattle.listing.proofs.put_rows.Given as goal

abbrev pub invariant-loop-k : goal.invariant-loop-k
invariant-loop-k l = (l.k ≤ l.n) × RowsListed (table_of l.rows) l.at l.initial.out l.k l.next l.out
