use Prim.Native.Nat.{◌≤◌}
use Rattle.columns.specs.Lent.{table_of}
use Rattle.answers.specs.Replies.{PartsPut}
use Rattle.answers.proofs.put_rows.Given as goal

abbrev pub invariant-loop-i : goal.invariant-loop-i
invariant-loop-i l = (l.i ≤ l.n) × PartsPut (table_of l.rows) l.k l.i l.at l.initial.out l.next l.out
