use Prim.Native.Nat.{◌<◌}
use lib.ListN.{length}
use Rattle.columns.specs.Lent.{table, SameLoans}
use Rattle.answers.specs.Replies.{Lent}
use Rattle.cases.proofs.answer_input.Given as goal

abbrev pub invariant-loop : goal.invariant-loop
invariant-loop g l = (l.held < length l.src) × Lent (table l.columns) × SameLoans l.initial.columns l.columns
