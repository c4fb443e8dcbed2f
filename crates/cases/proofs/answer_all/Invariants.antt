use Prim.Native.Nat.{◌≤◌, ◌-◌}
use lib.ListN.{length}
use Rattle.columns.specs.Lent.{SameLoans}
use Rattle.cases.proofs.answer_all.Given as goal

abbrev pub invariant-loop-feed : goal.invariant-loop-feed
invariant-loop-feed g l = (l.used ≤ length l.src) × SameLoans l.initial.columns l.columns

abbrev pub decreases-loop-feed : goal.decreases-loop-feed
decreases-loop-feed g l = length l.src - l.used
