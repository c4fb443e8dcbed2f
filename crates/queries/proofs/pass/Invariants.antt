use Prim.Native.Nat.{◌≤◌, ◌-◌}
use mathlib.Core.Path.{◌≡◌}
use lib.ListN.{length, drop}
use Rattle.queries.specs.Queries.{fields_of, after}
use Rattle.queries.proofs.pass.Given as goal

abbrev pub invariant-loop : goal.invariant-loop
invariant-loop l = (l.next ≤ length l.line) × (after l.count (fields_of (drop l.at l.line)) ≡ after (l.count - l.counter) (fields_of (drop l.next l.line)))
