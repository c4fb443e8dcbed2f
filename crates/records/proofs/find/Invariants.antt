use mathlib.Core.Path.{◌≡◌}
use Rattle.std.proofs.Common.{drop, nat_eq}
use Rattle.std.specs.List.{position_from}
use Rattle.records.proofs.find.Given as goal

abbrev pub invariant-loop-k : goal.invariant-loop-k
invariant-loop-k l = position_from (λ x. nat_eq x l.sought) 0 l.labels ≡ position_from (λ x. nat_eq x l.sought) l.k (drop l.k l.labels)
