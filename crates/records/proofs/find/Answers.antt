use native.Mathlib.Omega.{arith}
use Rattle.std.proofs.Common.{rules, tests}
use Rattle.records.proofs.Records.{found-at, none-left}
use Rattle.records.proofs.find.Goals as goal

pub returns-then-labels-k : goal.returns-then-labels-k
returns-then-labels-k c = found-at c.args.labels.now c.args.sought c.loop-k.k (omega arith) (search (rules, tests)) c.loop-k.invariant

pub returns : goal.returns
returns c = none-left c.args.labels.now c.args.sought c.loop-k.k (omega arith) c.loop-k.invariant
