use Rattle.decide.proofs.Runs.{run-integers, run-mixed}
use Rattle.decide.proofs.run_of.Goals as goal

pub returns-in-Packed-Packed : goal.returns-in-Packed-Packed
returns-in-Packed-Packed c = run-integers c.in-Packed-Packed.is-0 c.in-Packed-Packed.is-1 c.same_widths.ensures

pub returns-in_default : goal.returns-in_default
returns-in_default c = run-mixed

pub returns-in_default-2 : goal.returns-in_default-2
returns-in_default-2 c = run-mixed
