use native.Mathlib.Omega.{arith}
use Rattle.scalar.proofs.Octets.{octets-there, octets-short}
use Rattle.scalar.proofs.octets_past.Goals as goal

pub returns-then-src-at : goal.returns-then-src-at
returns-then-src-at c = octets-short c.requires (omega arith)

pub returns : goal.returns
returns c = octets-there (omega arith)
