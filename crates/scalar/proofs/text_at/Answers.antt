use native.Mathlib.Omega.{arith}
use borrow.Author.Tests.{ltb-true}
use Rattle.scalar.proofs.Text.{told-plain, told-from}
use Rattle.scalar.proofs.text_at.Goals as goal

pub returns-then-plain16 : goal.returns-then-plain16
returns-then-plain16 c = told-plain c.requires.1 c.plain_run-at.ensures (c.plain16.ensures c.if-plain16.true) (omega (arith, ltb-true))

pub returns : goal.returns
returns c = told-from c.requires.1 c.plain_run-at.ensures c.spelt.ensures
