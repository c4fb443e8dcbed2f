use borrow.Author.Tests.{lt-ltb, le-ltb}
use Rattle.scalar.proofs.size_of.Goals as goal

pub returns-then-a-lt224 : goal.returns-then-a-lt224
returns-then-a-lt224 c = rw (le-ltb _ 128 c.requires, lt-ltb _ 224 c.if-a-lt224.true)

pub returns : goal.returns
returns c = rw (le-ltb _ 128 c.requires, le-ltb _ 224 c.if-a-lt224.false)
