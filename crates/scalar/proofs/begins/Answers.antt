use borrow.Author.Tests.{le-leb, lt-leb}
use Rattle.scalar.proofs.begins.Goals as goal

pub returns-then-a-ge192 : goal.returns-then-a-ge192
returns-then-a-ge192 c = rw (le-leb _ _ c.if-a-ge192.true)

pub returns-else-a-ge192 : goal.returns-else-a-ge192
returns-else-a-ge192 c = rw (lt-leb _ _ c.if-a-ge192.false)
