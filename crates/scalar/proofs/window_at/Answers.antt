use borrow.Author.Tests.{le-leb, lt-leb}
use Rattle.scalar.proofs.window_at.Goals as goal

pub returns-then-at-src : goal.returns-then-at-src
returns-then-at-src c = rw (le-leb _ _ c.if-at-src.true) c.ends_at.ensures

pub returns : goal.returns
returns c = rw (lt-leb _ _ c.if-at-src.false)
