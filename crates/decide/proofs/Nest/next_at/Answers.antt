use Rattle.decide.proofs.Coming.{next-index, next-listed, next-end}
use Rattle.decide.proofs.Nest.next_at.Goals as goal

pub returns-then-low-self : goal.returns-then-low-self
returns-then-low-self c = next-listed c.requires.2 c.requires.0 c.if-low-self.true c.label_of.ensures

pub returns-then-self : goal.returns-then-self
returns-then-self c = next-index c.if-self.true c.index_next.ensures

pub returns : goal.returns
returns c = next-end c.requires.2 c.requires.1 c.requires.0 c.if-self.false c.if-low-self.false
