use Rattle.decide.proofs.label_of.Goals as goal

pub returns-then-paired : goal.returns-then-paired
returns-then-paired c = rw c.if-paired.true

pub returns : goal.returns
returns c = rw c.if-paired.false
