use Rattle.fill.proofs.Numbers.{fixed-found, fixed-missing}
use Rattle.fill.proofs.fixed_number.Goals as goal

pub returns-then-src-at : goal.returns-then-src-at
returns-then-src-at c = fixed-missing c.requires.0 c.requires.1 c.if-src-at.true

pub returns : goal.returns
returns c = fixed-found c.requires.0 c.requires.1 c.if-src-at.false c.bits_at.ensures c.bits_at.type_inv
