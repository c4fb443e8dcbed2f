use mathlib.Core.Path.{refl}
use Rattle.integer.proofs.Windows.{held-is}
use Rattle.integer.proofs.held.Goals as goal

pub returns : goal.returns
returns c = held-is _ _ c.requires.0 c.requires.1 refl c.fold-pairs.ensures c.fold-fours.ensures c.fold.ensures
