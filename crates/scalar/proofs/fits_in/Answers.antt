use mathlib.Core.Path.{ap, ap₂, ◌∙◌}
use mathlib.Core.Bool.{◌&&◌}
use lib.Dec.{leb}
use Rattle.scalar.proofs.fits_in.Goals as goal

pub returns : goal.returns
returns c = c.both.ensures ∙ ap₂ ◌&&◌ c.either.ensures (ap (leb _) c.most_of.ensures)
