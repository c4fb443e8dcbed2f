use mathlib.Core.Path.{◌∙◌}
use Rattle.integer.proofs.Windows.{little-eight}
use Rattle.integer.proofs.word_at.Goals as goal

pub returns : goal.returns
returns c = c.from_le_bytes.ensures ∙ little-eight c.args.src.now c.args.at
