use mathlib.Core.Path.{ap, ◌∙◌}
use Rattle.integer.specs.Windows.{ends}
use Rattle.integer.proofs.ends_at.Goals as goal

pub returns : goal.returns
returns c = c.ends_of.ensures ∙ ap (ends 8) c.word_at.ensures
