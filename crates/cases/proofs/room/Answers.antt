use mathlib.Core.Path.{sym}
use Rattle.std.proofs.lemmas.List.{length-replicate}
use Rattle.cases.proofs.room.Goals as goal

pub returns : goal.returns
returns g c = sym (length-replicate _ _)
