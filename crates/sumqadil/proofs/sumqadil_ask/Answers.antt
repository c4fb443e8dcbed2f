use Rattle.integer.proofs.Signs.{held}
use mathlib.Core.Path.{sym, ◌∙◌}
use Rattle.sumqadil.proofs.Alike.{asked-alike}
use Rattle.sumqadil.proofs.sumqadil_ask.Goals as goal

pub returns : goal.returns
returns c = λ r t n. rw (c.ask_by.ensures ∙ asked-alike c.args.what _ r (held c.ranges.ty ∙ sym t) (held c.ranges.number ∙ sym n)) at c.tell_value.ensures
