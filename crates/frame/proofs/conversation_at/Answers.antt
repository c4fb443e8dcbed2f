use mir.ValLaws.{to_z-of_z}
use borrow.Author.Rules.{rules}
use Rattle.std.proofs.lemmas.Result.{err_from_is_err_and}
use Rattle.frame.proofs.Frames.{conversation-refused, conversation-read}
use Rattle.frame.proofs.conversation_at.Goals as goal

pub returns-in_err-next : goal.returns-in_err-next
returns-in_err-next c = let p = err_from_is_err_and c.from_residual.result c.from_residual.ensures.1 in rw (p.1, p.2) (conversation-refused _ c.int_at.ensures c.in_err-next.was)

pub returns : goal.returns
returns c = conversation-read _ c.int_at.ensures c.in_ok-next.was (search (rules, to_z-of_z))
