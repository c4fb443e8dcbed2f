use mir.ValLaws.{to_z-of_z}
use borrow.Author.Rules.{rules}
use Rattle.std.proofs.lemmas.Result.{err_from_is_err_and}
use Rattle.frame.proofs.Frames.{message-refused, message-left, message-rows, message-alien}
use Rattle.frame.proofs.message_in.Goals as goal

pub returns-in_err-next : goal.returns-in_err-next
returns-in_err-next c = let p = err_from_is_err_and c.from_residual.result c.from_residual.ensures.1 in rw (p.1, p.2) (message-refused _ _ _ c.first_value.ensures c.in_err-next.was)

pub returns-then-next-src : goal.returns-then-next-src
returns-then-next-src c = message-left _ _ _ c.first_value.ensures c.in_ok-next.was c.if-next-src.true

pub returns-then-not-user_at : goal.returns-then-not-user_at
returns-then-not-user_at c = message-alien _ _ _ c.first_value.ensures c.in_ok-next.was c.user_at.ensures c.if-next-src.false c.if-not-user_at.true

pub returns : goal.returns
returns c = message-rows _ _ _ c.first_value.ensures c.in_ok-next.was c.user_at.ensures c.if-next-src.false (search (rules, to_z-of_z)) c.if-not-user_at.false
