use Rattle.std.proofs.lemmas.Result.{err_from_is_err_and}
use Rattle.frame.proofs.Frames.{signed-as, opened-faulty, opened-negative, opened-short, opened-over, opened, next-within}
use Rattle.frame.proofs.open_frame.Goals as goal

pub returns-in_err-next : goal.returns-in_err-next
returns-in_err-next c = let p = err_from_is_err_and c.from_residual.result c.from_residual.ensures.1 in rw (p.1, p.2) (opened-faulty _ c.signed_at.ensures c.in_err-next.was)

pub overflow_sub-left : goal.overflow_sub-left
overflow_sub-left c = next-within c.signed_at.ensures (signed-as c.in_ok-next.was c.in-Positive.is)

pub returns-then-left-n : goal.returns-then-left-n
returns-then-left-n c = opened-short _ c.signed_at.ensures (signed-as c.in_ok-next.was c.in-Positive.is) c.if-left-n.true

pub returns-then-n-left : goal.returns-then-n-left
returns-then-n-left c = opened-over _ c.signed_at.ensures (signed-as c.in_ok-next.was c.in-Positive.is) c.if-n-left.true

pub returns-in-Negative : goal.returns-in-Negative
returns-in-Negative c = opened-negative _ c.signed_at.ensures (signed-as c.in_ok-next.was c.in-Negative.is)

pub returns : goal.returns
returns c = opened _ c.signed_at.ensures (signed-as c.in_ok-next.was c.in-Positive.is) c.if-left-n.false c.if-n-left.false c.conversation_at.ensures
