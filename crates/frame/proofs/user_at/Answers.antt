use Rattle.frame.proofs.Frames.{signed-as, user-faulty, user-negative, user-positive}
use Rattle.frame.proofs.user_at.Goals as goal

pub returns-in-Err : goal.returns-in-Err
returns-in-Err c = user-faulty _ c.signed_at.ensures c.in-Err.is

pub returns-in-Ok-default-Negative : goal.returns-in-Ok-default-Negative
returns-in-Ok-default-Negative c = user-negative _ c.signed_at.ensures (signed-as c.in-Ok-default-Negative.is c.in-Ok-default-Negative.field-0-1-is)

pub returns-in-Ok-default-Positive : goal.returns-in-Ok-default-Positive
returns-in-Ok-default-Positive c = user-positive _ c.signed_at.ensures (signed-as c.in-Ok-default-Positive.is c.in-Ok-default-Positive.field-0-1-is)
