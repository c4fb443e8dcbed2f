use Rattle.answers.proofs.Replies.{message-no, message-rows}
use Rattle.answers.proofs.begin_message.Goals as goal

pub put_no-requires : goal.put_no-requires
put_no-requires c = c.requires.1

pub returns-in-Err-clause-begins : goal.returns-in-Err-clause-begins
returns-in-Err-clause-begins c = message-no _ c.read_message.ensures.read c.requires.0 c.in-Err.is c.put_no.ensures

pub returns-in-Ok-clause-begins : goal.returns-in-Ok-clause-begins
returns-in-Ok-clause-begins c = message-rows _ c.read_message.ensures.read c.requires.0 c.in-Ok.is c.put_ok.ensures
