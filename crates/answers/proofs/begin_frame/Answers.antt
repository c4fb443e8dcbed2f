use Rattle.std.proofs.Common.{rules}
use Rattle.answers.proofs.Replies.{frame-no, frame-begins}
use Rattle.answers.proofs.begin_frame.Goals as goal

pub put_no-requires : goal.put_no-requires
put_no-requires c = c.requires.1

pub put_framed-requires : goal.put_framed-requires
put_framed-requires c = c.requires.1

pub returns-in-Err-clause-begins : goal.returns-in-Err-clause-begins
returns-in-Err-clause-begins c = frame-no _ c.read_frame.ensures.read c.requires.0 c.in-Err.is c.put_no.ensures

pub returns-in-Ok-clause-begins : goal.returns-in-Ok-clause-begins
returns-in-Ok-clause-begins c = frame-begins _ c.read_frame.ensures.read c.requires.0 c.in-Ok.is (search rules) c.put_framed.ensures
