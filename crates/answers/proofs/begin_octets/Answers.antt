use Rattle.std.proofs.Common.{rules}
use native.Mathlib.Omega.{arith}
use Rattle.answers.proofs.Replies.{begins-alone, begins-same, octets-message, octets-frame, octets-alone}
use Rattle.answers.proofs.begin_octets.Goals as goal

pub begin_message-requires : goal.begin_message-requires
begin_message-requires c = c.requires

pub returns-in-77-clause-begins : goal.returns-in-77-clause-begins
returns-in-77-clause-begins c = begins-same (octets-message c.args.kind c.args.src.now c.in-77.is) c.begin_message.ensures.begins

pub begin_frame-requires : goal.begin_frame-requires
begin_frame-requires c = c.requires

pub returns-in-70-clause-begins : goal.returns-in-70-clause-begins
returns-in-70-clause-begins c = begins-same (octets-frame c.args.kind c.args.src.now (λ e. omega (arith, e, c.in-70.is)) c.in-70.is) c.begin_frame.ensures.begins

pub begin_alone-requires : goal.begin_alone-requires
begin_alone-requires c = c.requires.1

pub returns-in_default-clause-begins : goal.returns-in_default-clause-begins
returns-in_default-clause-begins c = begins-same (octets-alone c.args.kind c.args.src.now (search rules) (search rules)) (begins-alone _ c.begin_alone.ensures)
