use mir.ValLaws.{to_z-of_z}
use borrow.Author.Rules.{rules}
use Rattle.std.proofs.lemmas.Result.{err_from_is_err_and}
use Rattle.frame.proofs.Frames.{frame-long, frame_refused, message-starts, frame-read}
use Rattle.frame.proofs.check_frame.Goals as goal

pub returns-then-src-gt65535 : goal.returns-then-src-gt65535
returns-then-src-gt65535 c = frame-long _ c.if-src-gt65535.true

pub message_in-requires : goal.message_in-requires
message_in-requires c = (message-starts _ c.open_frame.ensures c.if-src-gt65535.false c.in_ok-from.was, c.if-src-gt65535.false)

pub returns-in_err-from : goal.returns-in_err-from
returns-in_err-from c = let p = err_from_is_err_and c.from_residual.result c.from_residual.ensures.1 in rw (p.1, p.2) (frame_refused _ c.open_frame.ensures c.if-src-gt65535.false c.in_err-from.was)

pub returns : goal.returns
returns c = frame-read _ c.open_frame.ensures c.if-src-gt65535.false c.in_ok-from.was (search (rules, to_z-of_z)) c.message_in.ensures
