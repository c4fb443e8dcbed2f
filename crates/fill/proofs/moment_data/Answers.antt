use Rattle.fill.proofs.Begins.{ok-was, err-was}
use Rattle.fill.proofs.Contained.{date-holder, moment-holder, moment-unread}
use Rattle.fill.proofs.moment_data.Goals.{in-Date, in_default+in_ok-count-in_default}
use Rattle.fill.proofs.moment_data.Goals as goal

pub returns-in_err-count-in_default : goal.returns-in_err-count-in_default
returns-in_err-count-in_default c = rw c.from_residual.ensures (moment-unread c.requires c.args.which c.moment_past.ensures (err-was _ c.ok.ensures.value c.in_err-count-in_default.was).1)

pub returns : goal.returns
returns c = elim c.match-which.branch [
  | in-Date w ↦ date-holder c.requires c.plain.ensures w.in-Date.is (rw w.count-is at c.alike-integers.ensures)
  | in_default+in_ok-count-in_default w ↦ moment-holder c.requires c.plain.ensures c.args.which w.moment_past.ensures (ok-was _ w.ok.ensures.value w.in_ok-count-in_default.was) (rw w.count-is at c.alike-integers.ensures)
]
