use mathlib.Core.Path.{sym}
use native.Mathlib.Omega.{arith}
use lib.Seq.{length-take-le}
use Rattle.answers.proofs.Replies.{begins-alone, begins-same}
use Rattle.answers.proofs.begin_line.Goals as goal

pub case_octets-requires : goal.case_octets-requires
case_octets-requires c = c.requires.0

pub begin_plain-requires : goal.begin_plain-requires
begin_plain-requires c = c.requires.2

pub bounds-line-0 : goal.bounds-line-0
bounds-line-0 c = omega (arith, (rw c.in-Some.is at c.case_octets.ensures).2)

pub slice_bounds-begin_octets-end : goal.slice_bounds-begin_octets-end
slice_bounds-begin_octets-end c = (rw c.in-Some.is at c.case_octets.ensures).1

pub slice_bounds-begin_octets-end-in-Some : goal.slice_bounds-begin_octets-end-in-Some
slice_bounds-begin_octets-end-in-Some c = sym (length-take-le _ _ (rw c.in-Some.is at c.case_octets.ensures).1)

pub begin_octets-requires : goal.begin_octets-requires
begin_octets-requires c = (c.requires.1, c.requires.2)

pub returns-in-None-clause-begins : goal.returns-in-None-clause-begins
returns-in-None-clause-begins c = begins-same (rw c.in-None.is at c.case_octets.ensures) (begins-alone _ c.begin_plain.ensures)

pub returns-in-Some-clause-begins : goal.returns-in-Some-clause-begins
returns-in-Some-clause-begins c = begins-same (rw c.in-Some.is at c.case_octets.ensures).0 c.begin_octets.ensures.begins
