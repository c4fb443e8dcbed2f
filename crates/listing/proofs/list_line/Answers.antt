use native.Mathlib.Omega.{arith}
use mathlib.Core.Path.{sym}
use lib.Seq.{length-take-le}
use Rattle.reading.specs.Reading.{refusal}
use Rattle.listing.proofs.Listing.{room-28, listed-other, listed-line, line-octets}
use Rattle.listing.proofs.list_line.Goals as goal

pub put_refused-requires : goal.put_refused-requires
put_refused-requires c = room-28 (refusal 17 0) (omega arith) c.requires

pub slice_bounds-octets-end : goal.slice_bounds-octets-end
slice_bounds-octets-end c = let h = rw c.in-Some.is at c.line_octets.ensures in (line-octets _ h.0 h.1 (omega arith)).1

pub slice_bounds-list_frame-end : goal.slice_bounds-list_frame-end
slice_bounds-list_frame-end c = let h = rw c.in-Some.is at c.line_octets.ensures in sym (length-take-le _ _ (line-octets _ h.0 h.1 (omega arith)).1)

pub returns-in-None : goal.returns-in-None
returns-in-None c = let h = rw c.in-None.is at c.line_octets.ensures in listed-other _ h.0 c.put_refused.ensures

pub returns-in-Some : goal.returns-in-Some
returns-in-Some c = let h = rw c.in-Some.is at c.line_octets.ensures in listed-line _ h.0 (line-octets _ h.0 h.1 (omega arith)).0 c.list_frame.ensures
