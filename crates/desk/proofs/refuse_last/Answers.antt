use mathlib.Core.Path.{sym}
use lib.Seq.{length-take-le}
use Rattle.desk.proofs.Parts.{room-17, wrote-17}
use Rattle.desk.proofs.refuse_last.Goals as goal

pub put_refused-written-requires : goal.put_refused-written-requires
put_refused-written-requires g c = room-17 c.requires

pub slice_bounds-write_all-end : goal.slice_bounds-write_all-end
slice_bounds-write_all-end g c = wrote-17 c.requires c.put_refused-written.ensures

pub slice_bounds-write_all-end-2 : goal.slice_bounds-write_all-end-2
slice_bounds-write_all-end-2 g c = sym (length-take-le _ _ (wrote-17 c.requires c.put_refused-written.ensures))
