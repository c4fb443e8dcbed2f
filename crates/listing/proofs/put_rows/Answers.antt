use native.Mathlib.Omega.{arith}
use Rattle.listing.proofs.Listing.{rowed-none, rowed-room, rowed-again, rowed-all}
use Rattle.records.proofs.Records.{row_room}
use Rattle.listing.proofs.put_rows.Goals as goal

pub loop-k-init : goal.loop-k-init
loop-k-init c = (omega arith, rowed-none _)

pub row-requires : goal.row-requires
row-requires c = row_room c.requires.0 c.loop-k-test.true

pub put_row-next-requires : goal.put_row-next-requires
put_row-next-requires c = rowed-room c.loop-k.invariant.1 c.row.ensures c.requires.1 c.loop-k-test.true

pub loop-k-preserved : goal.loop-k-preserved
loop-k-preserved c = (omega arith, rowed-again c.loop-k.invariant.1 c.row.ensures c.put_row-next.ensures)

pub returns : goal.returns
returns c = rowed-all c.loop-k-test.false c.loop-k.invariant
