use Rattle.std.proofs.Common.{rules}
use mathlib.Core.Path.{refl}
use Rattle.columns.specs.Columns.{shortest}
use Rattle.listing.proofs.Listing.{room-28, room-36, listed-refused, rows_fit, listed-rows}
use Rattle.listing.proofs.list_frame.Goals as goal

pub put_refused-requires : goal.put_refused-requires
put_refused-requires c = room-28 _ (search rules) c.requires

pub put_accepted-next-requires : goal.put_accepted-next-requires
put_accepted-next-requires c = room-36 {c = c.in-Ok.frame.conversation} (search rules) (search rules) (search rules) c.requires

pub put_rows-requires : goal.put_rows-requires
unfolding shortest
put_rows-requires c = rw c.rows.ensures (rows_fit _ c.read_frame.ensures.read refl c.in-Ok.is (λ i. (c.type_inv.src i).fits) (search rules) (search rules) c.put_accepted-next.ensures c.requires)

pub returns-in-Err : goal.returns-in-Err
unfolding shortest
returns-in-Err c = listed-refused _ c.read_frame.ensures.read refl c.in-Err.is (search rules) c.put_refused.ensures

pub returns-in-Ok : goal.returns-in-Ok
unfolding shortest
returns-in-Ok c = listed-rows _ c.read_frame.ensures.read refl c.in-Ok.is (λ i. (c.type_inv.src i).fits) (search rules) (search rules) c.put_accepted-next.ensures (rw c.rows.ensures at c.put_rows.ensures)
