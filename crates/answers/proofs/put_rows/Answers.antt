use native.Mathlib.Omega.{arith}
use Rattle.records.proofs.Records.{row_room}
use Rattle.answers.proofs.Parts.{parts_none, part_room, parts_again, parts_all}
use Rattle.answers.proofs.put_rows.Goals as goal

pub loop-i-init : goal.loop-i-init
loop-i-init c = (omega arith, parts_none _ _)

pub overflow_add-k : goal.overflow_add-k
overflow_add-k c = omega (arith, c.requires.0.ty_room)

pub row-requires : goal.row-requires
row-requires c = row_room c.requires.0 (omega (arith, c.loop-i-test.true))

pub put_row-next-requires : goal.put_row-next-requires
put_row-next-requires c = part_room c.loop-i.invariant.1 c.row.ensures c.requires.1 c.loop-i-test.true

pub loop-i-preserved : goal.loop-i-preserved
loop-i-preserved c = (omega arith, parts_again c.loop-i.invariant.1 c.row.ensures c.put_row-next.ensures)

pub returns : goal.returns
returns c = parts_all c.loop-i-test.false c.loop-i.invariant
