use native.Mathlib.Omega.{arith}
use Rattle.records.proofs.Records.{rows-room}
use Rattle.cases.proofs.answer_case.Goals as goal

pub begin_line-begun-requires : goal.begin_line-begun-requires
begin_line-begun-requires g c = (c.requires.0, c.requires.1, omega (arith, c.requires.2))

pub loop-k-init : goal.loop-k-init
loop-k-init g c = let b = c.begin_line-begun.ensures.begins.listed in omega (arith, b.short, b.wrote.past)

pub put_rows-next-requires : goal.put_rows-next-requires
put_rows-next-requires g c = (
  rw c.rows.ensures (rows-room c.begin_line-begun.ensures.begins.room (omega (arith, c.min-m.ensures, c.loop-k-test.true))),
  record { fits = omega (arith, c.min-m.ensures, c.loop-k.invariant, c.requires.2) },
)

pub flush-requires : goal.flush-requires
flush-requires g c = omega (arith, c.put_rows-next.ensures.few, c.min-m.ensures, c.loop-k.invariant, c.requires.2)
