use native.Mathlib.Omega.{arith}
use Rattle.integer.proofs.Spelling.{groups-last, groups-more}
use Rattle.integer.proofs.Writes.{wrote-last, wrote-more, room-one, room-more}
use Rattle.integer.proofs.+put_rest.Goals as goal

pub bounds-out-at : goal.bounds-out-at
bounds-out-at t c = room-one (groups-last _ c.if-n-lt128.true) c.requires

pub overflow_add-result : goal.overflow_add-result
overflow_add-result t c = omega (arith, room-one (groups-last _ c.if-n-lt128.true) c.requires)

pub returns-then-n-lt128 : goal.returns-then-n-lt128
returns-then-n-lt128 t c = wrote-last _ _ (groups-last _ c.if-n-lt128.true)

pub bounds-out-at-2 : goal.bounds-out-at-2
bounds-out-at-2 t c = room-one (groups-more _ c.if-n-lt128.false) c.requires

pub overflow_add-at : goal.overflow_add-at
overflow_add-at t c = omega (arith, room-one (groups-more _ c.if-n-lt128.false) c.requires)

pub put_rest-requires : goal.put_rest-requires
put_rest-requires t c = (omega arith, room-more (groups-more _ c.if-n-lt128.false) c.requires)

pub returns : goal.returns
returns t c = wrote-more (groups-more _ c.if-n-lt128.false) c.put_rest.ensures
