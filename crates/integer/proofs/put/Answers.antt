use native.Mathlib.Omega.{arith}
use Rattle.integer.proofs.Spelling.{spell_with-one, spell_with-more}
use Rattle.integer.proofs.Writes.{wrote-last, wrote-more, room-one, room-more}
use Rattle.integer.proofs.put.Goals as goal

pub bounds-out-at : goal.bounds-out-at
bounds-out-at c = room-one (spell_with-one _ _ c.if-n-lt64.true) c.requires.1

pub overflow_add-result : goal.overflow_add-result
overflow_add-result c = omega (arith, room-one (spell_with-one _ _ c.if-n-lt64.true) c.requires.1)

pub returns-then-n-lt64 : goal.returns-then-n-lt64
returns-then-n-lt64 c = wrote-last _ _ (spell_with-one _ _ c.if-n-lt64.true)

pub bounds-out-at-2 : goal.bounds-out-at-2
bounds-out-at-2 c = room-one (spell_with-more _ _ c.if-n-lt64.false) c.requires.1

pub overflow_add-at : goal.overflow_add-at
overflow_add-at c = omega (arith, room-one (spell_with-more _ _ c.if-n-lt64.false) c.requires.1)

pub put_rest-requires : goal.put_rest-requires
put_rest-requires c = room-more (spell_with-more _ _ c.if-n-lt64.false) c.requires.1

pub returns : goal.returns
returns c = wrote-more (spell_with-more _ _ c.if-n-lt64.false) c.put_rest.ensures
