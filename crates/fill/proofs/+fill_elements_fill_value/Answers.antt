use mathlib.Core.Path.{refl}
use Rattle.columns.proofs.Storing.{lent_same, lent_trans, roomy, leaf_room, leaf-in-blank}
use Rattle.fill.proofs.Values.{value-crowded, value-unread, value-leaf, value-deep, value-holder}
use Rattle.fill.proofs.Elements.{turn-first, turn-less, turn-again, elements-unread, elements-end, elements-stop}
use Rattle.fill.proofs.Begins.{some-as, ok-was, err-was}
use Rattle.fill.proofs.Bounds.{leaf-end, rises, sinks, take-one, one-row, holder-ready, stored-as, turned, turn-ends, turn-ready, turn_more}
use Rattle.fill.proofs.+fill_elements_fill_value.Goals as goal

pub fill_elements-loop-next-init : goal.fill_elements-loop-next-init
fill_elements-loop-next-init t c = record { lent = lent_same; turn = turn-first c.requires.0 }

pub fill_elements-next_at-requires : goal.fill_elements-next_at-requires
fill_elements-next_at-requires t c = (c.loop-next.invariant.turn.inside, c.requires.1.0, c.requires.1.1)

pub fill_elements-returns-in_err-next-clause-filled : goal.fill_elements-returns-in_err-next-clause-filled
fill_elements-returns-in_err-next-clause-filled t c = rw c.from_residual.ensures (elements-unread c.loop-next.invariant.turn c.next_at.ensures refl (err-was _ c.ok.ensures.value c.in_err-next.was).1)

pub fill_elements-overflow_sub-rows : goal.fill_elements-overflow_sub-rows
fill_elements-overflow_sub-rows t c = turn_more c.loop-next.invariant.turn

pub fill_elements-closed_row-requires : goal.fill_elements-closed_row-requires
fill_elements-closed_row-requires t c = turn-ends c.loop-next.invariant.turn c.requires.0 c.next_at.ensures (ok-was _ c.ok.ensures.value (some-as c.in_ok-next.was c.in-End.is))

pub fill_elements-put_row-requires : goal.fill_elements-put_row-requires
fill_elements-put_row-requires t c = roomy c.loop-next.invariant.turn.kept c.requires.0.room

pub fill_elements-returns-in-End-clause-filled : goal.fill_elements-returns-in-End-clause-filled
fill_elements-returns-in-End-clause-filled t c = elements-end c.loop-next.invariant.turn c.next_at.ensures refl (ok-was _ c.ok.ensures.value (some-as c.in_ok-next.was c.in-End.is)) (stored-as c.closed_row.ensures c.put_row.ensures.stored)

pub fill_elements-fill_value-requires : goal.fill_elements-fill_value-requires
fill_elements-fill_value-requires t c = (rises _ c.decreases, turn-ready c.loop-next.invariant.turn c.requires.0 c.next_at.ensures (ok-was _ c.ok.ensures.value (some-as c.in_ok-next.was c.in-Value.is)))

pub fill_elements-returns-in_err-at-in-Value-clause-filled : goal.fill_elements-returns-in_err-at-in-Value-clause-filled
fill_elements-returns-in_err-at-in-Value-clause-filled t c = rw c.from_residual-in_err-at-in-Value.ensures (elements-stop c.loop-next.invariant.turn c.next_at.ensures (ok-was _ c.ok.ensures.value (some-as c.in_ok-next.was c.in-Value.is)) (turned c.form_at-form.ensures c.fill_value.ensures.filled) refl c.in_err-at-in-Value.was)

pub fill_elements-loop-next-smaller : goal.fill_elements-loop-next-smaller
fill_elements-loop-next-smaller t c = turn-less c.loop-next.invariant.turn c.next_at.ensures (ok-was _ c.ok.ensures.value (some-as c.in_ok-next.was c.in-Value.is)) (turned c.form_at-form.ensures c.fill_value.ensures.filled)

pub fill_elements-loop-next-preserved : goal.fill_elements-loop-next-preserved
fill_elements-loop-next-preserved t c = record { lent = lent_trans c.loop-next.invariant.lent c.fill_value.ensures.lent; turn = turn-again c.loop-next.invariant.turn c.next_at.ensures (ok-was _ c.ok.ensures.value (some-as c.in_ok-next.was c.in-Value.is)) (turned c.form_at-form.ensures c.fill_value.ensures.filled) c.in_ok-at-in-Value.was c.fill_value.ensures.lent.kept }

pub fill_value-returns-then-lim-k-clause-filled : goal.fill_value-returns-then-lim-k-clause-filled
fill_value-returns-then-lim-k-clause-filled t c = value-crowded c.if-lim-k.true

pub fill_value-row_at-requires : goal.fill_value-row_at-requires
fill_value-row_at-requires t c = (c.requires.inside, c.requires.short)

pub fill_value-put_leaf-requires : goal.fill_value-put_leaf-requires
fill_value-put_leaf-requires t c = leaf_room c.if-lim-k.false c.requires.room

pub fill_value-overflow_cast-result : goal.fill_value-overflow_cast-result
fill_value-overflow_cast-result t c = record { fits = leaf-end {row = c.in-Some-Leaf.row} c.row_at.ensures (some-as c.in-Some-Leaf.is c.in-Some-Leaf.field-0-is) c.requires }

pub fill_value-overflow_add-result : goal.fill_value-overflow_add-result
fill_value-overflow_add-result t c = record { fits = one-row c.requires }

pub fill_value-returns-then-depth-eq0-clause-filled : goal.fill_value-returns-then-depth-eq0-clause-filled
fill_value-returns-then-depth-eq0-clause-filled t c = value-deep c.row_at.ensures (some-as c.in-Some-Holder.is c.in-Some-Holder.field-0-is) c.if-depth-eq0.true

pub fill_value-overflow_add-k : goal.fill_value-overflow_add-k
fill_value-overflow_add-k t c = record { fits = one-row c.requires }

pub fill_value-overflow_sub-depth : goal.fill_value-overflow_sub-depth
fill_value-overflow_sub-depth t c = take-one c.if-depth-eq0.false

pub fill_value-fill_elements-requires : goal.fill_value-fill_elements-requires
fill_value-fill_elements-requires t c = (sinks _ c.decreases c.if-depth-eq0.false, holder-ready c.row_at.ensures (some-as c.in-Some-Holder.is c.in-Some-Holder.field-0-is) c.if-lim-k.false c.requires)

pub fill_value-returns-in-None-clause-filled : goal.fill_value-returns-in-None-clause-filled
fill_value-returns-in-None-clause-filled t c = value-unread c.row_at.ensures c.in-None.is

pub fill_value-returns-in-Some-Leaf-clause-filled : goal.fill_value-returns-in-Some-Leaf-clause-filled
fill_value-returns-in-Some-Leaf-clause-filled t c = value-leaf c.row_at.ensures (some-as c.in-Some-Leaf.is c.in-Some-Leaf.field-0-is) c.if-lim-k.false (leaf-in-blank c.if-lim-k.false c.put_leaf.ensures.stored)

pub fill_value-returns-else-depth-eq0-clause-filled : goal.fill_value-returns-else-depth-eq0-clause-filled
fill_value-returns-else-depth-eq0-clause-filled t c = value-holder c.row_at.ensures (some-as c.in-Some-Holder.is c.in-Some-Holder.field-0-is) c.if-depth-eq0.false c.fill_elements.ensures.filled
