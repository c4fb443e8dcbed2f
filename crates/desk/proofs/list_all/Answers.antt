use native.Mathlib.Omega.{arith}
use Rattle.text.proofs.Writes.{wrote_kept}
use Rattle.desk.proofs.Parts.{rest-within}
use Rattle.desk.proofs.list_all.Goals as goal

pub slice_bounds-write_all-end : goal.slice_bounds-write_all-end
slice_bounds-write_all-end g c = omega (arith, c.list_lines-p.ensures.room, wrote_kept c.list_lines-p.ensures.wrote)

pub overflow_add-at : goal.overflow_add-at
overflow_add-at g c = omega (arith, rest-within c.args.src.now _ c.loop-at.invariant c.list_lines-p.ensures.within)

pub loop-at-smaller : goal.loop-at-smaller
loop-at-smaller g c = omega (arith, rest-within c.args.src.now _ c.loop-at.invariant c.list_lines-p.ensures.within, c.if-p-eq0.false)

pub loop-at-preserved : goal.loop-at-preserved
loop-at-preserved g c = rest-within c.args.src.now _ c.loop-at.invariant c.list_lines-p.ensures.within
