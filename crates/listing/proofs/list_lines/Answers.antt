use mathlib.Core.Path.{refl}
use native.Mathlib.Omega.{arith}
use Rattle.text.proofs.Writes.{wrote_kept}
use Rattle.listing.proofs.Lines.{going-none, going-again, no_line, listed-lines}
use Rattle.listing.proofs.list_lines.Goals as goal

pub loop-out-init : goal.loop-out-init
loop-out-init c = going-none

pub overflow_sub-out : goal.overflow_sub-out
overflow_sub-out c = omega (arith, c.loop-out.invariant.room, wrote_kept c.loop-out.invariant.wrote)

pub list_line-written-requires : goal.list_line-written-requires
list_line-written-requires c = omega (arith, c.loop-out-test.true, c.loop-out.invariant.room, wrote_kept c.loop-out.invariant.wrote)

pub loop-out-smaller : goal.loop-out-smaller
loop-out-smaller c = omega (arith, c.loop-out.invariant.within, c.in-Some.ensures.0, c.in-Some.ensures.1)

pub loop-out-preserved : goal.loop-out-preserved
loop-out-preserved c = going-again c.loop-out.invariant refl c.in-Some.ensures.0 c.in-Some.ensures.1 (omega (arith, c.loop-out-test.true, c.loop-out.invariant.room, wrote_kept c.loop-out.invariant.wrote)) c.list_line-written.ensures

pub returns-after-loop-out : goal.returns-after-loop-out
returns-after-loop-out c = listed-lines c.loop-out.invariant (λ k. absurd (omega (arith, k, c.loop-out-test.false, c.loop-out.invariant.room, wrote_kept c.loop-out.invariant.wrote)))

pub returns-in_default : goal.returns-in_default
returns-in_default c = listed-lines c.loop-out.invariant (λ k. no_line c.loop-out.invariant refl (rw c.in_default.is at c.find.ensures) refl)
