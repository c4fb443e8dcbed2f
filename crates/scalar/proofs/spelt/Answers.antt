use mathlib.Core.Path.{subst}
use Rattle.scalar.specs.Parts.{Within}
use native.Mathlib.Omega.{arith}
use Rattle.scalar.proofs.Text.{reached-first, reached-more, told-bad, told-end}
use Rattle.scalar.proofs.spelt.Goals as goal

pub loop-at-init : goal.loop-at-init
loop-at-init c = reached-first _ _ _ c.requires.0

pub spelling-requires : goal.spelling-requires
spelling-requires c = (c.loop-at-test.true, c.requires.1)

pub returns-in_default : goal.returns-in_default
returns-in_default c = told-bad c.requires.1 c.loop-at.invariant c.loop-at-test.true c.spelling.ensures c.in_default.is

pub overflow_add-at : goal.overflow_add-at
overflow_add-at c = omega (arith, subst (Within _ _) c.in-Some.is c.spelling.ensures.within)

pub loop-at-smaller : goal.loop-at-smaller
loop-at-smaller c = omega (arith, subst (Within _ _) c.in-Some.is c.spelling.ensures.within)

pub loop-at-preserved : goal.loop-at-preserved
loop-at-preserved c = reached-more c.requires.1 c.loop-at.invariant c.loop-at-test.true c.spelling.ensures c.in-Some.is

pub returns : goal.returns
returns c = told-end c.requires.1 c.loop-at.invariant c.loop-at-test.false
