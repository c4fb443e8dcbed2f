use mathlib.Core.Path.{◌∙◌}
use Rattle.queries.proofs.Split.{pass-none, pass-again, pass-stop, pass_all}
use Rattle.queries.proofs.pass.Goals as goal

pub loop-init : goal.loop-init
loop-init c = (c.requires, pass-none c.args.line.now c.args.at c.args.count)

pub number_at-requires : goal.number_at-requires
number_at-requires c = c.loop.invariant.0

pub returns-in_err-past : goal.returns-in_err-past
returns-in_err-past c = rw c.from_residual.ensures (c.loop.invariant.1 ∙ pass-stop c.args.line.now c.loop.next _ _ c.in_err-past.ensures c.loop-test.true)

pub loop-preserved : goal.loop-preserved
loop-preserved c = (c.in_ok-past.ensures.within, c.loop.invariant.1 ∙ pass-again _ _ _ _ c.in_ok-past.ensures c.loop-test.true)

pub returns : goal.returns
returns c = (c.loop.invariant.1 ∙ pass_all c.args.line.now c.loop.next _ _ c.loop-test.false, c.loop.invariant.0)
