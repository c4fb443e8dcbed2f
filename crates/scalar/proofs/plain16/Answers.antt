use mathlib.Core.Path.{sym, subst, ◌∙◌}
use Rattle.reading.proofs.Tests.{no}
use native.Mathlib.Omega.{arith}
use Rattle.scalar.specs.Parts.{Plain}
use Rattle.scalar.proofs.Text.{plain-again}
use Rattle.scalar.proofs.plain16.Goals as goal
use Rattle.scalar.proofs.plain16.Goals.{then-b-eq0, else-b-eq0+else-b-gt127}

pub loop-k-init : goal.loop-k-init
loop-k-init c = (omega arith, λ e j h. absurd (omega arith))

pub loop-k-preserved : goal.loop-k-preserved
loop-k-preserved c = (
  omega arith,
  λ e. elim c.if-b-eq0.branch [
    | then-b-eq0 w ↦ absurd (no (sym w.ok-is ∙ e))
    | else-b-eq0+else-b-gt127 w ↦ plain-again c.args.src.now c.args.at c.loop-k.k (c.loop-k.invariant.1 (sym w.ok-is ∙ e)) (omega (arith, w.if-b-eq0.false)) (omega (arith, w.if-b-gt127.false))
  ],
)

pub returns : goal.returns
returns c = λ e. subst (Plain c.args.src.now c.args.at) (omega arith) (c.loop-k.invariant.1 e)
