use native.Mathlib.Omega.{arith}
use mathlib.Core.Path.{sym}
use mir.Syntax.{w64}
use Rattle.integer.specs.Packed.{wide64}
use Rattle.integer.proofs.Signs.{returned}
use Rattle.integer.proofs.Steps.{integer-end, knows, known-word-one, known-word}
use Rattle.integer.proofs.known64_at.Goals as goal

pub returns-then-src-at : goal.returns-then-src-at
returns-then-src-at c = knows (record { same = λ e. sym (integer-end wide64 _ _ e c.if-src-at.true); past = tt })

pub returns-then-e : goal.returns-then-e
returns-then-e c = known-word-one _ _ (λ i. (c.type_inv.src i).fits) (omega arith) c.word_at-w.ensures c.ends_of-e.ensures c.if-e.true (returned w64 c.signed.type_inv c.signed.ensures)

pub returns-then-e-ne0 : goal.returns-then-e-ne0
returns-then-e-ne0 c = known-word _ _ (λ i. (c.type_inv.src i).fits) (omega arith) c.word_at-w.ensures c.ends_of-e.ensures c.if-e-ne0.true c.first_end.ensures.0 c.held-bits.ensures (returned w64 c.signed-then-e-ne0.type_inv c.signed-then-e-ne0.ensures)

pub returns : goal.returns
returns c = knows c.int_at.ensures
