use native.Mathlib.Omega.{arith}
use Rattle.integer.proofs.Steps.{tail-word}
use Rattle.integer.proofs.tail_at.Goals as goal

pub returns-then-k-more : goal.returns-then-k-more
returns-then-k-more c = tail-word _ _ (λ i. (c.type_inv.src i).fits) (omega arith) c.word_at-w.ensures c.ends_of-e.ensures c.if-e-ne0.true c.first_end-k.ensures.0 c.if-k-more.true c.held.ensures c.joined.ensures
