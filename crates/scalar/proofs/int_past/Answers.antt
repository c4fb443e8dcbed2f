use native.Mathlib.Omega.{arith}
use mathlib.Core.Path.{refl}
use Rattle.integer.proofs.Windows.{ends-one}
use Rattle.scalar.proofs.Integers.{past_end, past_one, word-passes}
use Rattle.scalar.proofs.int_past.Goals as goal

pub returns-then-src-at : goal.returns-then-src-at
returns-then-src-at c = past_end c.args.w c.if-src-at.true

pub returns-then-e : goal.returns-then-e
returns-then-e c = past_one c.args.w (omega arith) (ends-one _ _ (λ i. (c.type_inv.src i).fits) refl c.ends_at-e.ensures c.if-e.true)

pub returns-then-fits_in : goal.returns-then-fits_in
returns-then-fits_in c = word-passes c.args.w _ _ (omega arith) (λ i. (c.type_inv.src i).fits) c.ends_at-e.ensures c.if-e-ne0.true c.first_end-k.ensures.0 c.fits_in.ensures c.if-fits_in.true
