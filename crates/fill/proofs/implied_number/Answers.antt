use mathlib.Core.Path.{sym, ap, ◌∙◌}
use mathlib.Core.Bool.{true, false}
use lib.IntN.{ℤ, negsuc}
use mir.Val.{SFits, to_z, of_z}
use Rattle.integer.proofs.Signs.{held, seen, widened}
use mir.Syntax.{w32, w64}
use native.Mathlib.Omega.{arith}
use Rattle.fill.proofs.Numbers.{implied-low, implied-true, implied-high, implied-fits}
use Rattle.fill.proofs.implied_number.Goals as goal

wide : {v : ℤ} → SFits w32 v → SFits w64 v
wide = widened (omega arith)

pub overflow_cast-result : goal.overflow_cast-result
overflow_cast-result c = rw (held c.ranges.ty) (wide c.ranges.ty)

pub overflow_sub-result : goal.overflow_sub-result
overflow_sub-result c = simp (held c.ranges.ty, held (wide c.ranges.ty)) (implied-fits c.args.ty c.ranges.ty)

pub returns-then-ty-ltminus40 : goal.returns-then-ty-ltminus40
returns-then-ty-ltminus40 c = simp (held c.ranges.ty, held (wide c.ranges.ty), held (implied-fits c.args.ty c.ranges.ty)) (implied-high c.args.ty (seen c.ranges.ty (negsuc 39) true c.if-ty-ltminus40.true))

pub returns-then-ty-eqminus34 : goal.returns-then-ty-eqminus34
returns-then-ty-eqminus34 c = implied-true (sym (held c.ranges.ty) ∙ ap (to_z w32) c.if-ty-eqminus34.true)

pub returns : goal.returns
returns c = implied-low c.args.ty (seen c.ranges.ty (negsuc 39) false c.if-ty-ltminus40.false) (λ q. c.if-ty-eqminus34.false (ap (of_z w32) q))
