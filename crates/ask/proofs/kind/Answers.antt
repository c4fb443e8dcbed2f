use mathlib.Core.Path.{◌≡◌}
use mathlib.Core.Bool.{true, false}
use lib.IntN.{ℤ, pos, negsuc}
use lib.Signed.{lt_z, mag}
use mir.Syntax.{w32, w64}
use mir.Val.{SFits}
use native.Mathlib.Omega.{arith}
use borrow.Author.Rules.{rules}
use Rattle.integer.proofs.Signs.{held, seen, widened, negative, flip-back}
use Rattle.ask.proofs.Judging.{compact-fits, user, plain, few, compacted, unknown}
use Rattle.ask.proofs.kind.Goals as goal

pub returns-in_default : goal.returns-in_default
returns-in_default c = unknown c.args.ty (seen c.ranges.ty (negsuc 63) true (search rules))

wide : {v : ℤ} → SFits w32 v → SFits w64 v
wide = widened (omega arith)

pub returns-in-minus64-to-minus41 : goal.returns-in-minus64-to-minus41
returns-in-minus64-to-minus41 c =
    compacted c.args.ty (simp (held c.ranges.ty, held (wide c.ranges.ty)) (held (compact-fits c.args.ty c.ranges.ty)))
    (seen c.ranges.ty (negsuc 63) false (search rules)) (seen c.ranges.ty (negsuc 39) true (search rules))

pub returns-in-minus40-to-minus1 : goal.returns-in-minus40-to-minus1
returns-in-minus40-to-minus1 c =
    let at-40 : lt_z c.args.ty (negsuc 39) ≡ false = seen c.ranges.ty (negsuc 39) false (search rules) in
    let negative-ty : c.args.ty ≡ negsuc (mag c.args.ty) = negative c.args.ty (seen c.ranges.ty (pos 0) true (search rules)) in
    rw (rw (flip-back w32 c.args.ty c.ranges.ty negative-ty) at c.listed.ensures) (plain negative-ty (few (mag c.args.ty) (rw negative-ty at at-40)))

pub returns-in-0-to-2147483647 : goal.returns-in-0-to-2147483647
returns-in-0-to-2147483647 c = user c.args.ty (seen c.ranges.ty (pos 0) false (search rules))
