use mathlib.Core.Path.{◌≡◌, sym}
use Prim.Native.Nat.{◌/◌}
use lib.ListN.{length}
use native.Mathlib.Omega.{arith}
use Rattle.text.proofs.Writes.{left_one, left-place, left-none}
use Rattle.format.specs.Desk.{is_digit}
use Rattle.format.proofs.Every.{every-at}
use Rattle.text.proofs.Digits.{octets-more, octets-end}
use Rattle.text.proofs.put_octets.Goals as goal

pub digit_of-high-requires : goal.digit_of-high-requires
digit_of-high-requires c = every-at is_digit _ c.requires.0 _ (omega arith)

pub digit_of-low-requires : goal.digit_of-low-requires
digit_of-low-requires c = every-at is_digit _ c.requires.0 _ (omega arith)

pub bounds-out-i : goal.bounds-out-i
bounds-out-i c = left-place c.loop-i.invariant (octets-more _ _ (omega arith) c.digit_of-high.ensures.0 c.digit_of-low.ensures.0)

pub loop-i-preserved : goal.loop-i-preserved
loop-i-preserved c = left_one c.loop-i.invariant (octets-more _ _ (omega arith) c.digit_of-high.ensures.0 c.digit_of-low.ensures.0)

pub returns : goal.returns
returns c = let all : c.loop-i.i ≡ length c.args.line.now / 2 = omega arith in rw (sym all) (left-none c.loop-i.invariant (octets-end _ _ (omega arith)))
