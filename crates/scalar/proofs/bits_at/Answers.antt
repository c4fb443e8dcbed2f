use native.Mathlib.Omega.{arith}
use mir.Syntax.{w64}
use Rattle.integer.proofs.Signs.{returned}
use Rattle.scalar.proofs.Values.{bits-of-one, bits-of-four, bits-of-eight, size-last}
use Rattle.scalar.proofs.bits_at.Goals as goal

pub returns-then-n-eq1 : goal.returns-then-n-eq1
returns-then-n-eq1 c = bits-of-one c.args.src.now c.args.at c.args.n c.requires.1 c.if-n-eq1.true (c.type_inv.src _).fits

pub returns-then-n-eq4 : goal.returns-then-n-eq4
returns-then-n-eq4 c = bits-of-four c.args.src.now c.args.at c.args.n c.requires.1 c.if-n-eq4.true c.from_be_bytes.type_inv c.from_be_bytes.ensures

pub eight_at-requires : goal.eight_at-requires
eight_at-requires c = omega (arith, size-last c.requires.0 c.if-n-eq1.false c.if-n-eq4.false)

pub returns : goal.returns
returns c = bits-of-eight c.args.src.now c.args.at c.args.n c.requires.1 (size-last c.requires.0 c.if-n-eq1.false c.if-n-eq4.false) (returned w64 c.eight_at.type_inv c.eight_at.ensures)
