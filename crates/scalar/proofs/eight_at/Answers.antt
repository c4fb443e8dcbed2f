use mir.Syntax.{w64}
use Rattle.integer.proofs.Signs.{returned}
use Rattle.scalar.proofs.Values.{eight-bits}
use Rattle.scalar.proofs.eight_at.Goals as goal

pub returns : goal.returns
returns c = returned w64 c.from_be_bytes.type_inv (eight-bits c.args.src.now c.args.at (λ i. (c.type_inv.src i).fits) c.requires c.from_be_bytes.ensures)
