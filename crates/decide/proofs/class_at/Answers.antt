use Rattle.decide.proofs.Forms.{class-sized, class-packed}
use Rattle.decide.proofs.class_at.Goals as goal

pub returns-in-Sized : goal.returns-in-Sized
returns-in-Sized c = class-sized c.in-Sized.is c.requires

pub returns-in-Packed : goal.returns-in-Packed
returns-in-Packed c = class-packed c.in-Packed.is c.requires
