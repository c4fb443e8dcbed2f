use Rattle.decide.proofs.Forms.{packed-in, class-in}
use Rattle.decide.proofs.class_in.Goals as goal

pub returns-in-Packed : goal.returns-in-Packed
returns-in-Packed c = packed-in c.in-Packed.is

pub returns-in_default : goal.returns-in_default
returns-in_default c = class-in c.ranges.t c.class_of.ensures
