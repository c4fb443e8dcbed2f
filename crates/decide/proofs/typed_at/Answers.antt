use mathlib.Core.Path.{ap}
use Rattle.decide.specs.Forms.{says}
use Rattle.decide.proofs.Forms.{typed-else, typed-bare}
use Rattle.decide.proofs.typed_at.Goals as goal

pub returns-in-Bare : goal.returns-in-Bare
returns-in-Bare c = typed-bare (ap says c.in-Bare.is) c.in-Bare.known_told-1-own.given.0.1 c.requires

pub returns-in-Sized : goal.returns-in-Sized
returns-in-Sized c = typed-bare (ap says c.in-Sized.is) c.in-Sized.known_told-in-Sized-1-own.given.1.0.1 c.requires

pub returns-in-Packed : goal.returns-in-Packed
returns-in-Packed c = typed-bare (ap says c.in-Packed.is) c.in-Packed.known_told-in-Packed-1-own.given.1.0.1 c.requires

pub returns-in_default : goal.returns-in_default
returns-in_default c = typed-else _ c.in_default.in_default-own.keys4 c.int_at.ensures
