use Rattle.scalar.proofs.Integers.{of_width}
use Rattle.scalar.proofs.long_past.Goals as goal

pub returns-in-Bits16 : goal.returns-in-Bits16
returns-in-Bits16 c = of_width c.in-Bits16.is c.past.ensures

pub returns-in-Bits32 : goal.returns-in-Bits32
returns-in-Bits32 c = of_width c.in-Bits32.is c.past-in-Bits32.ensures

pub returns-in-Bits64 : goal.returns-in-Bits64
returns-in-Bits64 c = of_width c.in-Bits64.is c.past-in-Bits64.ensures
