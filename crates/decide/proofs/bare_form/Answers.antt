use Rattle.decide.proofs.Plain.{cast_fits, form-by, form-else}
use Rattle.decide.proofs.bare_form.Goals as goal

pub overflow_cast-result : goal.overflow_cast-result
overflow_cast-result c = record { fits = cast_fits c.ranges.t c.class_of.ensures c.in-Fixed.is }

pub returns-in-Fixed : goal.returns-in-Fixed
returns-in-Fixed c = form-by c.ranges.t c.class_of.ensures c.in-Fixed.is

pub returns-in-Int : goal.returns-in-Int
returns-in-Int c = form-by c.ranges.t c.class_of.ensures c.in-Int.is

pub returns-in_default : goal.returns-in_default
returns-in_default c = form-else c.ranges.t c.class_of.ensures c.in_default.not-Int c.in_default.not-Fixed
