use Rattle.std.proofs.Common.{rules, ◌≡◌, Err}
use Rattle.measure.proofs.Plans.{uncarried-plan, small-plan, int-plan, fixed-plan, char-plan}
use Rattle.measure.proofs.Values.{moment-plan, as-class}
use Rattle.measure.proofs.data_plan.Goals as goal

pub returns-in-Refused : goal.returns-in-Refused
returns-in-Refused c = as-class c.in-Refused.is uncarried-plan

pub returns-in-Small : goal.returns-in-Small
returns-in-Small c = as-class c.in-Small.is (small-plan c.requires)

pub returns-in-Int : goal.returns-in-Int
returns-in-Int c = as-class c.in-Int.is (int-plan c.int_past.ensures c.single.ensures)

pub returns-in-Fixed : goal.returns-in-Fixed
returns-in-Fixed c = as-class c.in-Fixed.is (fixed-plan c.octets_past.ensures c.single-in-Fixed.ensures)

pub returns-in-Char : goal.returns-in-Char
returns-in-Char c = as-class c.in-Char.is (char-plan c.char_past.ensures c.single-in-Char.ensures)

pub returns-in_err-next-in-Parts : goal.returns-in_err-next-in-Parts
returns-in_err-next-in-Parts c =
    let q : c.from_residual.result ≡ Err c.in_err-next-in-Parts.field-0.0 = search rules in
    rw q (as-class c.in-Parts.is (moment-plan c.moment_past.ensures c.in_err-next-in-Parts.was))

pub returns-in_ok-next-in-Parts : goal.returns-in_ok-next-in-Parts
returns-in_ok-next-in-Parts c = as-class c.in-Parts.is (moment-plan c.moment_past.ensures c.in_ok-next-in-Parts.was)
