use mathlib.Core.Path.{sym, ◌∙◌}
use Rattle.scalar.proofs.Dates.{days-leap, days-plain, days-short, days-long}
use Rattle.scalar.proofs.days_in.Goals as goal

pub returns-then-leap_year : goal.returns-then-leap_year
returns-then-leap_year c = days-leap c.args.y c.args.m c.in-2.is (sym c.leap_year.ensures ∙ c.if-leap_year.true)

pub returns-else-leap_year : goal.returns-else-leap_year
returns-else-leap_year c = days-plain c.args.y c.args.m c.in-2.is (sym c.leap_year.ensures ∙ c.if-leap_year.false)

pub returns-in-4 : goal.returns-in-4
returns-in-4 c = days-short c.args.y c.args.m c.in-4.is

pub returns-in_default : goal.returns-in_default
returns-in_default c = days-long c.args.y c.args.m c.in_default.in_default-own.rest.0.1 c.in_default.in_default-own.rest.1
