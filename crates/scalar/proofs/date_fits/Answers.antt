use mir.ValLaws.{to_z-of_z}
use Rattle.scalar.proofs.Dates.{date-year, date-month, date-early, date-day, upward, upward-one}
use lib.IntN.{pos}
use mathlib.Core.Path.{sym, ◌∙◌}
use mir.Syntax.{w32}
use Rattle.integer.proofs.Signs.{cast-read}
use Rattle.scalar.proofs.Signed.{in-range}
use Rattle.scalar.proofs.date_fits.Goals as goal

pub returns-then-not-between : goal.returns-then-not-between
returns-then-not-between c = let s = c.args in
    let f = c.ranges in
    date-year s.y s.m s.d (sym (in-range (pos 0) (pos 9999) s.y f.y c.between.ensures) ∙ c.if-not-between.true)

pub returns-then-not-between-2 : goal.returns-then-not-between-2
returns-then-not-between-2 c = let s = c.args in
    let f = c.ranges in
    date-month s.y s.m s.d (sym (in-range (pos 0) (pos 9999) s.y f.y c.between.ensures) ∙ c.if-not-between.false) (sym (in-range (pos 1) (pos 12) s.m f.m c.between-2.ensures) ∙ c.if-not-between-2.true)

pub returns-then-between : goal.returns-then-between
returns-then-between c = let s = c.args in
    let f = c.ranges in
    date-early s.y s.m s.d (sym (in-range (pos 0) (pos 9999) s.y f.y c.between.ensures) ∙ c.if-not-between.false) (sym (in-range (pos 1) (pos 12) s.m f.m c.between-2.ensures) ∙ c.if-not-between-2.false) (sym (in-range (pos 1) (pos 28) s.d f.d c.between-3.ensures) ∙ c.if-between.true)

pub overflow_cast-y : goal.overflow_cast-y
overflow_cast-y c = let s = c.args in
    let f = c.ranges in
    cast-read w32 s.y f.y _ (to_z-of_z w32 s.y f.y ∙ upward 9999 s.y (sym (in-range (pos 0) (pos 9999) s.y f.y c.between.ensures) ∙ c.if-not-between.false))

pub overflow_cast-m : goal.overflow_cast-m
overflow_cast-m c = let s = c.args in
    let f = c.ranges in
    cast-read w32 s.m f.m _ (to_z-of_z w32 s.m f.m ∙ upward-one 12 s.m (sym (in-range (pos 1) (pos 12) s.m f.m c.between-2.ensures) ∙ c.if-not-between-2.false))

pub returns : goal.returns
returns c = let s = c.args in
    let f = c.ranges in
    date-day s.y s.m s.d (sym (in-range (pos 0) (pos 9999) s.y f.y c.between.ensures) ∙ c.if-not-between.false) (sym (in-range (pos 1) (pos 12) s.m f.m c.between-2.ensures) ∙ c.if-not-between-2.false) f.y f.m f.d c.days_in.ensures.0 c.days_in.ensures.1 c.between-4.ensures
