use mathlib.Core.Path.{refl}
use mathlib.Core.Bool.{true, false}
use lib.Dec.{lit<}
use lib.IntN.{negsuc}
use Rattle.integer.proofs.Signs.{seen}
use Rattle.format.specs.Types.{kind_of}
use Rattle.decide.proofs.Table.{is_at, is-either, as-element, no-element, made, is-user, is_below, is-small, is-rest}
use Rattle.decide.proofs.class_of.Goals as goal

pub returns-in-minus1 : goal.returns-in-minus1
unfolding kind_of
returns-in-minus1 c = is_at c.ranges.t c.in-minus1.in-minus1-own.keys1 (as-element (_, refl) refl (lit< tt))

pub returns-in-minus2 : goal.returns-in-minus2
unfolding kind_of
returns-in-minus2 c = is-either c.ranges.t c.in-minus2.in-minus2-own.keys2 (as-element (_, refl) refl (lit< tt)) (as-element (_, refl) refl (lit< tt))

pub returns-in-minus3 : goal.returns-in-minus3
unfolding kind_of
returns-in-minus3 c = is_at c.ranges.t c.in-minus3.in-minus3-own.keys3 (as-element (_, refl) refl (lit< tt))

pub returns-in-minus5 : goal.returns-in-minus5
unfolding kind_of
returns-in-minus5 c = is_at c.ranges.t c.in-minus5.in-minus5-own.keys4 (as-element (_, refl) refl (lit< tt))

pub returns-in-minus6 : goal.returns-in-minus6
unfolding kind_of
returns-in-minus6 c = is_at c.ranges.t c.in-minus6.in-minus6-own.keys5 (as-element (_, refl) refl (lit< tt))

pub returns-in-minus12 : goal.returns-in-minus12
unfolding kind_of
returns-in-minus12 c = is_at c.ranges.t c.in-minus12.in-minus12-own.keys6 (as-element (_, refl) refl (lit< tt))

pub returns-in-minus13 : goal.returns-in-minus13
unfolding kind_of
returns-in-minus13 c = is_at c.ranges.t c.in-minus13.in-minus13-own.keys7 (as-element refl refl (lit< tt))

pub returns-in-minus14 : goal.returns-in-minus14
unfolding kind_of
returns-in-minus14 c = is_at c.ranges.t c.in-minus14.in-minus14-own.keys8 (as-element (_, refl) refl (lit< tt))

pub returns-in-minus15 : goal.returns-in-minus15
unfolding kind_of
returns-in-minus15 c = is_at c.ranges.t c.in-minus15.in-minus15-own.keys9 (as-element refl refl (lit< tt))

pub returns-in-minus16 : goal.returns-in-minus16
unfolding kind_of
returns-in-minus16 c = is_at c.ranges.t c.in-minus16.in-minus16-own.keys10 (as-element refl refl (lit< tt))

pub returns-in-minus18 : goal.returns-in-minus18
unfolding kind_of
returns-in-minus18 c = is_at c.ranges.t c.in-minus18.in-minus18-own.keys11 (as-element refl refl (lit< tt))

pub returns-in-minus20 : goal.returns-in-minus20
unfolding kind_of
returns-in-minus20 c = is_at c.ranges.t c.in-minus20.in-minus20-own.keys12 (as-element refl refl (lit< tt))

pub returns-in-minus22 : goal.returns-in-minus22
unfolding kind_of
returns-in-minus22 c = made c.holder.ensures (is-either c.ranges.t c.in-minus22.in-minus22-own.keys13 (as-element refl refl (lit< tt)) (as-element refl refl (lit< tt)))

pub returns-in-minus23 : goal.returns-in-minus23
unfolding kind_of
returns-in-minus23 c = made c.holder-in-minus23.ensures (is-either c.ranges.t c.in-minus23.in-minus23-own.keys14 (as-element refl refl (lit< tt)) (as-element refl refl (lit< tt)))

pub returns-in-minus26 : goal.returns-in-minus26
unfolding kind_of
returns-in-minus26 c = made c.holder-in-minus26.ensures (is_at c.ranges.t c.in-minus26.in-minus26-own.keys15 (as-element refl refl (lit< tt)))

pub returns-in-minus27 : goal.returns-in-minus27
unfolding kind_of
returns-in-minus27 c = made c.holder-in-minus27.ensures (is_at c.ranges.t c.in-minus27.in-minus27-own.keys16 (as-element refl refl (lit< tt)))

pub returns-in-minus28 : goal.returns-in-minus28
unfolding kind_of
returns-in-minus28 c = made c.holder-in-minus28.ensures (is_at c.ranges.t c.in-minus28.in-minus28-own.keys17 (as-element refl refl (lit< tt)))

pub returns-in-minus29 : goal.returns-in-minus29
unfolding kind_of
returns-in-minus29 c = made c.holder-in-minus29.ensures (is_at c.ranges.t c.in-minus29.in-minus29-own.keys18 (as-element refl refl (lit< tt)))

pub returns-in-minus30 : goal.returns-in-minus30
unfolding kind_of
returns-in-minus30 c = made c.holder-in-minus30.ensures (is_at c.ranges.t c.in-minus30.in-minus30-own.keys19 (as-element refl refl (lit< tt)))

pub returns-in-minus31 : goal.returns-in-minus31
unfolding kind_of
returns-in-minus31 c = is_at c.ranges.t c.in-minus31.in-minus31-own.keys20 (no-element refl refl refl)

pub returns-in-minus32 : goal.returns-in-minus32
unfolding kind_of
returns-in-minus32 c = is_at c.ranges.t c.in-minus32.in-minus32-own.keys21 (no-element refl refl refl)

pub returns-in-minus64-to-minus33 : goal.returns-in-minus64-to-minus33
returns-in-minus64-to-minus33 c = is-small c.args.t (seen c.ranges.t (negsuc 63) false c.in-minus64-to-minus33.if-t-ltminus64-own.false) (seen c.ranges.t (negsuc 31) true c.in-minus64-to-minus33.if-t-ltminus32-own.true)

pub returns-in-0-to-2147483647 : goal.returns-in-0-to-2147483647
returns-in-0-to-2147483647 c = made c.holder-in-0-to-2147483647.ensures (is-user c.args.t (seen c.ranges.t (negsuc 2) false c.in-0-to-2147483647.if-t-ltminus3-own.false) c.in-0-to-2147483647.in_default-own.rest)

pub returns-in_default : goal.returns-in_default
returns-in_default c = is_below c.args.t (seen c.ranges.t (negsuc 63) true c.in_default.if-t-ltminus64-own.true)

pub returns-in_default-2 : goal.returns-in_default-2
returns-in_default-2 c = is-rest c.args.t (seen c.ranges.t (negsuc 31) false c.in_default.if-t-ltminus32-own.false) (seen c.ranges.t (negsuc 2) true c.in_default.if-t-ltminus3-own.true) c.in_default.in_default-own.rest
