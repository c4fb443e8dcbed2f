use mathlib.Core.Path.{refl}
use mir.Syntax.{w64}
use Rattle.integer.proofs.Signs.{held}
use Rattle.integer.proofs.Writes.{wrote-more, room-one, room-more}
use Rattle.text.proofs.Signs.{minus-spelt}
use Rattle.text.proofs.put_number.Goals as goal

pub bounds-out-at : goal.bounds-out-at
bounds-out-at c = room-one (minus-spelt c.args.v c.ranges.v c.if-v-lt0.true refl) c.requires

pub put_digits-requires : goal.put_digits-requires
put_digits-requires c = room-more (minus-spelt c.args.v c.ranges.v c.if-v-lt0.true (rw (held {w = w64} {z = c.args.v} c.ranges.v) at c.unsigned_abs.ensures.value)) c.requires

pub returns-then-v-lt0 : goal.returns-then-v-lt0
returns-then-v-lt0 c = wrote-more (minus-spelt c.args.v c.ranges.v c.if-v-lt0.true (rw (held {w = w64} {z = c.args.v} c.ranges.v) at c.unsigned_abs.ensures.value)) c.put_digits.ensures
