use native.Mathlib.Omega.{arith}
use Rattle.reading.specs.Reading.{refusal}
use Rattle.text.proofs.Lengths.{refused-length}
use Rattle.replies.proofs.put_no_line.Goals as goal

pub put_refused-requires : goal.put_refused-requires
put_refused-requires c = record { room = omega (arith, refused-length (refusal 17 0) (omega arith), c.requires) }

pub returns : goal.returns
returns c = record { wrote = c.put_refused.ensures; short = omega (arith, refused-length (refusal 17 0) (omega arith)) }
