-- Parts of what was read.
use mathlib.Core.List.{List}
use Prim.Native.Nat.{ℕ, ◌+◌, ◌-◌, ◌≤◌}
use native.Mathlib.Omega.{arith}
use lib.ListN.{length, take, drop, length-drop}
use lib.Seq.{length-take-le}
use Rattle.reading.specs.Reading.{refusal}
use Rattle.format.specs.Message.{refused}
use Rattle.format.specs.Desk.{printed}
use Rattle.integer.specs.Writes.{Room, Wrote}
use Rattle.text.proofs.Lengths.{refused-length}
use Rattle.text.proofs.Writes.{wrote_kept}

-- what is used of the rest is within the whole
pub rest-within : (o : List ℕ) (at : ℕ) {used : ℕ} → at ≤ length o → used ≤ length (take (length o - at) (drop at o)) → at + used ≤ length o
rest-within o at h g = omega (arith, h, g, length-take-le (length o - at) (drop at o) (omega (arith, length-drop at o)))

-- the line of refusal 17
pub room-17 : {l : List ℕ} → 32768 ≤ length l → Room (printed (refused (refusal 17 0))) 0 l
room-17 h = record { room = omega (arith, refused-length (refusal 17 0) (omega arith), h) }

pub wrote-17 : {l after : List ℕ} {n : ℕ} → 32768 ≤ length l → Wrote (printed (refused (refusal 17 0))) 0 l n after → n ≤ length after
wrote-17 h w = omega (arith, w.past, refused-length (refusal 17 0) (omega arith), wrote_kept w, h)
