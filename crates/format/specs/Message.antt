-- Reading a message, measuring, and reading a frame (01, "The frame", "Numbers given back").
use Rattle.std.specs.Prelude.{Bool, true, false, List, [], ◌∷◌, ℕ, ◌+◌, length, leb, ℤ}
use Rattle.std.specs.Int.Signed.{mag, non_neg}
use Rattle.reading.specs.declared.Refusal.{Refusal}
use Rattle.reading.specs.Reading.{Out, got, stop, Reader, refusal, start, ◌>>=◌, ◌>>◌, return, require, here, ahead}
use Rattle.integer.specs.Packed.{wide32, integer}
use Rattle.format.specs.declared.Row.{Row}
use Rattle.format.specs.Values.{Value, outermost}
use Rattle.format.specs.Rows.{rows}

-- What an entry answers: its result, or a refusal. An entry with one input names input 1, which is not kept; the exchange says which.
pub data Answer (A : Type 0) : Type 0 where
  ok : A → Answer A
  refused : Refusal → Answer A

-- a refusal n at place 0 unless the test holds
abbrev pub unless : {A : Type 0} → Bool → ℕ → Answer A → Answer A
unless true n a = a
unless false n a = refused (refusal n 0)

abbrev pub then : {A B : Type 0} → Answer A → (A → Answer B) → Answer B
then (ok a) f = f a
then (refused r) f = refused r

abbrev pub answer : {A : Type 0} → Out A → Answer A
answer (got a s) = ok a
answer (stop r) = refused r

-- 01: "2 | over 65,535 octets | 0". "Order: 2; then faults in octet order"
abbrev pub most_octets : ℕ
most_octets = 65535

abbrev pub reading : {A : Type 0} → Reader A → List ℕ → Answer A
reading p o = unless (leb (length o) most_octets) 2 (answer (p (start o)))

-- 01: "11 | octets left over | the first of them"
abbrev pub is_empty : List ℕ → Bool
is_empty [] = true
is_empty (b ∷ l) = false

unfoldable pub ends : Reader (Unit {0})
ends = do
  p ← here
  l ← ahead
  require (is_empty l) 11 p

-- one value, and nothing left over
unfoldable pub whole_message : Reader Value
whole_message = do
  v ← outermost
  ends
  return v

-- a message on its own, with rows enough
unfoldable pub message : List ℕ → Answer Value
message o = reading whole_message o

-- 01: "12 | fewer rows lent than needed | 0". "a reading may use as many rows as the shortest column has"
abbrev pub within_rows : ℕ → List Row → Answer (List Row)
within_rows lent r = unless (leb (length r) lent) 12 (ok r)

-- reading a message into so many lent rows
unfoldable pub read_message : ℕ → List ℕ → Answer (List Row)
read_message lent o = then (message o) (λ v. within_rows lent (rows v))

-- ---- measuring

unfoldable pub first_length : Reader ℕ
first_length = do
  v ← outermost
  here

-- 01: "Measuring ignores what follows the first value, but 2 still holds for the run given". "never gives 12"
unfoldable pub measure : List ℕ → Answer ℕ
measure o = reading first_length o

-- ---- the frame

-- an accepted frame: its conversation number, the place of its message, and what that says
pub record Frame : Type 0 where
  pub conversation : ℤ
  pub from : ℕ
  pub said : Value

-- 01: "The message must be a user type." "Identifiers of 0 and more are user types."
abbrev pub is_user : Value → Bool
is_user v = non_neg v.top.ty

-- 01: "Remaining length (0 or more), conversation number, message. The length equals the octets that follow it." "In a frame: length integer, 5, then 1 or
-- 11 against the octets given, conversation, message, left over within the frame, 16, 12. All frame places count from the frame's first octet."
unfoldable pub whole_frame : Reader Frame
whole_frame = do
  p ← here
  n ← integer wide32
  require (non_neg n) 5 p
  q ← here
  l ← ahead
  require (leb (mag n) (length l)) 1 (q + length l)
  require (leb (length l) (mag n)) 11 (q + mag n)
  c ← integer wide32
  from ← here
  v ← whole_message
  require (is_user v) 16 0
  return (record { conversation = c; from = from; said = v })

unfoldable pub frame : List ℕ → Answer Frame
frame o = reading whole_frame o

-- reading a frame into so many lent rows, whose places are message places: its conversation number, the place of its message in it, and the rows
unfoldable pub read_frame : ℕ → List ℕ → Answer (ℤ × ℕ × List Row)
read_frame lent o = then (frame o) (λ f. then (within_rows lent (rows f.said)) (λ r. ok (f.conversation, f.from, r)))

-- 01: "Frame places and message places are two counts": a place of the message that starts at `from`, as a place of the frame
abbrev pub in_frame : ℕ → ℕ → ℕ
in_frame from p = from + p
