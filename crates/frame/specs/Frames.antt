-- What is given of a frame: up to its message, of its message, and of the whole.
use Rattle.std.specs.Prelude.{◌≡◌, Bool, Result, Ok, Err, List, ℕ, ◌≤◌, length, ℤ}
use Rattle.std.specs.Int.Signed.{non_neg}
use Rattle.reading.specs.declared.Refusal.{Refusal}
use Rattle.reading.specs.Reading.{State, Out, got, stop, Reader, stand, ◌>>=◌, ◌>>◌, return, require}
use Rattle.integer.specs.Packed.{wide32, integer}
use Rattle.format.specs.Rows.{rows}
use Rattle.format.specs.Message.{Answer, ok, refused, then, answer, Frame, is_user, whole_message, whole_frame, frame, read_frame}
use Rattle.format.specs.Writing.{Table}
use Rattle.format.specs.declared.Row.{Row}
use Rattle.measure.specs.Entries.{none}
use Rattle.columns.specs.Columns.{shortest}
use Rattle.message.specs.Messages.{Holds}
use Rattle.frame.specs.declared.FramePlace.{FramePlace}
use Rattle.frame.specs.declared.Frame.{Frame as Framed}

-- a frame from its message on
unfoldable pub message_in : ℕ → ℤ → Reader Frame
message_in from c = do
  v ← whole_message
  require (is_user v) 16 0
  return (record { conversation = c; from = from; said = v })

abbrev pub opened_out : List ℕ → Result (FramePlace × ℤ) Refusal → Out Frame
opened_out o (Ok (from, c)) = message_in from.0 c (stand o from.0 none)
opened_out o (Err r) = stop r

abbrev pub PastOpened : List ℕ → Result (FramePlace × ℤ) Refusal → Type 0
PastOpened o (Ok (from, c)) = from.0 ≤ length o
PastOpened o (Err r) = Unit {0}

pub record OpenedBy (o : List ℕ) (r : Result (FramePlace × ℤ) Refusal) : Type 0 where
  pub same : opened_out o r ≡ whole_frame (stand o 0 none)
  pub past : PastOpened o r

-- the conversation number at a place
abbrev pub conversation_out : List ℕ → Result (FramePlace × ℤ) Refusal → Out ℤ
conversation_out o (Ok (from, c)) = got c (stand o from.0 none)
conversation_out o (Err r) = stop r

pub record Conversation (o : List ℕ) (at : ℕ) (r : Result (FramePlace × ℤ) Refusal) : Type 0 where
  pub same : conversation_out o r ≡ integer wide32 (stand o at none)
  pub past : PastOpened o r

-- whether the integer at a place is 0 or more, where there is one
pub record UserAt (o : List ℕ) (at : ℕ) (r : Bool) : Type 0 where
  pub user : (z : ℤ) (s : State) → integer wide32 (stand o at none) ≡ got z s → r ≡ non_neg z

abbrev pub answer_of : Result Framed Refusal → Answer (ℤ × ℕ × ℕ)
answer_of (Ok f) = ok (f.conversation, f.message.0, f.rows)
answer_of (Err r) = refused r

-- what an accepted frame needs
abbrev pub needed : Frame → Answer (ℤ × ℕ × ℕ)
needed f = ok (f.conversation, f.from, length (rows f.said))

pub record MessageIn (o : List ℕ) (from : FramePlace) (c : ℤ) (r : Result Framed Refusal) : Type 0 where
  pub same : answer_of r ≡ then (answer (message_in from.0 c (stand o from.0 none))) needed

-- checking a frame: its conversation number, the place of its message, and how many rows that has
unfoldable pub needs : List ℕ → Answer (ℤ × ℕ × ℕ)
needs o = then (frame o) needed

-- ---- reading a frame into ten lent columns

-- of what a reading gives: the count of rows instead of them, and the rows alone
abbrev pub told : ℤ × ℕ × List Row → Answer (ℤ × ℕ × ℕ)
told a = ok (a.0, a.1, length a.2)

abbrev pub rows_of : ℤ × ℕ × List Row → Answer (List Row)
rows_of a = ok a.2

pub record FrameRead (o : List ℕ) (t : Table) (r : Result Framed Refusal) (t' : Table) : Type 0 where
  pub says : answer_of r ≡ then (read_frame (shortest t) o) told
  pub holds : Holds (then (read_frame (shortest t) o) rows_of) t t'
