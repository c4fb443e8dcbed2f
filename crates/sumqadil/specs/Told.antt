-- What a caller from outside is told of an answer, in plain numbers.
use Rattle.std.specs.Prelude.{◌≡◌, Bool, true, cond, ◌&&◌, ◌||◌, List, ℕ, leb, eqb, ℤ, pos}
use Rattle.reading.specs.Reading.{number_of}
use Rattle.format.specs.declared.Row.{Row}
use Rattle.format.specs.declared.As.TheVariants.{Int16, Int32, Int64, Octet, Char, Boolean}
use Rattle.format.specs.Message.{Answer, ok, refused, then, read_message, read_frame}
use Rattle.format.specs.Writing.{Table}
use Rattle.format.specs.Asking.{ask, cannot}
use Rattle.columns.specs.Columns.{shortest}
use Rattle.message.specs.Messages.{Holds, counted}
use Rattle.frame.specs.Frames.{rows_of}
use Rattle.frame.specs.Frames as frame

-- 0 for a result, else the refusal's number
abbrev pub status : {A : Type 0} → Answer A → ℕ
status (ok a) = 0
status (refused r) = number_of r.reason

-- the refusal's place, 0 for a result
abbrev pub fault : {A : Type 0} → Answer A → ℕ
fault (ok a) = 0
fault (refused r) = r.place

-- the result, and what stands for one where there is a refusal
abbrev pub result : {A : Type 0} → A → Answer A → A
result other (ok a) = a
result other (refused r) = other

-- which numbers refusals have: 1 to some number; so, or 16; of a row, 14 and 15
abbrev pub up_to : ℕ → ℕ → Bool
up_to top n = leb 1 n && leb n top

abbrev pub up_to_or16 : ℕ → ℕ → Bool
up_to_or16 top n = up_to top n || eqb n 16

abbrev pub of_row : ℕ → Bool
of_row n = eqb n 14 || eqb n 15

-- an answer's refusal has one of these numbers
abbrev pub Numbered : {A : Type 0} → (ℕ → Bool) → Answer A → Type 0
Numbered among (ok a) = Unit {0}
Numbered among (refused r) = among (number_of r.reason) ≡ true

-- a count or a refusal, told by a number that is given back and two that are lent
pub record Counted (a : Answer ℕ) (given count place : ℕ) : Type 0 where
  pub given_is : given ≡ status a
  pub count_is : count ≡ result 0 a
  pub place_is : place ≡ fault a

-- a message read into lent columns: the answer, told by how many rows there are, and what the columns hold
pub record MessageTold (o : List ℕ) (t : Table) (given rows place : ℕ) (t' : Table) : Type 0 where
  pub told : Counted (then (read_message (shortest t) o) counted) given rows place
  pub holds : Holds (read_message (shortest t) o) t t'

-- of a frame, its conversation number, the place of its message and how many rows that has, or a refusal: told by a number that is given back and
-- four that are lent
pub record Opened (a : Answer (ℤ × ℕ × ℕ)) (given rows : ℕ) (conversation : ℤ) (from place : ℕ) : Type 0 where
  pub given_is : given ≡ status a
  pub rows_is : rows ≡ (result (pos 0, 0, 0) a).2
  pub conversation_is : conversation ≡ (result (pos 0, 0, 0) a).0
  pub from_is : from ≡ (result (pos 0, 0, 0) a).1
  pub place_is : place ≡ fault a

-- a frame read into lent columns
pub record FrameTold (o : List ℕ) (t : Table) (given rows : ℕ) (conversation : ℤ) (from place : ℕ) (t' : Table) : Type 0 where
  pub told : Opened (then (read_frame (shortest t) o) frame.told) given rows conversation from place
  pub holds : Holds (then (read_frame (shortest t) o) rows_of) t t'

-- a row's value or a refusal, told by a number that is given back and one that is lent
pub record Valued (a : Answer ℤ) (given : ℕ) (value : ℤ) : Type 0 where
  pub given_is : given ≡ status a
  pub value-is : value ≡ result (pos 0) a

-- asking by the number of a type: 0 to 5 in the order of `As`, and 15 for all others
abbrev pub ask_by : ℕ → Row → Answer ℤ
ask_by n r =
    cond (eqb n 0) (ask Int16 r) (cond (eqb n 1) (ask Int32 r) (cond (eqb n 2) (ask Int64 r) (cond (eqb n 3) (ask Octet r) (cond (eqb n 4) (ask Char r) (cond (eqb n 5) (ask Boolean r) cannot)))))

-- the answer of every row with this type and this number, whatever else it says
abbrev pub AskedBy : ℕ → ℤ → ℤ → ℕ → ℤ → Type 0
AskedBy n ty number given value = (r : Row) → r.ty ≡ ty → r.number ≡ number → Valued (ask_by n r) given value
