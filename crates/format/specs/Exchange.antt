-- Exchanging a property in a frame (01, "Exchanging a property").
use Rattle.std.specs.Prelude.{Bool, true, false, cond, List, ◌++◌, ℕ, length, leb, ℤ, pos}
use Rattle.reading.specs.declared.Refusal.{Refusal}
use Rattle.reading.specs.Reading.{refusal}
use Rattle.integer.specs.Packed.{spell_int}
use Rattle.format.specs.Data.{eq_z}
use Rattle.format.specs.Values.{Children, empty, child, child_of, Value, value}
use Rattle.format.specs.Spelling.{spell}
use Rattle.format.specs.Message.{Answer, ok, refused, message, frame}

-- ---- the exchanged message

-- whether a value inside has label i
unfoldable pub labelled : ℤ → Children → Bool
labelled i empty = false
labelled i (child j h cs more) = cond (eq_z (pos j) i) true (labelled i more)

-- 01: "Property i's rows are the message's row at level 2 with label i and all rows below it". "Exchanged: the replacement's rows stand in their place, the
-- replacement's outermost row takes the property's label, and the message row's count of rows below follows. Each row keeps the contents it had in its
-- own message." (Rows and their counts are those of the tree, and a head holds its contents.)
unfoldable pub swap : ℤ → Value → Children → Children
swap i w empty = empty
swap i w (child j h cs more) = cond (eq_z (pos j) i) (child_of j w more) (child j h cs (swap i w more))

unfoldable pub exchanged : ℤ → Value → Value → Value
exchanged i w v = value v.top (swap i w v.inside)

-- 01: "Written afresh: the length renewed (it may grow or shrink), the conversation number, then the exchanged rows spelt by the types' rules above, accepted
-- or not."
abbrev pub afresh : ℤ → Value → List ℕ
afresh c v = let rest = spell_int c ++ spell v in spell_int (pos (length rest)) ++ rest

-- ---- the exchange

-- the new frame, or a refusal and its input: 01: "1 message, frame or rows, 2 replacement, 3 exchanged result; 12 to 17 name 1"
pub data Exchanged : Type 0 where
  renewed : List ℕ → Exchanged
  fault : ℕ → Refusal → Exchanged

abbrev pub given : {A : Type 0} → ℕ → Answer A → (A → Exchanged) → Exchanged
given n (ok a) f = f a
given n (refused r) f = fault n r

abbrev pub demand : Bool → ℕ → Exchanged → Exchanged
demand true n x = x
demand false n x = fault 1 (refusal n 0)

-- 01: "Inputs in order: frame, replacement (a message on its own), property index (16), then the result under the rules above, then 13." "13 | output shorter
-- than the result | 0". "The exchange lends no rows and never gives 12."
unfoldable pub exchange : List ℕ → List ℕ → ℤ → ℕ → Exchanged
exchange f r i room =
    given 1 (frame f) λ old.
    given 2 (message r) λ w.
    demand (labelled i old.said.inside) 16
    (let new = afresh old.conversation (exchanged i w old.said) in
    given 3 (frame new) λ _.
    demand (leb (length new) room) 13
    (renewed new))
