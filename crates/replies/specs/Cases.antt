-- Cases and the lines that answer them (docs/STATEMENTS.md, "Cases").
use Rattle.std.specs.Prelude.{Bool, cond, ◌&&◌, List, [], ◌∷◌, ◌++◌, map, ℕ, ◌-◌, ◌%◌, length, get_or, take, drop, ltb, leb, eqb, ℤ, pos}
use Rattle.reading.specs.declared.Refusal.{Refusal}
use Rattle.reading.specs.Reading.{refusal, number_of}
use Rattle.format.specs.declared.Row.{Row}
use Rattle.format.specs.Desk.{all_digits, octets_of, feed, printed, line_text}
use Rattle.format.specs.Message.{Answer, ok, refused, measure, read_message, read_frame}
use Rattle.text.specs.Text.{spaced, others}
use Rattle.queries.specs.Queries as queries
use Rattle.queries.specs.Queries.{Outcome, outcome}

-- ---- answers

-- " | " and a row's ten numbers
abbrev pub row_part : Row → List ℕ
row_part r = 0x20 ∷ 0x7C ∷ spaced (r.ty ∷ others r)

unfoldable pub row_parts : List Row → List ℕ
row_parts [] = []
row_parts (r ∷ rs) = row_part r ++ row_parts rs

-- what an answer begins with, and its rows
pub record Reply : Type 0 where
  pub head : List ℕ
  pub rows : List Row

abbrev pub alone : List ℕ → Reply
alone v = record { head = v; rows = [] }

-- "bad": the case is malformed, or of no kind that is answered
abbrev pub bad : List ℕ
bad = 0x62 ∷ 0x61 ∷ 0x64 ∷ []

-- "ok" and numbers
abbrev pub accepted : List ℤ → List ℕ
accepted zs = 0x6F ∷ 0x6B ∷ spaced zs

-- "no NUMBER PLACE 1"
abbrev pub no_at : ℕ → ℕ → List ℕ
no_at n p = 0x6E ∷ 0x6F ∷ spaced (pos n ∷ pos p ∷ pos 1 ∷ [])

abbrev pub refused_by : Refusal → List ℕ
refused_by r = no_at (number_of r.reason) r.place

abbrev pub reply : {A : Type 0} → (A → Reply) → Answer A → Reply
reply f (ok a) = f a
reply f (refused r) = alone (refused_by r)

-- "ok LENGTH"
abbrev pub measured : ℕ → Reply
measured n = alone (accepted (pos n ∷ []))

-- "ok VALUE"
abbrev pub valued : ℤ → Reply
valued z = alone (accepted (z ∷ []))

-- "ok ROWS" and the rows
abbrev pub message_rows : List Row → Reply
message_rows rs = record { head = accepted (pos (length rs) ∷ []); rows = rs }

-- "ok CONVERSATION ROWS" and the rows
abbrev pub frame_rows : ℤ × ℕ × List Row → Reply
frame_rows a = record { head = accepted (a.0 ∷ pos (length a.2) ∷ []); rows = a.2 }

-- ---- the desk

-- "/" for a line feed
abbrev pub slash : ℕ → ℕ
slash b = cond (eqb b 0x0A) 0x2F b

-- what the desk prints for octets that are a line with its line feed; all else is 17
abbrev pub desk_text : List ℕ → List ℕ
desk_text o =
    cond (eqb (get_or o (length o - 1) 0) 0x0A) (line_text (take (length o - 1) o)) (printed (refused (refusal 17 0)))

-- ---- a row that is asked

abbrev pub query_text : Outcome → List ℕ
query_text (queries.answer a) = (reply valued a).head
query_text queries.malformed = bad

-- ---- cases

-- what a field of a case tells: octets, or nothing
pub data Field : Type 0 where
  some : List ℕ → Field
  malformed : Field

-- "-"
abbrev pub is_none : List ℕ → Bool
is_none l = eqb (length l) 1 && eqb (get_or l 0 0) 0x2D

-- upper-case digits in pairs
abbrev pub is_pairs : List ℕ → Bool
is_pairs l = leb 2 (length l) && eqb (length l % 2) 0 && all_digits l

unfoldable pub field_of : List ℕ → Field
field_of l = cond (is_none l) (some []) (cond (is_pairs l) (some (octets_of l)) malformed)

-- 01: "a reading may use as many rows as the shortest column has"; no message has more than these
abbrev pub lent : ℕ
lent = 98304

-- a case with a field of octets, by its kind: "L", "D"
unfoldable pub alone_text : ℕ → List ℕ → List ℕ
alone_text k o = cond (eqb k 0x4C) (reply measured (measure o)).head (cond (eqb k 0x44) (map slash (desk_text o)) bad)

-- "M", "F"
unfoldable pub octets_reply : ℕ → List ℕ → Reply
octets_reply k o =
    cond (eqb k 0x4D) (reply message_rows (read_message lent o)) (cond (eqb k 0x46) (reply frame_rows (read_frame lent o)) (alone (alone_text k o)))

abbrev pub field_reply : ℕ → Field → Reply
field_reply k (some o) = octets_reply k o
field_reply k malformed = alone bad

-- "A" asks a row; the others have a field of octets
abbrev pub kind_reply : ℕ → List ℕ → Reply
kind_reply k l = cond (eqb k 0x41) (alone (query_text (outcome l))) (field_reply k (field_of l))

-- a letter, a blank, and what follows
abbrev pub case_reply : List ℕ → Reply
case_reply l = cond (ltb (length l) 2) (alone bad) (cond (eqb (get_or l 1 0) 0x20) (kind_reply (get_or l 0 0) (drop 2 l)) (alone bad))

-- the line that answers a case
abbrev pub case_text : List ℕ → List ℕ
case_text l = (case_reply l).head ++ (row_parts (case_reply l).rows ++ feed)
