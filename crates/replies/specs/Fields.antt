-- A field read into a lent slice.
use Rattle.std.specs.Prelude.{◌≡◌, Bool, cond, ◌&&◌, List, ℕ, ◌≤◌, length, get_or, take, drop, leb, eqb, Option, Some, None}
use Rattle.queries.specs.Queries.{outcome}
use Rattle.replies.specs.Cases.{some, malformed, field_of, alone, bad, query_text, octets_reply, case_reply}

-- its octets stand at the front; or it tells nothing
abbrev pub FieldRead : List ℕ → Option ℕ → List ℕ → Type 0
FieldRead field (Some n) after = (field_of field ≡ some (take n after)) × (n ≤ length after)
FieldRead field None after = field_of field ≡ malformed

-- "A" and a blank
unfoldable pub asks_row : List ℕ → Bool
asks_row l = leb 2 (length l) && eqb (get_or l 0 0) 0x41 && eqb (get_or l 1 0) 0x20

-- the answer to a case that has no field of octets: it asks a row, or it is malformed
abbrev pub plain_text : List ℕ → List ℕ
plain_text l = cond (asks_row l) (query_text (outcome (drop 2 l))) bad

-- the octets of the case's field stand at the front; or it has no such field
abbrev pub CaseRead : List ℕ → Option ℕ → List ℕ → Type 0
CaseRead line (Some n) after = (case_reply line ≡ octets_reply (get_or line 0 0) (take n after)) × (n ≤ length after) × (2 ≤ length line)
CaseRead line None after = case_reply line ≡ alone (plain_text line)
