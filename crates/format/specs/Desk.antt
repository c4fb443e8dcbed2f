-- The desk program's text (01, "Exchanging a property", the whole example).
use Rattle.std.specs.Prelude.{Bool, true, false, cond, ◌&&◌, ◌||◌, List, [], ◌∷◌, ◌++◌, ℕ, zero, suc, ◌+◌, ◌-◌, ◌*◌, ◌/◌, ◌%◌, length, ltb, leb, eqb, ℤ, pos, negsuc}
use Rattle.reading.specs.Reading.{refusal, number_of}
use Rattle.format.specs.declared.Row.{Row}
use Rattle.format.specs.Message.{Answer, ok, refused, unless, is_empty, read_frame}

-- ---- the line

-- 0 to 9 and A to F
abbrev pub is_digit : ℕ → Bool
is_digit d = (leb 0x30 d && leb d 0x39) || (leb 0x41 d && leb d 0x46)

abbrev pub digit : ℕ → ℕ
digit d = cond (ltb d 0x40) (d - 0x30) (d - 0x37)

unfoldable pub every : (ℕ → Bool) → List ℕ → Bool
every test [] = true
every test (d ∷ l) = test d && every test l

abbrev pub all_digits : List ℕ → Bool
all_digits l = every is_digit l

-- 01: "A line is 2 to 8,192 upper-case digits in pairs and a line feed; any other line is 17." (Here without its line feed.)
abbrev pub is_line : List ℕ → Bool
is_line l = leb 2 (length l) && leb (length l) 8192 && eqb (length l % 2) 0 && all_digits l

unfoldable pub octets_of : List ℕ → List ℕ
octets_of [] = []
octets_of (a ∷ []) = []
octets_of (a ∷ b ∷ l) = (digit a * 16 + digit b) ∷ octets_of l

-- ---- numbers in decimal

unfoldable pub digits_by : ℕ → ℕ → List ℕ
digits_by zero n = []
digits_by (suc k) n = elim (ltb n 10) [ true ↦ (0x30 + n) ∷ [] | false ↦ digits_by k (n / 10) ++ ((0x30 + n % 10) ∷ []) ]

unfoldable pub decimal : ℤ → List ℕ
decimal (pos n) = digits_by (suc n) n
decimal (negsuc n) = 0x2D ∷ digits_by (suc (suc n)) (suc n)

-- ---- what is printed: numbers with one blank between them, and a line feed after each line

abbrev pub blank : List ℕ
blank = 0x20 ∷ []

abbrev pub feed : List ℕ
feed = 0x0A ∷ []

unfoldable pub numbers : List ℤ → List ℕ
numbers [] = feed
numbers (z ∷ l) = blank ++ (decimal z ++ numbers l)

-- 01: "then the rows, their ten numbers in the order above"
abbrev pub row_text : Row → List ℕ
row_text r =
    decimal r.ty ++ numbers (pos r.own ∷ pos r.label ∷ r.number ∷ r.first ∷ r.second ∷ pos r.place ∷ pos r.below ∷ pos r.start ∷ pos r.end ∷ [])

unfoldable pub rows_text : List Row → List ℕ
rows_text [] = []
rows_text (r ∷ rs) = row_text r ++ rows_text rs

-- 01: "An accepted frame prints `ok`, the conversation number and the count of rows, then the rows .. A refusal prints `no NUMBER PLACE`."
abbrev pub printed : Answer (ℤ × ℕ × List Row) → List ℕ
printed (ok a) = 0x6F ∷ 0x6B ∷ (numbers (a.0 ∷ pos (length a.2) ∷ []) ++ rows_text a.2)
printed (refused r) = 0x6E ∷ 0x6F ∷ numbers (pos (number_of r.reason) ∷ pos r.place ∷ [])

-- the text for a line. 01: "At most 256 rows, else 12."
unfoldable pub line_text : List ℕ → List ℕ
line_text l = printed (unless (is_line l) 17 (read_frame 256 (octets_of l)))

-- the text for all that comes in; `line` is what came since the last line feed. Octets after the last line feed are a line too, and not one with a line feed.
unfoldable pub desk_from : List ℕ → List ℕ → List ℕ
desk_from line [] = cond (is_empty line) [] (printed (refused (refusal 17 0)))
desk_from line (b ∷ l) = cond (eqb b 0x0A) (line_text line ++ desk_from [] l) (desk_from (line ++ (b ∷ [])) l)

unfoldable pub desk : List ℕ → List ℕ
desk o = desk_from [] o
