-- A case that asks a row, without its letter: ten numbers and a word, one blank between them (docs/STATEMENTS.md, "Cases").
use Rattle.std.specs.Prelude.{Bool, true, false, cond, ◌&&◌, List, [], ◌∷◌, ℕ, zero, suc, ◌^◌, get_or, ltb, eqb, ℤ, pos, Option, Some, None}
use Rattle.std.specs.Int.Signed.{mag}
use Rattle.format.specs.declared.Row.{Row}
use Rattle.format.specs.declared.As.{As}
use Rattle.format.specs.declared.As.TheVariants.{Int16, Int32, Int64, Octet, Char, Boolean}
use Rattle.format.specs.Asking.{ask}
use Rattle.format.specs.Message.{Answer, unless}
use Rattle.queries.specs.Numerals.{numeral_of, integer_of, is_number}

-- ---- fields

-- an octet more at the front of the first field
abbrev pub onto : ℕ → List (List ℕ) → List (List ℕ)
onto b [] = (b ∷ []) ∷ []
onto b (f ∷ fs) = (b ∷ f) ∷ fs

-- what stands before, between and after the blanks
unfoldable pub fields_of : List ℕ → List (List ℕ)
fields_of [] = [] ∷ []
fields_of (b ∷ l) = cond (eqb b 0x20) ([] ∷ fields_of l) (onto b (fields_of l))

-- the fields after so many numbers; none where those are not numbers
unfoldable pub after : ℕ → List (List ℕ) → List (List ℕ)
after zero fs = fs
after (suc k) [] = []
after (suc k) (f ∷ fs) = cond (is_number (numeral_of f)) (after k fs) []

-- ---- words

unfoldable pub same : List ℕ → List ℕ → Bool
same [] [] = true
same [] (b ∷ m) = false
same (a ∷ l) [] = false
same (a ∷ l) (b ∷ m) = eqb a b && same l m

-- "int16", "int32", "int64", "octet", "char", "boolean"
unfoldable pub word_of : List ℕ → Option As
word_of w =
    cond (same w (0x69 ∷ 0x6E ∷ 0x74 ∷ 0x31 ∷ 0x36 ∷ [])) (Some Int16)
    (cond (same w (0x69 ∷ 0x6E ∷ 0x74 ∷ 0x33 ∷ 0x32 ∷ [])) (Some Int32)
    (cond (same w (0x69 ∷ 0x6E ∷ 0x74 ∷ 0x36 ∷ 0x34 ∷ [])) (Some Int64)
    (cond (same w (0x6F ∷ 0x63 ∷ 0x74 ∷ 0x65 ∷ 0x74 ∷ [])) (Some Octet)
    (cond (same w (0x63 ∷ 0x68 ∷ 0x61 ∷ 0x72 ∷ [])) (Some Char)
    (cond (same w (0x62 ∷ 0x6F ∷ 0x6F ∷ 0x6C ∷ 0x65 ∷ 0x61 ∷ 0x6E ∷ [])) (Some Boolean) None)))))

-- the word that is the only field
abbrev pub last_word : List (List ℕ) → Option As
last_word [] = None
last_word (w ∷ []) = word_of w
last_word (w ∷ f ∷ fs) = None

-- ---- the answer

-- a row with a type and a number; asking looks at nothing else
abbrev pub row_of : ℤ → ℤ → Row
row_of t n = record { ty = t; own = 0; label = 0; number = n; first = pos 0; second = pos 0; place = 0; below = 0; start = 0; end = 0 }

-- a type that 32 bits do not hold, or a number that 64 bits do not, is that of no row: 14
unfoldable pub ask_row : As → ℤ → ℤ → Answer ℤ
ask_row a t n = unless (ltb (mag t) (2 ^ 31)) 14 (unless (ltb (mag n) (2 ^ 63)) 14 (ask a (row_of t n)))

pub data Outcome : Type 0 where
  answer : Answer ℤ → Outcome
  malformed : Outcome

abbrev pub word_outcome : Option As → ℤ → ℤ → Outcome
word_outcome (Some a) t n = answer (ask_row a t n)
word_outcome None t n = malformed

-- by its fields: the first is the row's type, the fourth its number
unfoldable pub fields_outcome : List (List ℕ) → Outcome
fields_outcome fs =
    word_outcome (last_word (after 10 fs)) (integer_of (numeral_of (get_or fs 0 []))) (integer_of (numeral_of (get_or fs 3 [])))

abbrev pub outcome : List ℕ → Outcome
outcome l = fields_outcome (fields_of l)
