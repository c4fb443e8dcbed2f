-- The data of the types (01, "Types and their octets"): numbers, strings, characters, dates and times.
use Rattle.std.specs.Prelude.{Bool, true, false, cond, ◌&&◌, ◌||◌, not, List, [], ◌∷◌, ◌++◌, ℕ, zero, suc, ◌+◌, ◌*◌, ◌-◌, ◌/◌, ◌%◌, ◌^◌, get_or, take, drop, ltb, leb, eqb, ℤ, pos, negsuc}
use Rattle.std.specs.Int.Signed.{mag, le_z, lt_z, non_neg}
use Rattle.reading.specs.Reading.{Reader, ◌>>=◌, ◌>>◌, return, require, octet, here, either}
use Rattle.integer.specs.Packed.{wide32, integer, spell_int}
use Rattle.format.specs.Types.{Datum, packed, fixed, code, amount, implied, Text, none, octets, characters, Parts, date, time, dateTime, kind_of}

-- ---- tests

abbrev pub within : ℤ → ℤ → ℤ → Bool
within low high z = le_z low z && le_z z high

abbrev pub eq_z : ℤ → ℤ → Bool
eq_z a b = le_z a b && le_z b a

unfoldable pub eq_list : {A : Type 0} → (A → A → Bool) → List A → List A → Bool
eq_list t [] [] = true
eq_list t [] (y ∷ m) = false
eq_list t (x ∷ l) [] = false
eq_list t (x ∷ l) (y ∷ m) = t x y && eq_list t l m

-- ---- octets

-- the next n octets
unfoldable pub run : ℕ → Reader (List ℕ)
run zero = return []
run (suc n) = do
  b ← octet
  l ← run n
  return (b ∷ l)

-- 01: "float32, float64: 4 or 8 octets, most significant first."
unfoldable pub big : ℕ → List ℕ → ℕ
big n [] = n
big n (b ∷ l) = big (n * 256 + b) l

-- 01: "float bits (float64's as signed 64-bit)". (Those of fewer octets are below 2 ^ 63.)
abbrev pub bits : ℕ → ℤ
bits n = cond (ltb n (2 ^ 63)) (pos n) (negsuc (2 ^ 64 - 1 - n))

-- the n octets of a number, most significant first
unfoldable pub big_spelt : ℕ → ℕ → List ℕ
big_spelt zero n = []
big_spelt (suc k) n = (n / 256 ^ k % 256) ∷ big_spelt k n

abbrev pub unsigned : ℤ → ℕ
unsigned (pos n) = n
unsigned (negsuc n) = 2 ^ 64 - 1 - n

-- ---- characters

-- 01: "Char: 16-bit code c, spelt as 002's example E-3 writes it and no other way: 1 to 0x7F in one octet; 0 and 0x80 to 0x7FF in two; the
-- others in three."
unfoldable pub spell_char : ℕ → List ℕ
spell_char c =
    cond (leb 1 c && leb c 0x7F) (c ∷ [])
    (cond (leb c 0x7FF) ((0xC0 + c / 64 % 32) ∷ (0x80 + c % 64) ∷ [])
    ((0xE0 + c / 4096 % 16) ∷ (0x80 + c / 64 % 64) ∷ (0x80 + c % 64) ∷ []))

-- the octets that follow a character's first
abbrev pub followers : ℕ → ℕ
followers a = cond (ltb a 0x80) 0 (cond (ltb a 0xE0) 1 2)

-- the code that a character's octets say (002, example E-4)
abbrev pub code_of : List ℕ → ℕ
code_of [] = 0
code_of (a ∷ []) = a
code_of (a ∷ b ∷ []) = a % 32 * 64 + b % 64
code_of (a ∷ b ∷ c ∷ l) = a % 16 * 4096 + b % 64 * 64 + c % 64

-- "and no other way": so a misspelt character, or one that is cut, is not its code's spelling
unfoldable pub is_char : List ℕ → Bool
is_char l = eq_list eqb l (spell_char (code_of l))

-- 01: "A char alone: 6 for a first octet outside 01..7F and C0..EF, then 1, then 6." "6 | character misspelt or cut by its string's end | its first octet"
unfoldable pub character : Reader ℕ
character = do
  p ← here
  a ← octet
  require ((leb 0x01 a && leb a 0x7F) || (leb 0xC0 a && leb a 0xEF)) 6 p
  l ← run (followers a)
  require (is_char (a ∷ l)) 6 p
  return (code_of (a ∷ l))

-- the characters of a string's contents, which stand at p; k octets of the character before come first
unfoldable pub chars : ℕ → ℕ → List ℕ → Reader (Unit {0})
chars k p [] = return tt
chars (suc k) p (a ∷ l) = chars k (p + 1) l
chars zero p (a ∷ l) = do
  require (is_char (take (1 + followers a) (a ∷ l))) 6 p
  chars (followers a) (p + 1) l

-- 01: "Octet string: length, then octets. Char string: length in octets, then characters." "A string: length, then 1 for contents, then 6."
unfoldable pub contents : Text → ℤ → Reader (List ℕ)
contents none n = return []
contents octets n = run (mag n)
contents characters n = do
  p ← here
  l ← run (mag n)
  chars 0 p l
  return l

-- ---- numbers

-- 01: "int16, int32, int64: one integer. float32, float64: 4 or 8 octets, most significant first. Boolean: one integer, kept as sent. Octet: one octet."
-- "5 | negative size, length, version, identity or reference number; .. | that integer"
unfoldable pub number : Datum → Reader ℤ
number (packed w) = integer w
number (fixed n) = do
  l ← run n
  return (bits (big 0 l))
number code = do
  c ← character
  return (pos c)
number amount = do
  p ← here
  z ← integer wide32
  require (non_neg z) 5 p
  return z
number (implied z) = return z

unfoldable pub spell_number : Datum → ℤ → List ℕ
spell_number (packed w) z = spell_int z
spell_number (fixed n) z = big_spelt n (unsigned z)
spell_number code z = spell_char (mag z)
spell_number amount z = spell_int z
spell_number (implied y) z = []

-- 01: "An element, key or value type of a uniform form may be any carried type above -31". "4 | type unknown, not carried, not allowed here | the identifier"
unfoldable pub element : Bool → Reader ℤ
element false = return (pos 0)
element true = do
  p ← here
  e ← integer wide32
  require (kind_of e).carried 4 p
  require (lt_z (negsuc 30) e) 4 p
  return e

unfoldable pub spell_element : Bool → ℤ → List ℕ
spell_element false e = []
spell_element true e = spell_int e

-- ---- dates and times

-- n integers
unfoldable pub integers : ℕ → Reader (List ℤ)
integers zero = return []
integers (suc n) = do
  z ← integer wide32
  l ← integers n
  return (z ∷ l)

-- the integer at a position, 0 where there is none
abbrev pub part : ℕ → List ℤ → ℤ
part i l = get_or l i (pos 0)

-- a date's are year, month, day; a time's hour, minute, second, fraction, zone. 01: "Date-time: the date's integers, then the time's."
abbrev pub usual : Parts → ℕ
usual date = 3
usual time = 5
usual dateTime = 8

-- 01: "Zone 2 is followed by offset hours .. and offset minutes"
abbrev pub offset : Parts → List ℤ → Bool
offset date l = false
offset time l = eq_z (part 4 l) (pos 2)
offset dateTime l = eq_z (part 7 l) (pos 2)

-- 01: "day as the Gregorian leap rule gives it, carried back to year 0 (a leap year)"
abbrev pub leap : ℕ → Bool
leap y = (eqb (y % 4) 0 && not (eqb (y % 100) 0)) || eqb (y % 400) 0

abbrev pub days : ℕ → ℕ → ℕ
days y m = cond (eqb m 2) (cond (leap y) 29 28) (cond (eqb m 4 || eqb m 6 || eqb m 9 || eqb m 11) 30 31)

-- 01: "Date: year 0..9999, month 1..12"
abbrev pub date_fits : List ℤ → Bool
date_fits l =
    within (pos 0) (pos 9999) (part 0 l) && within (pos 1) (pos 12) (part 1 l)
    && within (pos 1) (pos (days (mag (part 0 l)) (mag (part 1 l)))) (part 2 l)

-- 01: "Time: hour 0..23, minute and second 0..59, fraction (0, or 1..999 milliseconds, or -1..-999,999,999 negated nanoseconds), zone 0, 1 or 2.
-- Zone 2 is followed by offset hours -18..18 and offset minutes 0..59." (An offset that is not there counts as 0.)
abbrev pub time_fits : List ℤ → Bool
time_fits l =
    within (pos 0) (pos 23) (part 0 l) && within (pos 0) (pos 59) (part 1 l) && within (pos 0) (pos 59) (part 2 l)
    && within (negsuc 999999998) (pos 999) (part 3 l) && within (pos 0) (pos 2) (part 4 l)
    && within (negsuc 17) (pos 18) (part 5 l) && within (pos 0) (pos 59) (part 6 l)

unfoldable pub fits : Parts → List ℤ → Bool
fits date l = date_fits l
fits time l = time_fits l
fits dateTime l = date_fits l && time_fits (drop 3 l)

-- 01: "A date's integers are all read before 7, but a zone outside 0..2 is 7 at once." (No offset follows such a zone, so all are read then.)
-- "7 | date or time outside its ranges | its first data octet"
unfoldable pub moment : Parts → Reader (List ℤ)
moment d = do
  p ← here
  l ← integers (usual d)
  o ← either (offset d l) (integers 2) (return [])
  require (fits d (l ++ o)) 7 p
  return (l ++ o)
