-- Which values the format has, without reading: what a head may say and which values a container may hold (`Shaped`), how deep they may stand (`Deep`), and
-- which identities they may name (`Named`).
use Rattle.std.specs.Prelude.{◌≡◌, Bool, true, false, cond, List, [], ◌∷◌, ◌++◌, ℕ, zero, suc, ◌^◌, ◌≤◌, ◌<◌, length, ℤ, pos, negsuc}
use Rattle.std.specs.Int.Signed.{mag, non_neg, lt_z}
use Rattle.reading.specs.Reading.{Env}
use Rattle.format.specs.Types.{Datum, packed, fixed, code, amount, implied, Text, none, octets, characters, Parts, Names, silent, gives, refers, Kind, kind_of}
use Rattle.format.specs.Data.{bits, spell_char, usual, offset, fits}
use Rattle.format.specs.Values.{Head, Children, empty, child, child_of, Value, Form, whole, bare, Rule, counted, rising, moments, rule_of, label, may, pieces, has, begun, closed, levels, most_identities}

-- ---- heads

-- an integer of 32 bits
abbrev pub Int32 : ℤ → Type 0
Int32 z = mag z < 2 ^ 31

-- the numbers that a datum can say
abbrev pub Number : Datum → ℤ → Type 0
Number (packed w) z = mag z < w.bound
Number (fixed n) z = (m : ℕ) × (m < 256 ^ n) × (z ≡ bits m)
Number code z = (c : ℕ) × (c < 2 ^ 16) × (z ≡ pos c)
Number amount z = Int32 z × (non_neg z ≡ true)
Number (implied y) z = z ≡ y

abbrev pub Element : Bool → ℤ → Type 0
Element false e = e ≡ pos 0
Element true e = Int32 e × ((kind_of e).carried ≡ true) × (lt_z (negsuc 30) e ≡ true)

-- the characters with these codes, one after another
unfoldable pub spell_chars : List ℕ → List ℕ
spell_chars [] = []
spell_chars (c ∷ l) = spell_char c ++ spell_chars l

unfoldable pub Codes : List ℕ → Type 0
Codes [] = Unit {0}
Codes (c ∷ l) = (c < 2 ^ 16) × Codes l

-- the contents that a string of length n can have
abbrev pub Contents : Text → ℤ → List ℕ → Type 0
Contents none n l = l ≡ []
Contents octets n l = length l ≡ mag n
Contents characters n l = (length l ≡ mag n) × ((cs : List ℕ) × Codes cs × (l ≡ spell_chars cs))

pub record Good (k : Kind) (h : Head) : Type 0 where
  pub first_good : Element k.first h.first
  pub second_good : Element k.second h.second
  pub number_good : Number k.datum h.number
  pub text-good : Contents k.text h.number h.text

-- ---- containers

pub record Whole (once : Bool) (h : Head) : Type 0 where
  pub has_own : h.own ≡ 1
  pub ty_fits : Int32 h.ty
  pub ty_carried : (kind_of h.ty).carried ≡ true
  pub ty_may : may once (kind_of h.ty).names ≡ true

-- a value that may stand in a form
abbrev pub Formed : Form → Head → Type 0
Formed (whole once) h = Whole once h
Formed (bare t) h = (h.own ≡ 0) × (h.ty ≡ t)

abbrev pub less : ℕ → ℕ
less zero = zero
less (suc n) = n

-- what may come next under a label, what is then still expected, and whether nothing need come
abbrev pub Allows : Rule → ℕ → Head → Type 0
Allows (counted paired f g n i) j h = (0 < n) × (j ≡ label paired i) × Formed f h
Allows (rising f top low) j h = (low ≤ j) × (j < top) × Formed f h
Allows (moments d) j h = ⊥

abbrev pub next : Rule → ℕ → Rule
next (counted paired f g n i) j = counted paired g f (less n) (suc i)
next (rising f top low) j = rising f top (suc j)
next (moments d) j = moments d

abbrev pub Ends : Rule → Type 0
Ends (counted paired f g n i) = n ≡ 0
Ends (rising f top low) = Unit {0}
Ends (moments d) = ⊥

-- the integers of a date or time
unfoldable pub Ints : List ℤ → Type 0
Ints [] = Unit {0}
Ints (z ∷ l) = Int32 z × Ints l

-- an offset has two
abbrev pub offsets : Parts → List ℤ → ℕ
offsets d l = cond (offset d l) 2 0

pub record Moment (d : Parts) (cs : Children) : Type 0 where
  pub usual_parts : List ℤ
  pub offset_parts : List ℤ
  pub are_ints : Ints (usual_parts ++ offset_parts)
  pub usual_count : length usual_parts ≡ usual d
  pub offset_count : length offset_parts ≡ offsets d usual_parts
  pub in-range : fits d (usual_parts ++ offset_parts) ≡ true
  pub are_pieces : cs ≡ pieces 0 (usual_parts ++ offset_parts)

-- what a value with a rule holds: the integers of a date or time, or values that fit (X)
abbrev pub Held : Rule → Children → Type 0 → Type 0
Held (counted paired f g n i) cs X = X
Held (rising f top low) cs X = X
Held (moments d) cs X = Moment d cs

-- the values that a rule allows, each with what it holds
unfoldable pub Fits : Rule → Children → Type 0
Fits r empty = Ends r
Fits r (child i h cs more) = Allows r i h × Good (kind_of h.ty) h × Held (rule_of h) cs (Fits (rule_of h) cs) × Fits (next r i) more

pub record Shaped (v : Value) : Type 0 where
  pub good : Good (kind_of v.top.ty) v.top
  pub held : Held (rule_of v.top) v.inside (Fits (rule_of v.top) v.inside)

-- ---- levels: at most lv. 01: "the integers of a date or time have no level"

abbrev pub Leveled : Rule → Type 0 → Type 0
Leveled (counted paired f g n i) X = X
Leveled (rising f top low) X = X
Leveled (moments d) X = Unit {0}

unfoldable pub Deep : ℕ → Children → Type 0
Deep lv empty = Unit {0}
Deep zero (child i h cs more) = ⊥
Deep (suc lv) (child i h cs more) = Leveled (rule_of h) (Deep lv cs) × Deep (suc lv) more

-- ---- identities: at most 64, each number given once, and a reference's given and ended before it

abbrev pub Allowed : Names → ℕ → Env → Type 0
Allowed silent n e = Unit {0}
Allowed gives n e = (has n e.opened ≡ false) × (length e.opened < most_identities)
Allowed refers n e = has n e.ended ≡ true

abbrev pub opens : Head → Env → Env
opens h e = begun (kind_of h.ty).names (mag h.number) e

abbrev pub closes : Head → Env → Env
closes h e = closed (kind_of h.ty).names (mag h.number) e

-- the identities after such values
unfoldable pub after : Env → Children → Env
after e empty = e
after e (child i h cs more) = after (closes h (after (opens h e) cs)) more

unfoldable pub Named : Env → Children → Type 0
Named e empty = Unit {0}
Named e (child i h cs more) =
    Allowed (kind_of h.ty).names (mag h.number) e × Named (opens h e) cs × Named (closes h (after (opens h e) cs)) more

-- ---- messages

pub record Valid (v : Value) : Type 0 where
  pub outermost : Whole false v.top
  pub shaped : Shaped v
  pub deep : Deep levels (child_of 0 v empty)
  pub named : Named (record { opened = []; ended = [] }) (child_of 0 v empty)
