-- The types (01, "Types and their octets"; 002, tables E-4 and E-5): one decision on the type identifier, and a table of small attributes.
use Rattle.std.specs.Prelude.{Bool, true, false, cond, List, [], ◌∷◌, ℕ, get_or, ltb, ℤ, pos, negsuc, ◌-ℤ◌}
use Rattle.integer.specs.Packed.{Width, wide16, wide32, wide64}

-- How a type's number stands in the octets.
pub data Datum : Type 0 where
  packed : Width → Datum  -- one integer of a width
  fixed : ℕ → Datum  -- so many octets, most significant first
  code : Datum  -- a character
  amount : Datum  -- an integer of 0 or more: length, size, version, identity or reference number
  implied : ℤ → Datum  -- it does not: the number is this one

-- The string contents that follow the number, which is their length in octets.
pub data Text : Type 0 where
  none octets characters : Text

-- The integers of a date or time.
pub data Parts : Type 0 where
  date time dateTime : Parts

-- The values inside.
pub data Holds : Type 0 where
  nothing : Holds
  values : Holds  -- as many as the number says
  couples : Holds  -- as many keys, each with its value
  indexes : Holds  -- pairs of index and value, each index below the number, then -1
  properties : Holds  -- pairs of property index and value, then -1
  one : Holds  -- the value of an identity
  parts : Parts → Holds  -- the integers of a date or time

-- Whether the number names an identity, or refers to one.
pub data Names : Type 0 where
  silent gives refers : Names

-- What a row of the type is when it is asked for its value.
pub data Sort : Type 0 where
  integral octet char boolean null other : Sort

pub record Kind : Type 0 where
  pub carried : Bool
  pub first : Bool  -- an element type (a map's key type) stands first in the data
  pub second : Bool  -- and then a second one
  pub datum : Datum
  pub text : Text
  pub holds : Holds
  pub names : Names
  pub sort : Sort

abbrev pub scalar : Datum → Sort → Kind
scalar d s = record { carried = true; first = false; second = false; datum = d; text = none; holds = nothing; names = silent; sort = s }

abbrev pub string : Text → Kind
string t = record { carried = true; first = false; second = false; datum = amount; text = t; holds = nothing; names = silent; sort = other }

abbrev pub dated : Parts → Kind
dated p = record { carried = true; first = false; second = false; datum = implied (pos 0); text = none; holds = parts p; names = silent; sort = other }

-- with one element type, two or none
abbrev pub container : Bool → Bool → Holds → Names → Kind
container f s h y = record { carried = true; first = f; second = s; datum = amount; text = none; holds = h; names = y; sort = other }

abbrev pub uncarried : Kind
uncarried = record { carried = false; first = false; second = false; datum = implied (pos 0); text = none; holds = nothing; names = silent; sort = other }

-- 01: "-1 to -32 follow 002's table E-4." "Types int128, float128, all decimals (-4, -7, -8, -9, -10) and the three intervals (-17, -19, -21)
-- are refused as not carried." "-33 to -64 are a type and a value in one: false, true, empty string, empty collection, null, +infinity,
-- -infinity, NaN, then integers". The number of these: "0 for -35 to -40; 0 and 1 for -33 and -34".
abbrev pub table : List Kind
table =
    scalar (packed wide16) integral  -- -1 int16
    ∷ scalar (packed wide32) integral  -- -2 int32
    ∷ scalar (packed wide64) integral  -- -3 int64
    ∷ uncarried  -- -4 int128
    ∷ scalar (fixed 4) other  -- -5 float32
    ∷ scalar (fixed 8) other  -- -6 float64
    ∷ uncarried  -- -7 float128
    ∷ uncarried  -- -8 decimal32
    ∷ uncarried  -- -9 decimal64
    ∷ uncarried  -- -10 decimal128
    ∷ scalar (packed wide32) boolean  -- -11 boolean
    ∷ scalar (fixed 1) octet  -- -12 octet
    ∷ string octets  -- -13 octet string
    ∷ scalar code char  -- -14 char
    ∷ string characters  -- -15 char string
    ∷ dated date  -- -16 date
    ∷ uncarried  -- -17 year-month interval
    ∷ dated time  -- -18 time
    ∷ uncarried  -- -19 time interval
    ∷ dated dateTime  -- -20 date-time
    ∷ uncarried  -- -21 day-time interval
    ∷ container false false values silent  -- -22 collection
    ∷ container true false values silent  -- -23 uniform collection
    ∷ container false false values silent  -- -24 array
    ∷ container true false values silent  -- -25 uniform array
    ∷ container false false indexes silent  -- -26 sparse array
    ∷ container true false indexes silent  -- -27 uniform sparse array
    ∷ container false false couples silent  -- -28 map
    ∷ container true false couples silent  -- -29 map with uniform keys
    ∷ container true true couples silent  -- -30 uniform map
    ∷ container false false one gives  -- -31 identity
    ∷ container false false nothing refers  -- -32 reference
    ∷ scalar (implied (pos 0)) boolean  -- -33 false
    ∷ scalar (implied (pos 1)) boolean  -- -34 true
    ∷ scalar (implied (pos 0)) other  -- -35 empty string
    ∷ scalar (implied (pos 0)) other  -- -36 empty collection
    ∷ scalar (implied (pos 0)) null  -- -37 null
    ∷ scalar (implied (pos 0)) other  -- -38 +infinity
    ∷ scalar (implied (pos 0)) other  -- -39 -infinity
    ∷ scalar (implied (pos 0)) other  -- -40 NaN
    ∷ []

-- 01: "Identifiers of 0 and more are user types." "then integers -1 to 22, the integer being -42 - identifier. Below -64 nothing is known."
unfoldable pub kind_of : ℤ → Kind
kind_of (pos n) = container false false properties silent
kind_of (negsuc n) =
    cond (ltb n 40) (get_or table n uncarried)
    (cond (ltb n 64) (scalar (implied (negsuc 41 -ℤ negsuc n)) integral) uncarried)
