-- Values and how they are read (01, "Types and their octets"; the order of refusals is that of "Numbers given back").
use Rattle.std.specs.Prelude.{Bool, true, false, cond, not, List, [], ◌∷◌, ℕ, zero, suc, ◌*◌, ◌/◌, ◌^◌, length, ltb, leb, eqb, ℤ, pos, negsuc}
use Rattle.std.specs.Int.Signed.{mag, non_neg}
use Rattle.reading.specs.Reading.{Env, Reader, ◌>>=◌, ◌>>◌, return, refuse, require, here, names, rename, either}
use Rattle.integer.specs.Packed.{wide32, integer}
use Rattle.format.specs.Types.{Holds, nothing, values, couples, indexes, properties, one, parts, Parts, Names, silent, gives, refers, Kind, kind_of}
use Rattle.format.specs.Data.{eq_z, number, element, contents, moment}

-- ---- values

-- What a value says of itself: its type; own (01's word: 1 if its identifier stands in the octets, 0 if bare); its number; first and second element
-- type, 0 where none; the contents of a string.
pub record Head : Type 0 where
  pub ty : ℤ
  pub own : ℕ
  pub number : ℤ
  pub first : ℤ
  pub second : ℤ
  pub text : List ℕ

abbrev pub head : ℤ → ℕ → ℤ → ℤ → ℤ → List ℕ → Head
head t o n e f l = record { ty = t; own = o; number = n; first = e; second = f; text = l }

-- The values inside a value, in order: each with its label (01's word: position, pair position, index or property index), its head and the values
-- inside it; then the next ones. They have no places: where a value stands follows from the spelling of those before it.
pub data Children : Type 0 where
  empty : Children
  child : ℕ → Head → Children → Children → Children

pub record Value : Type 0 where
  pub top : Head
  pub inside : Children

abbrev pub value : Head → Children → Value
value h cs = record { top = h; inside = cs }

abbrev pub child_of : ℕ → Value → Children → Children
child_of i v next = child i v.top v.inside next

-- ---- what a container holds

-- How a value inside stands: whole, with its identifier (where `once`, it isn't an identity); or bare, of a type.
pub data Form : Type 0 where
  whole : Bool → Form
  bare : ℤ → Form

-- What a container still expects:
--   counted paired f g n i: n more values from position i on, in the form f, then g, then f again; in a map (`paired`) two by two under one label
--   rising f top low: pairs of index and value in the form f, indexes rising from low on and below top, and then -1
--   moments d: the integers of a date or time
pub data Rule : Type 0 where
  counted : Bool → Form → Form → ℕ → ℕ → Rule
  rising : Form → ℕ → ℕ → Rule
  moments : Parts → Rule

abbrev pub label : Bool → ℕ → ℕ
label paired i = cond paired (i / 2) i

-- bare of an element type where the type has one
abbrev pub formed : Bool → ℤ → Form
formed true e = bare e
formed false e = whole false

-- 01: "Collection, array: size, then values. Uniform ones: element type, size, then bare values (data with no identifier). Map: size, key and value pairs;
-- uniform keys: key type, size, bare keys and whole values; uniform map: key type, value type, size, all bare. Equal keys are allowed. Sparse array: size, then pairs of index and value, index rising and
-- below size, then -1. Uniform sparse: element type first. User type: version of 0 or more, then rising property indexes of 0 or more with values, then -1.
-- Identity: number of 0 or more, then one value, which isn't an identity." (A property index is a 32-bit integer, so below 2 ^ 31.)
abbrev pub rule_by : Kind → Holds → Head → Rule
rule_by k nothing h = counted false (whole false) (whole false) 0 0
rule_by k values h = counted false (formed k.first h.first) (formed k.first h.first) (mag h.number) 0
rule_by k couples h = counted true (formed k.first h.first) (formed k.second h.second) (2 * mag h.number) 0
rule_by k indexes h = rising (formed k.first h.first) (mag h.number) 0
rule_by k properties h = rising (whole false) (2 ^ 31) 0
rule_by k one h = counted false (whole true) (whole true) 1 0
rule_by k (parts d) h = moments d

unfoldable pub rule_of : Head → Rule
rule_of h = rule_by (kind_of h.ty) (kind_of h.ty).holds h

-- ---- identities

-- how many a message may give
abbrev pub most_identities : ℕ
most_identities = 64

unfoldable pub has : ℕ → List ℕ → Bool
has n [] = false
has n (x ∷ l) = cond (eqb x n) true (has n l)

-- what a number n makes of the identities: before the values inside, and after them
abbrev pub begun : Names → ℕ → Env → Env
begun silent n e = e
begun gives n e = record { opened = n ∷ e.opened; ended = e.ended }
begun refers n e = e

abbrev pub closed : Names → ℕ → Env → Env
closed silent n e = e
closed gives n e = record { opened = e.opened; ended = n ∷ e.ended }
closed refers n e = e

-- 01: "A number is given once per message. Reference: the number of an identity whose value has ended before it." "9 | identity given twice, a 65th, or identity of identity |
-- the number; inner identifier". "10 | reference to no ended identity | the number"
unfoldable pub allow : Names → ℕ → ℕ → Env → Reader (Unit {0})
allow silent n p e = return tt
allow gives n p e = do
  require (not (has n e.opened)) 9 p
  require (ltb (length e.opened) most_identities) 9 p
allow refers n p e = require (has n e.ended) 10 p

unfoldable pub enter : Names → ℕ → ℕ → Reader (Unit {0})
enter y n p = do
  e ← names
  allow y n p e
  rename (begun y n e)

unfoldable pub leave : Names → ℕ → Reader (Unit {0})
leave y n = do
  e ← names
  rename (closed y n e)

-- ---- reading. Below, `inner t o p` reads the data of a value of type t with own o that starts at p, one level further in.

abbrev pub Inner : Type 0
Inner = ℤ → ℕ → ℕ → Reader Value

-- in an identity (`once`) no identity
abbrev pub may : Bool → Names → Bool
may false y = true
may true silent = true
may true gives = false
may true refers = true

-- 01: "A value is a type identifier (packed integer) and its data." "At a value: identifier (1, 3), 4, identity of identity, 8, data. A bare value: 8 before
-- its data." "Start is the identifier, or the first data octet if bare."
unfoldable pub each : Inner → Form → Reader Value
each inner (whole once) = do
  p ← here
  t ← integer wide32
  require (kind_of t).carried 4 p
  require (may once (kind_of t).names) 9 p
  inner t 1 p
each inner (bare t) = do
  p ← here
  inner t 0 p

-- n values from position i on, by turns
unfoldable pub turns : Inner → Bool → Form → Form → ℕ → ℕ → Reader Children
turns inner paired f g zero i = return empty
turns inner paired f g (suc n) i = do
  v ← each inner f
  cs ← turns inner paired g f n (suc i)
  return (child_of (label paired i) v cs)

-- 01: "pairs of index and value, index rising and below size, then -1". "5 | ..; index below -1, not rising or not below size | that integer".
-- (k, one more than the indexes that can still come, never falls to 0.)
unfoldable pub pairs : Inner → Form → ℕ → ℕ → ℕ → Reader Children
pairs inner f zero top low = refuse 5 0
pairs inner f (suc k) top low = do
  p ← here
  z ← integer wide32
  either (eq_z z (negsuc 0)) (return empty) (do
    require (non_neg z) 5 p
    require (leb low (mag z)) 5 p
    require (ltb (mag z) top) 5 p
    v ← each inner f
    cs ← pairs inner f k top (suc (mag z))
    return (child_of (mag z) v cs))

-- 01: "Each integer of a date or time is a bare int32 row below it, labelled by position."
unfoldable pub pieces : ℕ → List ℤ → Children
pieces i [] = empty
pieces i (z ∷ l) = child i (head (negsuc 1) 0 z (pos 0) (pos 0) []) empty (pieces (suc i) l)

unfoldable pub children : Inner → Rule → Reader Children
children inner (counted paired f g n i) = turns inner paired f g n i
children inner (rising f top low) = pairs inner f (suc top) top low
children inner (moments d) = do
  l ← moment d
  return (pieces 0 l)

-- what stands before the values inside
unfoldable pub front : Kind → ℤ → ℕ → Reader Head
front k t o = do
  e ← element k.first
  f ← element k.second
  n ← number k.datum
  l ← contents k.text n
  return (head t o n e f l)

-- 01: "The outermost value is at level 1, a value inside one at level n is at n + 1. So under an identity too; the integers of a date or time have no level."
-- "8 | level 17 | the value's start".
abbrev pub levels : ℕ
levels = 16

-- the data of a value, with lv levels left
unfoldable pub data_of : ℕ → Inner
data_of zero t o p = refuse 8 p
data_of (suc lv) t o p = do
  q ← here
  h ← front (kind_of t) t o
  enter (kind_of t).names (mag h.number) q
  cs ← children (data_of lv) (rule_of h)
  leave (kind_of t).names (mag h.number)
  return (value h cs)

-- The outermost value.
unfoldable pub outermost : Reader Value
outermost = each (data_of levels) (whole false)
