-- What the statements of the laws say, where the format's definitions have no word for it.
use Rattle.std.specs.Prelude.{◌≡◌, List, [], ◌∷◌, ◌++◌, map, Bool, true, false, ℕ, zero, suc, ◌+◌, ◌^◌, ◌≤◌, ◌<◌, max, length, take, drop, ℤ, pos}
use Rattle.std.specs.Int.Signed.{mag}
use Rattle.reading.specs.Reading.{Env}
use Rattle.reading.proofs.Sound.{Octets}
use Rattle.integer.specs.Packed.{spell_int}
use Rattle.format.specs.declared.Row.{Row}
use Rattle.format.specs.Types.{Holds, nothing, values, couples, indexes, properties, one, parts, Names, silent, gives, refers, kind_of}
use Rattle.format.specs.Values.{Children, empty, child, child_of, Value, Rule, counted, rising, moments, rule_of}
use Rattle.format.specs.Spelling.{spell}
use Rattle.format.specs.Rows.{has_contents, rows}
use Rattle.format.specs.Message.{ok, message, Frame, is_user, frame}
use Rattle.format.specs.Writing.{Seen, seen, HasRows, spell_rows, Table, tabled}
use Rattle.format.specs.Exchange.{labelled, exchanged, afresh}
use Rattle.format.specs.Grammar.{Int32, Valid}

-- ---- levels

-- 01: "the integers of a date or time have no level"
abbrev pub leveled : Rule → ℕ → ℕ
leveled (counted paired f g n i) k = k
leveled (rising f top low) k = k
leveled (moments d) k = 0

-- 01: "a value inside one at level n is at n + 1": how many levels values take
unfoldable pub levels_in : Children → ℕ
levels_in empty = 0
levels_in (child i h cs more) = max (suc (leveled (rule_of h) (levels_in cs))) (levels_in more)

-- 01: "The outermost value is at level 1"
abbrev pub levels_of : Value → ℕ
levels_of v = levels_in (child_of 0 v empty)

-- no identity given
abbrev pub fresh : Env
fresh = record { opened = []; ended = [] }

-- ---- measuring

-- a front part of n octets that is an accepted message
pub record FrontPart (o : List ℕ) (n : ℕ) : Type 0 where
  pub part : List ℕ
  pub rest : List ℕ
  pub said : Value
  pub split : o ≡ part ++ rest
  pub accepted : message part ≡ ok said
  pub long : length part ≡ n

-- ---- frames

-- the place of the message in a frame that is written afresh
abbrev pub message_place : ℤ → Value → ℕ
message_place c v = length (spell_int (pos (length (spell_int c ++ spell v)))) + length (spell_int c)

-- a frame of a valid message: its length, its conversation number and the message are all of it
pub record Framed (f : List ℕ) (old : Frame) : Type 0 where
  pub short : length f ≤ 65535
  pub conversation_fits : Int32 old.conversation
  pub valid : Valid old.said
  pub user : is_user old.said ≡ true
  pub spelt : afresh old.conversation old.said ≡ f
  pub from_is : old.from ≡ message_place old.conversation old.said

-- ---- writing

-- the rows of a table
abbrev pub rows_in : Table → List Row
rows_in t = tabled t 0 (length t.ty)

-- no accepted octets have the rows, with the contents that they point at in c
abbrev pub NoneHave : List ℕ → List Row → Type 0
NoneHave c rs = (o : List ℕ) → Octets o → HasRows c rs o → ⊥

-- string contents lie in c; a row without has the place 0
abbrev pub Lying : Bool → List ℕ → Row → Type 0
Lying true c r = r.place + mag r.number ≤ length c
Lying false c r = r.place ≡ 0

unfoldable pub AllLie : List ℕ → List Row → Type 0
AllLie c [] = Unit {0}
AllLie c (r ∷ rs) = Lying (has_contents (kind_of r.ty).text) c r × AllLie c rs

-- none of the faults of rows that 01 lists: "Contents that don't lie in those octets (place + length over their count) are 14, and so are no rows, .. a contents
-- place other than 0 in a row without string contents, and rows whose message would be over 65,535 octets."
pub record Faultless (c : List ℕ) (rs : List Row) : Type 0 where
  pub lie : AllLie c rs
  pub some : 0 < length rs
  pub short : length (spell_rows c rs) ≤ 65535

-- ---- the property that is exchanged

-- the rows at the level of the first one: the rows below each are left out. (The fuel is the count of rows.)
unfoldable pub level : ℕ → List Row → List Row
level zero rs = []
level (suc k) [] = []
level (suc k) (r ∷ rs) = r ∷ level k (drop r.below rs)

-- 01: "The outermost value is at level 1"
abbrev pub level2 : List Row → List Row
level2 [] = []
level2 (r ∷ rs) = level (length rs) rs

-- no row has the label i
unfoldable pub Unlabelled : ℤ → List Row → Type 0
Unlabelled i [] = Unit {0}
Unlabelled i (r ∷ rs) = (pos r.label ≡ i → ⊥) × Unlabelled i rs

-- 01: "the message's row at level 2 with label i"
pub record PropertyRow (i : ℤ) (rs : List Row) (p : Row) : Type 0 where
  pub sooner : List Row
  pub later : List Row
  pub at_level_2 : level2 rs ≡ sooner ++ (p ∷ later)
  pub labelled : pos p.label ≡ i
  pub none_sooner : Unlabelled i sooner
  pub none_later : Unlabelled i later

-- the octets of a frame and of the one that is written afresh
pub record ExchangedOctets (f : List ℕ) (from : ℕ) (p : Row) (r new : List ℕ) : Type 0 where
  pub before : List ℕ
  pub value : List ℕ
  pub after : List ℕ
  pub old_are : f ≡ spell_int (pos (length (before ++ (value ++ after)))) ++ (before ++ (value ++ after))
  -- the property value is the octets from the row's start to its end, as frame places
  pub starts : from + p.start ≡ length (spell_int (pos (length (before ++ (value ++ after)))) ++ before)
  pub ends : from + p.end ≡ from + p.start + length value
  pub new_are : new ≡ spell_int (pos (length (before ++ (r ++ after)))) ++ (before ++ (r ++ after))

-- with another label for the first row
abbrev pub relabelled : ℕ → List Seen → List Seen
relabelled i [] = []
relabelled i (r ∷ rs) = record { label = i; what = r.what; below = r.below; placed = r.placed } ∷ rs

-- with another count of rows below
abbrev pub recounted : ℕ → Seen → Seen
recounted n r = record { label = r.label; what = r.what; below = n; placed = r.placed }

-- 01: "the replacement's rows stand in their place, the replacement's outermost row takes the property's label, and the message row's count of rows below
-- follows. Each row keeps the contents it had in its own message." The old rows point into o and the replacement's, rs, into r; new are the new ones,
-- apart from places.
pub record ExchangedRows (p : Row) (o : List ℕ) (old : List Row) (r : List ℕ) (rs : List Row) (new : List Seen) : Type 0 where
  pub outer : Row
  pub earlier : List Row
  pub under : List Row
  pub later : List Row
  pub old_are : old ≡ outer ∷ (earlier ++ ((p ∷ under) ++ later))
  pub under_are : p.below ≡ length under
  pub rest : List Seen
  pub rest_is : rest ≡ map (seen o) earlier ++ (relabelled p.label (map (seen r) rs) ++ map (seen o) later)
  pub new_are : new ≡ recounted (length rest) (seen o outer) ∷ rest

-- an accepted frame f, which says `old`, whose message has property i, and an accepted replacement r, which says w
pub record Exchanging (f r : List ℕ) (i : ℤ) (old : Frame) (w : Value) : Type 0 where
  pub old_accepted : frame f ≡ ok old
  pub replacement_accepted : message r ≡ ok w
  pub has_property : labelled i old.said.inside ≡ true

-- the new frame
abbrev pub anew : ℤ → Frame → Value → List ℕ
anew i old w = afresh old.conversation (exchanged i w old.said)

-- what the exchange comes to
pub record ExchangeLaw (f : List ℕ) (old : Frame) (i : ℤ) (r : List ℕ) (w : Value) : Type 0 where
  pub property : Row
  pub is-property : PropertyRow i (rows old.said) property
  pub octets-are : ExchangedOctets f old.from property r (anew i old w)
  pub rows_are : ExchangedRows property (spell old.said) (rows old.said) r (rows w) (map (seen (spell (exchanged i w old.said))) (rows (exchanged i w old.said)))
  -- 01: "the exchanged rows spelt by the types' rules"
  pub rows-spelt : spell_rows (spell (exchanged i w old.said)) (rows (exchanged i w old.said)) ≡ spell (exchanged i w old.said)
  pub said-is : (new : Frame) → frame (anew i old w) ≡ ok new → (new.conversation ≡ old.conversation) × (new.said ≡ exchanged i w old.said)

-- an exchange that answers with the octets o
pub record Renewed (f r : List ℕ) (i : ℤ) (room : ℕ) (o : List ℕ) : Type 0 where
  pub old : Frame
  pub replacement : Value
  pub new : Frame
  pub exchanging : Exchanging f r i old replacement
  pub is_anew : o ≡ anew i old replacement
  pub new_accepted : frame o ≡ ok new
  pub has_room : length o ≤ room

-- ---- places

-- every row has octets, and stands between two places
unfoldable pub Between : ℕ → ℕ → List Row → Type 0
Between low high [] = Unit {0}
Between low high (r ∷ rs) = ((low ≤ r.start) × (r.start < r.end) × (r.end ≤ high)) × Between low high rs

-- every row starts from a place on
unfoldable pub Since : ℕ → List Row → Type 0
Since low [] = Unit {0}
Since low (r ∷ rs) = (low ≤ r.start) × Since low rs

-- no row starts before one that stands above it
unfoldable pub Ordered : List Row → Type 0
Ordered [] = Unit {0}
Ordered (r ∷ rs) = Since r.start rs × Ordered rs

-- the rows below a row stand within it, and the rows after those stand after it
unfoldable pub Nested : List Row → Type 0
Nested [] = Unit {0}
Nested (r ∷ rs) = (r.below ≤ length rs) × Between r.start r.end (take r.below rs) × Since r.end (drop r.below rs) × Nested rs

-- the contents of a string stand within its row; the others have the place 0
abbrev pub Contained : Bool → Row → Type 0
Contained true r = (r.start ≤ r.place) × (r.place + mag r.number ≤ r.end)
Contained false r = r.place ≡ 0

unfoldable pub ContentsWithin : List Row → Type 0
ContentsWithin [] = Unit {0}
ContentsWithin (r ∷ rs) = Contained (has_contents (kind_of r.ty).text) r × ContentsWithin rs

-- the rows of a message of so many octets
pub record Placed (octets : ℕ) (rs : List Row) : Type 0 where
  pub within : Between 0 octets rs
  pub ordered : Ordered rs
  pub nested : Nested rs
  pub contents : ContentsWithin rs

-- ---- indexes

-- labels rise, from `low` on and below `top`
unfoldable pub Rise : ℕ → ℕ → List Row → Type 0
Rise low top [] = Unit {0}
Rise low top (r ∷ rs) = (low ≤ r.label) × (r.label < top) × Rise (suc r.label) top rs

-- 01: "index rising and below size", "rising property indexes of 0 or more": the labels of the rows directly below a row of such a type
abbrev pub Indexed : Holds → Row → List Row → Type 0
Indexed nothing r below = Unit {0}
Indexed values r below = Unit {0}
Indexed couples r below = Unit {0}
Indexed indexes r below = Rise 0 (mag r.number) (level (length below) below)
Indexed properties r below = Rise 0 (2 ^ 31) (level (length below) below)
Indexed one r below = Unit {0}
Indexed (parts d) r below = Unit {0}

unfoldable pub Rising : List Row → Type 0
Rising [] = Unit {0}
Rising (r ∷ rs) = Indexed (kind_of r.ty).holds r (take r.below rs) × Rising rs

-- ---- identities and references

-- the row gives the identity n
abbrev pub Gives : ℤ → Row → Type 0
Gives n r = ((kind_of r.ty).names ≡ gives) × (r.number ≡ n)

-- no row gives it
unfoldable pub Ungiven : ℤ → List Row → Type 0
Ungiven n [] = Unit {0}
Ungiven n (r ∷ rs) = (Gives n r → ⊥) × Ungiven n rs

-- a row gives it, and has ended at the place p or before
pub record Ended (n : ℤ) (p : ℕ) (rs : List Row) : Type 0 where
  pub identity : Row
  pub others : List Row
  pub more : List Row
  pub stands : rs ≡ others ++ (identity ∷ more)
  pub given : Gives n identity
  pub ended : identity.end ≤ p

abbrev pub is_given : Names → ℕ
is_given silent = 0
is_given gives = 1
is_given refers = 0

-- how many rows give an identity
unfoldable pub identities : List Row → ℕ
identities [] = 0
identities (r ∷ rs) = is_given (kind_of r.ty).names + identities rs

-- 01: "A number is given once per message. Reference: the number of an identity whose value has ended before it." A row, and those above it.
abbrev pub NamedAfter : Names → List Row → Row → Type 0
NamedAfter silent above r = Unit {0}
NamedAfter gives above r = Ungiven r.number above
NamedAfter refers above r = Ended r.number r.start above

-- rows, where `above` stand above them, the nearest first
unfoldable pub NamedRows : List Row → List Row → Type 0
NamedRows above [] = Unit {0}
NamedRows above (r ∷ rs) = NamedAfter (kind_of r.ty).names above r × NamedRows (r ∷ above) rs
