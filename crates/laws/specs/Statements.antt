-- The laws of the format, each with the demand that it serves and the words of 01 that it states. `Theorems` proves each under its name.
use Rattle.std.specs.Prelude.{◌≡◌, Bool, true, false, ◌↔◌, List, [], ◌++◌, map, ℕ, ◌+◌, ◌-◌, ◌*◌, ◌<◌, ◌≤◌, length, take, drop, ℤ, pos, negsuc}
use Rattle.reading.specs.declared.Refusal.{Refusal}
use Rattle.reading.specs.Reading.{refusal}
use Rattle.reading.proofs.Sound.{Octets}
use Rattle.integer.specs.Packed.{spell_int}
use Rattle.format.specs.declared.Row.{Row}
use Rattle.format.specs.Types.{kind_of}
use Rattle.format.specs.Data.{spell_number, spell_element}
use Rattle.format.specs.Values.{Head, Children, empty, child, child_of, Value, value, rule_of}
use Rattle.format.specs.Spelling.{identifier, indexed, index, spell_children, spell}
use Rattle.format.specs.Rows.{rows}
use Rattle.format.specs.Message.{ok, refused, message, read_message, measure, Frame, frame, read_frame}
use Rattle.format.specs.Grammar.{Whole, Shaped, Named, Valid}
use Rattle.format.specs.Writing.{seen, HasRows, spell_rows, written, Table, equal_lengths, write}
use Rattle.format.specs.Exchange.{labelled, renewed, fault, exchange}
use Rattle.laws.specs.Words.{levels_of, fresh, FrontPart, Framed, rows_in, NoneHave, Faultless, PropertyRow, ExchangedOctets, Exchanging, anew, ExchangeLaw, Renewed, Placed, Rising, identities, NamedRows}

-- ---- demand 2: "A message is accepted exactly when it obeys 01's rules .., within 65,535 octets, 16 levels, 64 identities and the lent rows."

-- octets are accepted exactly if they are the spelling of a valid value
abbrev pub AcceptedExactly : Type 0
AcceptedExactly = (o : List ℕ) (v : Value) → Octets o → message o ≡ ok v ↔ (Valid v × (spell v ≡ o) × (length o ≤ 65535))

-- and have its rows
abbrev pub ReadExactly : Type 0
ReadExactly =
    (lent : ℕ) (o : List ℕ) (rs : List Row) → Octets o
    → read_message lent o ≡ ok rs ↔ ((v : Value) × Valid v × (spell v ≡ o) × (length o ≤ 65535) × (rows v ≡ rs) × (length rs ≤ lent))

-- valid: it has its identifier, is of the types' rules (`Shaped`), of at most 16 levels, and gives and refers to identities as it may (`Named`)
abbrev pub ValidExactly : Type 0
ValidExactly = (v : Value) → Valid v ↔ (Whole false v.top × Shaped v × (levels_of v ≤ 16) × Named fresh (child_of 0 v empty))

-- 01: "Remaining length (0 or more), conversation number, message. The length equals the octets that follow it. The message must be a user type."
abbrev pub FrameExactly : Type 0
FrameExactly = (f : List ℕ) (old : Frame) → Octets f → frame f ≡ ok old ↔ Framed f old

-- from the message's place on, the frame is a message on its own
abbrev pub FrameSays : Type 0
FrameSays = (f : List ℕ) (old : Frame) → Octets f → frame f ≡ ok old → (drop old.from f ≡ spell old.said) × (message (spell old.said) ≡ ok old.said)

-- a frame's rows are those of its message
abbrev pub ReadFrameExactly : Type 0
ReadFrameExactly =
    (lent : ℕ) (f : List ℕ) (c : ℤ) (from : ℕ) (rs : List Row) → Octets f
    → read_frame lent f ≡ ok (c, from, rs) ↔ ((old : Frame) × Framed f old × (old.conversation ≡ c) × (old.from ≡ from) × (rows old.said ≡ rs) × (length rs ≤ lent))

-- ---- demand 2: "Its rows say what the octets say."

-- 01: "A value is a type identifier (packed integer) and its data": element types, the number, the contents, the values inside
abbrev pub SpeltInOrder : Type 0
SpeltInOrder =
    (h : Head) (cs : Children) → spell (value h cs)
    ≡ identifier h ++ (spell_element (kind_of h.ty).first h.first ++ (spell_element (kind_of h.ty).second h.second ++ (spell_number (kind_of h.ty).datum h.number
    ++ (h.text ++ spell_children (indexed (rule_of h)) cs))))

-- 01: "pairs of index and value, .. then -1"; values without indexes one after another
abbrev pub SpeltInside : Type 0
SpeltInside =
    (x : Bool) (i : ℕ) (h : Head) (cs more : Children)
    → (spell_children x empty ≡ index x (negsuc 0)) × (spell_children x (child i h cs more) ≡ index x (pos i) ++ (spell (value h cs) ++ spell_children x more))

-- at most three rows for two octets
abbrev pub RowsCount : Type 0
RowsCount = (v : Value) → Valid v → 2 * length (rows v) ≤ 3 * length (spell v)

-- rows stand within the message and in order, those below a row within it, and contents within their row; every row has octets
abbrev pub RowsPlaced : Type 0
RowsPlaced = (v : Value) → Valid v → Placed (length (spell v)) (rows v)

-- 01: "index rising and below size", "rising property indexes"
abbrev pub RowsRising : Type 0
RowsRising = (v : Value) → Valid v → Rising (rows v)

-- 01: "A number is given once per message. Reference: the number of an identity whose value has ended before it."
abbrev pub RowsNamed : Type 0
RowsNamed = (v : Value) → Valid v → NamedRows [] (rows v) × (identities (rows v) ≤ 64)

-- ---- demand 2: "Writing those rows gives the same octets"

-- spelling them, with the contents taken from those octets
abbrev pub ReadSpelt : Type 0
ReadSpelt = (o : List ℕ) (v : Value) → Octets o → message o ≡ ok v → spell_rows o (rows v) ≡ o

abbrev pub ReadWritten : Type 0
ReadWritten = (o : List ℕ) (v : Value) → Octets o → message o ≡ ok v → written o (rows v) ≡ ok o

-- ---- demand 2: "rows that some accepted octets have are written, given room and at most 65,535 octets to take their contents from, and read back equal apart
-- from their places"

-- they are spelt as just those octets, so their spelling is accepted and has them
abbrev pub RowsSpelt : Type 0
RowsSpelt = (c : List ℕ) (rs : List Row) (o : List ℕ) → Octets o → HasRows c rs o → (spell_rows c rs ≡ o) × HasRows c rs (spell_rows c rs)

-- what is written has the rows, and what has the rows is written
abbrev pub WrittenExactly : Type 0
WrittenExactly = (c : List ℕ) (rs : List Row) (o : List ℕ) → Octets o → written c rs ≡ ok o ↔ HasRows c rs o

abbrev pub WriteExactly : Type 0
WriteExactly =
    (t : Table) (c : List ℕ) (room : ℕ) (o : List ℕ) → Octets o
    → write t c room ≡ ok o ↔ ((length c ≤ 65535) × (equal_lengths t ≡ true) × HasRows c (rows_in t) o × (length o ≤ room))

-- 01: "14 | rows that no accepted octets have | 0"
abbrev pub RefusedExactly : Type 0
RefusedExactly = (c : List ℕ) (rs : List Row) → Octets c → written c rs ≡ refused (refusal 14 0) ↔ NoneHave c rs

-- and nothing else
abbrev pub RefusedOnly : Type 0
RefusedOnly = (c : List ℕ) (rs : List Row) (q : Refusal) → written c rs ≡ refused q → q ≡ refusal 14 0

-- of a table: 14 also where the columns are of unequal length
abbrev pub WriteRefused : Type 0
WriteRefused = (t : Table) (c : List ℕ) (room : ℕ) → Octets c → write t c room ≡ refused (refusal 14 0) ↔ ((length c ≤ 65535) × (equal_lengths t ≡ true → NoneHave c (rows_in t)))

-- the other faults that 01 lists are faults of rows that no accepted octets have
abbrev pub HadFaultless : Type 0
HadFaultless = (c : List ℕ) (rs : List Row) (o : List ℕ) → Octets o → HasRows c rs o → Faultless c rs

-- messages with the same rows apart from places, and the same contents, are the same octets
abbrev pub RowsFix : Type 0
RowsFix =
    (o o' : List ℕ) (v v' : Value) → Octets o → Octets o' → message o ≡ ok v → message o' ≡ ok v'
    → map (seen o) (rows v) ≡ map (seen o') (rows v') → o ≡ o'

-- ---- demand 2: front parts

-- 01: "No accepted message is a proper front part of another."
abbrev pub PrefixFree : Type 0
PrefixFree = (o x : List ℕ) (v w : Value) → Octets o → message o ≡ ok v → message (o ++ x) ≡ ok w → x ≡ []

-- 01: "Measuring ignores what follows the first value, but 2 still holds for the run given; otherwise it accepts exactly where some front part is an accepted
-- message and gives its length."
abbrev pub MeasureExactly : Type 0
MeasureExactly = (o : List ℕ) (n : ℕ) → Octets o → measure o ≡ ok n ↔ ((length o ≤ 65535) × FrontPart o n)

-- ---- demand 3: "For every accepted invocation whose message has property i, and every accepted replacement" (`Exchanging`)

-- "the new invocation is the one written afresh with that property's rows exchanged, as 01 says. Its octets are, in order: the length of all that follows; the
-- old invocation's octets after its length, up to the old property value; the replacement's octets; the old invocation's octets after the old property
-- value." 01: "If accepted, its message has just these rows, places apart."
abbrev pub ExchangeSays : Type 0
ExchangeSays = (f r : List ℕ) (i : ℤ) (old : Frame) (w : Value) → Octets f → Octets r → Exchanging f r i old w → ExchangeLaw f old i r w

-- the same octets by places of the old frame, k being the octets of its length
abbrev pub ExchangedByPlaces : Type 0
ExchangedByPlaces =
    (f : List ℕ) (from : ℕ) (p : Row) (r new : List ℕ) → ExchangedOctets f from p r new
    → (k : ℕ) × (take k f ≡ spell_int (pos (length (drop k f)))) × (let rest = take (from + p.start - k) (drop k f) ++ (r ++ drop (from + p.end) f) in new ≡ spell_int (pos (length rest)) ++ rest)

-- "If the new invocation is accepted and the output has room, the exchange answers with .. exactly these octets."
abbrev pub ExchangeRenews : Type 0
ExchangeRenews =
    (f r : List ℕ) (i : ℤ) (old : Frame) (w : Value) → Exchanging f r i old w
    → (room : ℕ) (new : Frame) → frame (anew i old w) ≡ ok new → length (anew i old w) ≤ room → exchange f r i room ≡ renewed (anew i old w)

-- "It refuses exactly when the new invocation isn't accepted or the output is too short: with the number and place that 01 gives for the new invocation's
-- octets, as input 3,"
abbrev pub ExchangeRefuses : Type 0
ExchangeRefuses =
    (f r : List ℕ) (i : ℤ) (old : Frame) (w : Value) → Exchanging f r i old w
    → (room : ℕ) (q : Refusal) → frame (anew i old w) ≡ refused q → exchange f r i room ≡ fault 3 q

-- "or else with 13."
abbrev pub ExchangeOverflows : Type 0
ExchangeOverflows =
    (f r : List ℕ) (i : ℤ) (old : Frame) (w : Value) → Exchanging f r i old w
    → (room : ℕ) (new : Frame) → frame (anew i old w) ≡ ok new → room < length (anew i old w) → exchange f r i room ≡ fault 1 (refusal 13 0)

-- what the exchange answers with is that and nothing else
abbrev pub ExchangeExactly : Type 0
ExchangeExactly = (f r : List ℕ) (i : ℤ) (room : ℕ) (o : List ℕ) → exchange f r i room ≡ renewed o ↔ Renewed f r i room o

-- 01: "Property i's rows are the message's row at level 2 with label i and all rows below it": a message has property i exactly if it has such a row
abbrev pub PropertyExactly : Type 0
PropertyExactly = (f : List ℕ) (old : Frame) (i : ℤ) → Octets f → frame f ≡ ok old → labelled i old.said.inside ≡ true ↔ ((p : Row) × PropertyRow i (rows old.said) p)

-- and has one at most
abbrev pub PropertyUnique : Type 0
PropertyUnique = (i : ℤ) (rs : List Row) (p q : Row) → PropertyRow i rs p → PropertyRow i rs q → p ≡ q
