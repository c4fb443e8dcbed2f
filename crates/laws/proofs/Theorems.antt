-- The laws of the format: each is stated in `Statements`, with the demand that it serves, and proved in the file cited.
use mathlib.Core.Path.{refl}
use mathlib.Core.List.{append_assoc}
use Rattle.format.specs.Spelling.{fore, spell_children, spell}
use Rattle.format.specs.Rows.{rows}
use Rattle.laws.specs.Statements.{AcceptedExactly, ReadExactly, ValidExactly, FrameExactly, FrameSays, ReadFrameExactly, SpeltInOrder, SpeltInside, RowsCount, RowsPlaced, RowsRising, RowsNamed, ReadSpelt, ReadWritten, RowsSpelt, WrittenExactly, WriteExactly, RefusedExactly, RefusedOnly, WriteRefused, HadFaultless, RowsFix, PrefixFree, MeasureExactly, ExchangeSays, ExchangedByPlaces, ExchangeRenews, ExchangeRefuses, ExchangeOverflows, ExchangeExactly, PropertyExactly, PropertyUnique}
use Rattle.laws.proofs.Complete as Complete
use Rattle.laws.proofs.Levels as Levels
use Rattle.laws.proofs.Messages as Messages
use Rattle.laws.proofs.Rows as Rows
use Rattle.laws.proofs.Written as Written
use Rattle.laws.proofs.Frames as Frames
use Rattle.laws.proofs.Property as Property
use Rattle.laws.proofs.Exchange as Exchange
use Rattle.laws.proofs.Bounds as Bounds
use Rattle.laws.proofs.Places as Places
use Rattle.laws.proofs.Indexes as Indexes
use Rattle.laws.proofs.Named as Named
use Rattle.laws.proofs.Entries as Entries

-- ---- what is accepted

pub accepted-exactly : AcceptedExactly
accepted-exactly = Complete.accepted-exactly

pub read-exactly : ReadExactly
read-exactly lent o rs x = (
  λ e. let w = (Entries.read-exactly lent o rs).0 e in let a = (accepted-exactly o w.0 x).0 w.1 in (w.0, a.0, a.1, a.2, w.2, w.3),
  λ h. (Entries.read-exactly lent o rs).1 (h.0, (accepted-exactly o h.0 x).1 (h.1, h.2, h.3), h.4, h.5),
)

pub valid-exactly : ValidExactly
valid-exactly = Levels.valid-exactly

pub frame-exactly : FrameExactly
frame-exactly = Frames.frame-exactly

pub frame-says : FrameSays
frame-says f old x e = Frames.frame-says f old ((frame-exactly f old x).0 e)

pub read-frame-exactly : ReadFrameExactly
read-frame-exactly lent f c from rs x = (
  λ e. let w = (Entries.read-frame-exactly lent f c from rs).0 e in (w.0, (frame-exactly f w.0 x).0 w.1, w.2, w.3, w.4, w.5),
  λ h. (Entries.read-frame-exactly lent f c from rs).1 (h.0, (frame-exactly f h.0 x).1 h.1, h.2, h.3, h.4, h.5),
)

-- ---- what the rows say

pub spelt-in-order : SpeltInOrder
unfolding spell fore
spelt-in-order h cs = simp append_assoc

pub spelt-inside : SpeltInside
unfolding spell_children spell
spelt-inside x i h cs more = (refl, simp append_assoc)

pub rows-count : RowsCount
rows-count = Bounds.rows-count

pub rows-placed : RowsPlaced
rows-placed = Places.rows-placed

pub rows-rising : RowsRising
rows-rising = Indexes.rows-rising

pub rows_named : RowsNamed
rows_named = Named.rows_named

-- ---- writing

pub read-spelt : ReadSpelt
read-spelt = Rows.rows-spelt

pub read-written : ReadWritten
read-written o v x e = (Written.written-exactly o (rows v) o x).1 (record { said = v; accepted = e; same = refl })

pub rows-spelt : RowsSpelt
rows-spelt c rs o x h = (Rows.has-rows-spelt c rs o x h, Rows.has-rows-again c rs o x h)

pub written-exactly : WrittenExactly
written-exactly = Written.written-exactly

pub write-exactly : WriteExactly
write-exactly = Entries.write-exactly

pub refused-exactly : RefusedExactly
refused-exactly = Written.refused-exactly

pub refused-only : RefusedOnly
refused-only = Written.written-14

pub write-refused : WriteRefused
write-refused = Entries.write-14

pub had-faultless : HadFaultless
had-faultless = Written.has-faultless

pub rows-fix : RowsFix
rows-fix = Rows.rows-fix

-- ---- front parts

pub prefix-free : PrefixFree
prefix-free = Messages.prefix-free

pub measure-exactly : MeasureExactly
measure-exactly = Messages.measure-exactly

-- ---- the exchange

pub exchange-says : ExchangeSays
exchange-says = Exchange.exchange-law

pub exchanged-by-places : ExchangedByPlaces
exchanged-by-places = Exchange.exchanged-by-places

pub exchange-renews : ExchangeRenews
exchange-renews = Entries.exchange-renews

pub exchange-refuses : ExchangeRefuses
exchange-refuses = Entries.exchange-refuses

pub exchange-overflows : ExchangeOverflows
exchange-overflows = Entries.exchange-overflows

pub exchange-exactly : ExchangeExactly
exchange-exactly = Entries.exchange-exactly

pub property-exactly : PropertyExactly
property-exactly f old i x e = let g = (frame-exactly f old x).0 e in Exchange.property-exactly i old.said g.user g.valid.shaped

pub property-unique : PropertyUnique
property-unique = Property.property-unique
