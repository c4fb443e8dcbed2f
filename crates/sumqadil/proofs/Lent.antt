-- What ten lent columns hold once the struct over them has ended.
use mathlib.Core.Path.{◌≡◌}
use mathlib.Core.List.{List}
use Prim.Native.Nat.{ℕ}
use lib.IntN.{ℤ}
use Rattle.format.specs.declared.Row.{Row}
use Rattle.format.specs.Message.{Answer}
use Rattle.format.specs.Writing.{Table}
use Rattle.columns.specs.declared.ColumnsMut.{ColumnsMut}
use Rattle.columns.specs.Columns.{columns}
use Rattle.columns.specs.Lent.{table}
use Rattle.message.specs.Messages.{Holds}

pub handed_back : (a : Answer (List Row)) (t : Table) (c : ColumnsMut) {x0 : List ℤ} {x1 x2 : List ℕ} {x3 x4 x5 : List ℤ} {x6 x7 x8 x9 : List ℕ}
    → (x0 ≡ c.ty.now) × (x1 ≡ c.own.now) × (x2 ≡ c.label.now) × (x3 ≡ c.number.now) × (x4 ≡ c.first.now) × (x5 ≡ c.second.now) × (x6 ≡ c.place.now)
    × (x7 ≡ c.below.now) × (x8 ≡ c.start.now) × (x9 ≡ c.end.now)
    → Holds a t (table c) → Holds a t (columns x0 x1 x2 x3 x4 x5 x6 x7 x8 x9)
handed_back a t c (e0, e1, e2, e3, e4, e5, e6, e7, e8, e9) h = rw (e0, e1, e2, e3, e4, e5, e6, e7, e8, e9) h
