-- The row of a value of accepted octets, and what the value holds.
use Rattle.std.specs.Prelude.{◌≡◌, Bool, true, false, cond, Option, Some, None, List, ℕ, suc, ◌+◌, ◌-◌, ◌^◌, ◌<◌, ◌≤◌, length, ℤ, pos, negsuc}
use Rattle.std.specs.Int.Signed.{mag}
use Rattle.format.specs.declared.Row.{Row}
use Rattle.format.specs.Types.{Holds, nothing, values, couples, indexes, properties, one, parts, Kind, kind_of}
use Rattle.format.specs.Values.{Head, Children, empty, child, Value, label}
use Rattle.format.specs.Spelling.{data_by, fore, spell_children}
use Rattle.format.specs.Grammar.{Good, Moment}
use Rattle.format.specs.Rows.{has_contents, row_of}
use Rattle.columns.specs.Columns.{Single}
use Rattle.decide.specs.declared.Form.{Form}
use Rattle.scalar.specs.declared.Bits.TheVariants.{Bits32}
use Rattle.decide.specs.declared.Form.TheVariants.{Whole, Named, Packed}
use Rattle.decide.specs.declared.Nest.{Nest}
use Rattle.decide.specs.declared.Inside.TheVariants.{List as Several, Pairs, Sparse, User}
use Rattle.decide.specs.Forms.{says, Sound, OfType, listed_in, nest_with, nest_in}
use Rattle.fill.specs.declared.Fore.{Fore}
use Rattle.fill.specs.declared.Data.{Data}
use Rattle.fill.specs.declared.Data.TheVariants.{Leaf, Holder}
use Rattle.fill.specs.declared.Found.{Found}
use Rattle.fill.specs.declared.Found.TheVariants.{Leaf as LeafRow, Holder as HolderRow}
use Rattle.fill.specs.Numbers.{Begins, Stands}

-- ---- what a value holds

-- how many values stand side by side
unfoldable pub several : Children → ℕ
several empty = 0
several (child i h cs next) = suc (several next)

-- by its element types and its number, as `nest_in` has it; an identity holds one value, a date or time its integers
abbrev pub nest_by : Kind → Holds → Head → Children → Nest
nest_by k nothing h cs = nest_with false false Whole Whole 0
nest_by k values h cs = nest_in Several k.first k.second h.first h.second (mag h.number)
nest_by k couples h cs = nest_in Pairs k.first k.second h.first h.second (mag h.number)
nest_by k indexes h cs = nest_in Sparse k.first k.second h.first h.second (mag h.number)
nest_by k properties h cs = nest_in User k.first k.second h.first h.second (mag h.number)
nest_by k one h cs = nest_with false false Named Named 1
nest_by k (parts d) h cs = nest_with false false (Packed Bits32 (negsuc 1)) (Packed Bits32 (negsuc 1)) (several cs)

unfoldable pub nest_of : Head → Children → Nest
nest_of h cs = nest_by (kind_of h.ty) (kind_of h.ty).holds h cs

-- the integers of a date or time are known by their rule alone
abbrev pub Dated : Holds → Children → Type 0
Dated nothing cs = Unit {0}
Dated values cs = Unit {0}
Dated couples cs = Unit {0}
Dated indexes cs = Unit {0}
Dated properties cs = Unit {0}
Dated one cs = Unit {0}
Dated (parts d) cs = Moment d cs

-- ---- the data of a value

abbrev pub fore_with : ℤ → ℤ → ℤ → ℕ → ℕ → Fore
fore_with e f z p q = record { first = e; second = f; number = z; place = p; end = q }

abbrev pub fore_of : Kind → Head → ℕ → Fore
fore_of k h at = fore_with h.first h.second h.number (cond (has_contents k.text) (at + length (data_by k h) - length h.text) 0) (at + length (data_by k h))

-- a number alone
abbrev pub leaf_of : Option (ℕ × ℤ) → Option Data
leaf_of (Some (next, z)) = Some (Leaf (fore_with (pos 0) (pos 0) z 0 next))
leaf_of None = None

abbrev pub data_with : Holds → Fore → Nest → Data
data_with nothing f n = Leaf f
data_with values f n = Holder f n
data_with couples f n = Holder f n
data_with indexes f n = Holder f n
data_with properties f n = Holder f n
data_with one f n = Holder f n
data_with (parts d) f n = Holder f n

abbrev pub PastFore : List ℕ → ℕ → Fore → Type 0
PastFore o at f = (at ≤ f.end) × (f.end ≤ length o) × (f.place ≤ length o)

-- 32 bits hold how many values there are, and as many stand by position as it says
abbrev pub CountedNest : Nest → Type 0
CountedNest n = (n.count < 2 ^ 32) × (n.listed ≡ listed_in n.indexed n.count)

abbrev pub PastData : List ℕ → ℕ → Option Data → Type 0
PastData o at (Some (Leaf f)) = PastFore o at f × (f.first ≡ pos 0) × (f.second ≡ pos 0)
PastData o at (Some (Holder f n)) = PastFore o at f × CountedNest n
PastData o at None = Unit {0}

-- the data of a value of a kind
pub record DataAt (o : List ℕ) (k : Kind) (at : ℕ) (r : Option Data) : Type 0 where
  pub past : PastData o at r
  pub same : (h : Head) (cs : Children) → Good k h → Dated k.holds cs → Begins o at (data_by k h) → Begins o (at + length (data_by k h)) (spell_children (nest_by k k.holds h cs).indexed cs)
      → r ≡ Some (data_with k.holds (fore_of k h at) (nest_by k k.holds h cs))

-- the data of a value that stands in a form, of a type that is carried
pub record DataOf (o : List ℕ) (form : Form) (t : ℤ) (at : ℕ) (r : Option Data) : Type 0 where
  pub past : PastData o at r
  pub same : Sound form → OfType (says form) t → (kind_of t).carried ≡ true → DataAt o (kind_of t) at r

-- ---- a value's row, up to the values inside: without their rows, and ending where they begin

abbrev pub front_row : ℕ → Head → ℕ → Row
front_row i h at = row_of i h 0 at (at + length (fore h))

abbrev pub row_with : ℤ → ℕ → ℕ → Fore → ℕ → Row
row_with t own i f at = record { ty = t; own = own; label = i; number = f.number; first = f.first; second = f.second; place = f.place; below = 0; start = at; end = f.end }

abbrev pub found_by : Holds → Row → Nest → Found
found_by nothing r n = LeafRow r
found_by values r n = HolderRow r n
found_by couples r n = HolderRow r n
found_by indexes r n = HolderRow r n
found_by properties r n = HolderRow r n
found_by one r n = HolderRow r n
found_by (parts d) r n = HolderRow r n

abbrev pub PastFound : List ℕ → ℕ → Option Found → Type 0
PastFound o at (Some (LeafRow r)) = (at ≤ r.end) × (r.end ≤ length o) × Single r
PastFound o at (Some (HolderRow r n)) = (at ≤ r.end) × (r.end ≤ length o) × CountedNest n
PastFound o at None = Unit {0}

pub record RowAt (o : List ℕ) (form : Form) (i at : ℕ) (r : Option Found) : Type 0 where
  pub past : PastFound o at r
  pub same : (v : Value) → Stands form v.top → (kind_of v.top.ty).carried ≡ true → Good (kind_of v.top.ty) v.top → Dated (kind_of v.top.ty).holds v.inside
      → Begins o at (fore v.top) → Begins o (at + length (fore v.top)) (spell_children (nest_of v.top v.inside).indexed v.inside)
      → r ≡ Some (found_by (kind_of v.top.ty).holds (front_row i v.top at) (nest_of v.top v.inside))

-- ---- the next value of a container

-- from position or index `low` on, a value with label j may follow; or none
abbrev pub Follows : Bool → Bool → ℕ → ℕ → ℕ → Type 0
Follows true paired count low j = (low ≤ j) × (j < count) × (j < 2 ^ 31)
Follows false paired count low j = (low < count) × (j ≡ label paired low)

abbrev pub Ended : Bool → ℕ → ℕ → Type 0
Ended true count low = Unit {0}
Ended false count low = low ≡ count
