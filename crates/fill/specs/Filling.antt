-- What filling comes to: where the octets are the spelling of values that may be filled in, their rows are stored, and nothing else.
use Rattle.std.specs.Prelude.{◌≡◌, true, false, Option, Some, None, List, ℕ, zero, suc, ◌+◌, ◌^◌, ◌<◌, ◌≤◌, length}
use Rattle.format.specs.declared.Row.{Row}
use Rattle.format.specs.Types.{kind_of}
use Rattle.format.specs.Values.{Head, Children, empty, child, Value, value}
use Rattle.format.specs.Spelling.{spell_children, spell}
use Rattle.format.specs.Grammar.{Good, Valid}
use Rattle.format.specs.Rows.{count, rows_from, rows}
use Rattle.format.specs.Writing.{Table}
use Rattle.decide.specs.declared.Form.{Form}
use Rattle.decide.specs.declared.Nest.{Nest}
use Rattle.decide.specs.Forms.{turn}
use Rattle.decide.specs.Coming.{next_low}
use Rattle.columns.specs.Columns.{Roomy, put_row, Blank, puts, Filled}
use Rattle.fill.specs.Numbers.{Begins, Stands}
use Rattle.fill.specs.Rows.{nest_of, Dated, Follows, Ended}

-- values that a container may hold from position or index `low` on, and which stand at most d deep
unfoldable pub Fillable : ℕ → Nest → ℕ → Children → Type 0
Fillable d n low empty = Ended n.indexed n.count low
Fillable zero n low (child j h cs more) = ⊥
Fillable (suc d) n low (child j h cs more) =
    Follows n.indexed n.paired n.count low j × Stands (turn n.form n.other low) h × ((kind_of h.ty).carried ≡ true) × Good (kind_of h.ty) h
    × Dated (kind_of h.ty).holds cs × Fillable d (nest_of h cs) 0 cs × Fillable (suc d) n (next_low n.indexed j low) more

abbrev pub Within : ℕ → Nest → Children → Type 0
Within zero n cs = ⊥
Within (suc d) n cs = Fillable d n 0 cs

-- a value that may be filled in
pub record Fit (d : ℕ) (form : Form) (h : Head) (cs : Children) : Type 0 where
  pub stands : Stands form h
  pub carried : (kind_of h.ty).carried ≡ true
  pub good : Good (kind_of h.ty) h
  pub dated : Dated (kind_of h.ty).holds cs
  pub within : Within d (nest_of h cs) cs

-- a row with the rows below it and its end
abbrev pub closed : Row → ℕ → ℕ → Row
closed r n to = record { ty = r.ty; own = r.own; label = r.label; number = r.number; first = r.first; second = r.second; place = r.place; below = n; start = r.start; end = to }

-- what holds at each call
pub record Ready (o : List ℕ) (lim at k : ℕ) (t : Table) : Type 0 where
  pub room : Roomy lim t
  pub short : length o < 2 ^ 32
  pub few : lim < 2 ^ 32
  pub inside : at ≤ length o
  pub below : k ≤ lim

abbrev pub Advanced : List ℕ → ℕ → ℕ → ℕ → Option (ℕ × ℕ) → Type 0
Advanced o lim at k (Some (next, rows)) = (at ≤ next) × (next ≤ length o) × (k ≤ rows) × (rows ≤ lim)
Advanced o lim at k None = Unit {0}

-- a value with label i, from `at` on: its rows stand from k on, where the three cleared columns had 0 from there on
pub record FilledValue (o : List ℕ) (lim : ℕ) (form : Form) (i at k d : ℕ) (t : Table) (r : Option (ℕ × ℕ)) (t' : Table) : Type 0 where
  pub advanced : Advanced o lim at (suc k) r
  pub same : (h : Head) (cs : Children) → Fit d form h cs → Begins o at (spell (value h cs)) → k + suc (count cs) ≤ lim → Blank lim k t
      → (r ≡ Some (at + length (spell (value h cs)), k + suc (count cs))) × (t' ≡ puts lim t k (rows_from false at (child i h cs empty)))

-- the values of a container whose row, up to them, is given and belongs at k: their rows stand from `base` on, likewise
pub record FilledElements (o : List ℕ) (lim : ℕ) (row : Row) (n : Nest) (k base d : ℕ) (t : Table) (r : Option (ℕ × ℕ)) (t' : Table) : Type 0 where
  pub advanced : Advanced o lim row.end base r
  pub same : (cs : Children) → Fillable d n 0 cs → Begins o row.end (spell_children n.indexed cs) → base + count cs ≤ lim → Blank lim base t
      → (r ≡ Some (row.end + length (spell_children n.indexed cs), base + count cs))
      × (t' ≡ put_row lim (puts lim t base (rows_from n.indexed row.end cs)) k (closed row (count cs) (row.end + length (spell_children n.indexed cs))))

-- the rows of an accepted message, as many as lim, stand in the columns, from the first row on, and all else is as it was
pub record FilledIn (o : List ℕ) (lim : ℕ) (t t' : Table) : Type 0 where
  pub same : (v : Value) → Valid v → o ≡ spell v → length (rows v) ≡ lim → Filled 0 (rows v) t t'
