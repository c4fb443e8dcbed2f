-- What the code finds at a value of accepted octets: where the octets from a place on begin with a spelling, the answer is what was spelt and the place
-- past it. Of other octets the answer tells only that its places lie in them.
use Rattle.std.specs.Prelude.{◌≡◌, Option, Some, None, List, ◌++◌, ℕ, ◌+◌, ◌≤◌, length, drop, ℤ}
use Rattle.format.specs.Types.{Datum, implied, Sort, scalar, kind_of}
use Rattle.format.specs.Data.{spell_number}
use Rattle.format.specs.Values.{Head}
use Rattle.format.specs.Grammar.{Int32, Number as Numbers}
use Rattle.decide.specs.declared.Form.{Form}
use Rattle.decide.specs.Forms.{Says, unknown, known, says, Sound}

-- the octets from a place on begin with u
pub record Begins (o : List ℕ) (at : ℕ) (u : List ℕ) : Type 0 where
  pub after : List ℕ
  pub begins : drop at o ≡ u ++ after

-- a value that stands in a form
abbrev pub StandsBy : Says → Head → Type 0
StandsBy unknown h = (h.own ≡ 1) × Int32 h.ty
StandsBy (known t) h = (h.own ≡ 0) × (h.ty ≡ t)

abbrev pub Stands : Form → Head → Type 0
Stands form h = StandsBy (says form) h × Sound form

-- ---- the number

abbrev pub PastNumber : List ℕ → ℕ → Option (ℕ × ℤ) → Type 0
PastNumber o at (Some (next, z)) = (at ≤ next) × (next ≤ length o)
PastNumber o at None = Unit {0}

pub record NumberAt (o : List ℕ) (d : Datum) (at : ℕ) (r : Option (ℕ × ℤ)) : Type 0 where
  pub past : PastNumber o at r
  pub same : (z : ℤ) → Numbers d z → Begins o at (spell_number d z) → r ≡ Some (at + length (spell_number d z), z)

-- the number of a type that implies it
pub record Implied (t r : ℤ) : Type 0 where
  pub same : (z : ℤ) (s : Sort) → kind_of t ≡ scalar (implied z) s → r ≡ z
