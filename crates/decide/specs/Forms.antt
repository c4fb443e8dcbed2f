-- How values stand, and what a container holds.
use Rattle.std.specs.Prelude.{◌≡◌, Bool, true, false, cond, List, ℕ, ◌*◌, ◌%◌, ◌^◌, ◌<◌, ◌≤◌, length, eqb, leb, ℤ, Result, Ok, Err}
use Rattle.reading.specs.declared.Refusal.{Refusal}
use Rattle.reading.specs.Reading.{Env, got, stop, stand}
use Rattle.integer.specs.Packed.{Width, wide32, integer}
use Rattle.format.specs.Types.{Datum, packed, fixed, code, amount, implied, kind_of}
use Rattle.scalar.specs.declared.Bits.{Bits}
use Rattle.scalar.specs.declared.Bits.TheVariants.{Bits16, Bits32, Bits64}
use Rattle.decide.specs.declared.Inside.{Inside}
use Rattle.decide.specs.declared.Inside.TheVariants.{Pairs, Sparse, User, List as Several}
use Rattle.decide.specs.declared.Form.{Form}
use Rattle.decide.specs.declared.Form.TheVariants.{Whole, Named, Bare, Sized, Packed}
use Rattle.decide.specs.declared.Class.{Class}
use Rattle.decide.specs.declared.Class.TheVariants.{Int, Fixed}
use Rattle.decide.specs.declared.Nest.{Nest}
use Rattle.decide.specs.Classes.{Is, least_of, elementary}

-- what a form says of a value's type: it is unknown where its identifier stands in the octets, and known where the value is bare
pub data Says : Type 0 where
  unknown : Says
  known : ℤ → Says

abbrev pub says : Form → Says
says Whole = unknown
says Named = unknown
says (Bare t) = known t
says (Sized n t) = known t
says (Packed b t) = known t

-- 01: "own (1 if its identifier stands in the octets, 0 if bare)"
abbrev pub own_by : Says → ℕ
own_by unknown = 1
own_by (known t) = 0

abbrev pub own_of : Form → ℕ
own_of form = own_by (says form)

-- ---- the type of a value

-- read at a place
abbrev pub IdentifierIs : List ℕ → ℕ → Result (ℕ × ℤ) Refusal → Type 0
IdentifierIs o at (Ok (from, t)) = (at < from) × (from ≤ length o) × ((e : Env) → integer wide32 (stand o at e) ≡ got t (stand o from e))
IdentifierIs o at (Err r) = (e : Env) → integer wide32 (stand o at e) ≡ stop r

-- known, where the value is bare
abbrev pub BareIs : ℤ → ℕ → Result (ℕ × ℤ) Refusal → Type 0
BareIs t at (Ok (from, s)) = (from ≡ at) × (s ≡ t)
BareIs t at (Err r) = ⊥

abbrev pub TypedBy : List ℕ → Says → ℕ → Result (ℕ × ℤ) Refusal → Type 0
TypedBy o unknown at r = IdentifierIs o at r
TypedBy o (known t) at r = BareIs t at r

abbrev pub PastTyped : List ℕ → ℕ → Result (ℕ × ℤ) Refusal → Type 0
PastTyped o at (Ok (from, t)) = (at ≤ from) × (from ≤ length o)
PastTyped o at (Err r) = Unit {0}

pub record TypedAt (o : List ℕ) (form : Form) (at : ℕ) (r : Result (ℕ × ℤ) Refusal) : Type 0 where
  pub is : TypedBy o (says form) at r
  pub past : PastTyped o at r

-- ---- the class of a value

-- what a form says beside the type is true of the type
abbrev pub Sound : Form → Type 0
Sound Whole = Unit {0}
Sound Named = Unit {0}
Sound (Bare t) = Unit {0}
Sound (Sized n t) = Is (Fixed n) t × (0 < n)
Sound (Packed b t) = Is (Int b) t

-- a type has a class, whose data take an octet at least where it is an element type
pub record HasClass (t : ℤ) (c : Class) : Type 0 where
  pub is : Is c t
  pub least : elementary t ≡ true → 0 < least_of c

abbrev pub ClassIs : List ℕ → Form → ℕ → Result (ℕ × Class) Refusal → Type 0
ClassIs o form at (Ok (from, c)) = (t : ℤ) × TypedAt o form at (Ok (from, t)) × (Sound form → HasClass t c)
ClassIs o form at (Err r) = TypedAt o form at (Err r)

pub record ClassAt (o : List ℕ) (form : Form) (at : ℕ) (r : Result (ℕ × Class) Refusal) : Type 0 where
  pub is : ClassIs o form at r

-- a type that a value in a form may have
abbrev pub OfType : Says → ℤ → Type 0
OfType unknown t = Unit {0}
OfType (known u) t = u ≡ t

-- the class of such a type; and a class of fixed size is always that of the type
pub record ClassIn (form : Form) (t : ℤ) (c : Class) : Type 0 where
  pub is : Sound form → OfType (says form) t → Is c t
  pub sized : (n : ℕ) → c ≡ Fixed n → Is (Fixed n) t

-- ---- the values of a container

-- the form of bare values of a type, by how its number stands
abbrev pub bits_of : Width → Bits
bits_of w = cond (eqb w.more 9) Bits64 (cond (eqb w.bound (2 ^ 15)) Bits16 Bits32)

abbrev pub form_by : Datum → ℤ → Form
form_by (packed w) t = Packed (bits_of w) t
form_by (fixed n) t = Sized n t
form_by code t = Bare t
form_by amount t = Bare t
form_by (implied z) t = Bare t

unfoldable pub bare_form : ℤ → Form
bare_form t = cond (kind_of t).carried (form_by (kind_of t).datum t) (Bare t)

abbrev pub form_of : Bool → ℤ → Form
form_of true t = bare_form t
form_of false t = Whole

-- how many values stand by position, where 32 bits hold that
abbrev pub listed_in : Bool → ℕ → ℕ
listed_in x count = cond x 0 (cond (leb count 4294967295) count 0)

abbrev pub nest_with : Bool → Bool → Form → Form → ℕ → Nest
nest_with x p f g n = record { count = n; listed = listed_in x n; form = f; other = g; indexed = x; paired = p }

abbrev pub alike_nest : Form → ℕ → Bool → Nest
alike_nest f n x = nest_with x false f f n

-- of a shape, by its element types and its number. A property index is below 2 ^ 31.
abbrev pub nest_in : Inside → Bool → Bool → ℤ → ℤ → ℕ → Nest
nest_in Several a b e f n = nest_with false false (form_of a e) (form_of a e) n
nest_in Pairs a b e f n = nest_with false true (form_of a e) (form_of b f) (2 * n)
nest_in Sparse a b e f n = nest_with true false (form_of a e) (form_of a e) n
nest_in User a b e f n = nest_with true false Whole Whole (2 ^ 31)

-- one or the other, by turns
abbrev pub turn : {A : Type 0} → A → A → ℕ → A
turn f g i = cond (eqb (i % 2) 0) f g
