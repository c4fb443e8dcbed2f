-- What the class of a type tells of its data.
use Rattle.std.specs.Prelude.{◌≡◌, Bool, true, false, cond, ◌&&◌, ℕ, ◌<◌, ℤ, negsuc}
use Rattle.std.specs.Int.Signed.{lt_z}
use Rattle.format.specs.Types.{packed, fixed, code, implied, Text, octets, characters, Holds, nothing, values, couples, indexes, properties, one, silent, gives, refers, Sort, scalar, string, dated, container, kind_of}
use Rattle.scalar.specs.Answers.{width_of}
use Rattle.scalar.specs.Moments.{parts_of}
use Rattle.decide.specs.declared.Inside.{Inside}
use Rattle.decide.specs.declared.Inside.TheVariants.{List, Pairs, Sparse, User}
use Rattle.decide.specs.declared.Class.{Class}
use Rattle.decide.specs.declared.Class.TheVariants.{Refused, Small, Int, Fixed, Char, Holder, Identity, Reference}
use Rattle.decide.specs.declared.Class.TheVariants.{Text as Texted, Parts as Parted}

abbrev pub holds_of : Inside → Holds
holds_of List = values
holds_of Pairs = couples
holds_of Sparse = indexes
holds_of User = properties

abbrev pub text_of : Bool → Text
text_of chars = cond chars characters octets

-- what is known of a type of the class
abbrev pub Is : Class → ℤ → Type 0
Is Refused t = (kind_of t).carried ≡ false
Is Small t = (z : ℤ) × (s : Sort) × (kind_of t ≡ scalar (implied z) s)
Is (Int b) t = (s : Sort) × (kind_of t ≡ scalar (packed (width_of b)) s)
Is (Fixed n) t = (s : Sort) × (kind_of t ≡ scalar (fixed n) s)
Is Char t = (s : Sort) × (kind_of t ≡ scalar code s)
Is (Parted d) t = kind_of t ≡ dated (parts_of d)
Is (Texted chars) t = kind_of t ≡ string (text_of chars)
Is (Holder h) t = kind_of t ≡ container h.first h.second (holds_of h.inside) silent
Is Identity t = kind_of t ≡ container false false one gives
Is Reference t = kind_of t ≡ container false false nothing refers

-- a class that an element type may have: its data take an octet at least
abbrev pub may_be_element : Class → Bool
may_be_element Refused = false
may_be_element Small = false
may_be_element (Int b) = true
may_be_element (Fixed k) = true
may_be_element Char = true
may_be_element (Parted d) = true
may_be_element (Texted chars) = true
may_be_element (Holder h) = true
may_be_element Identity = false
may_be_element Reference = false

-- how many octets the data take at least
abbrev pub least_of : Class → ℕ
least_of Refused = 0
least_of Small = 0
least_of (Int b) = 1
least_of (Fixed k) = k
least_of Char = 1
least_of (Parted d) = 1
least_of (Texted chars) = 1
least_of (Holder h) = 1
least_of Identity = 1
least_of Reference = 1

-- whether a type may be an element type: any carried type above -31
abbrev pub elementary : ℤ → Bool
elementary t = (kind_of t).carried && lt_z (negsuc 30) t

-- the class of a type
pub record ClassOf (t : ℤ) (r : Class) : Type 0 where
  pub is : Is r t
  pub element : may_be_element r ≡ elementary t
  pub least : may_be_element r ≡ true → 0 < least_of r
