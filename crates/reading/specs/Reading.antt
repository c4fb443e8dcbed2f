-- How a reading goes on: from a place, with the octets that are left and the identities given so far, to a result and a new state, or to
-- a refusal. A `do` block is its steps in order, and the first refusal ends it, so the order of the lines is the order of the refusals.
use Rattle.std.specs.Prelude.{Bool, true, false, List, [], ◌∷◌, ℕ, ◌+◌, ◌-◌, drop, get_or}
use Rattle.reading.specs.declared.Reason.{Reason}
use Rattle.reading.specs.declared.Reason.TheVariants.{Ended, TooLong, BadInteger, BadType, BadNumber, BadChar, BadTime, TooDeep, BadIdentity, BadReference, LeftOver, FewRows, ShortOutput, BadRow, OtherType, Missing, BadLine}
use Rattle.reading.specs.declared.Refusal.{Refusal}

-- the reasons by their numbers in document 01, from 1
abbrev pub reasons : List Reason
reasons = Ended ∷ TooLong ∷ BadInteger ∷ BadType ∷ BadNumber ∷ BadChar ∷ BadTime ∷ TooDeep ∷ BadIdentity ∷ BadReference ∷ LeftOver ∷ FewRows ∷ ShortOutput ∷ BadRow ∷ OtherType ∷ Missing ∷ BadLine ∷ []

abbrev pub reason_of : ℕ → Reason
reason_of n = get_or reasons (n - 1) Ended

abbrev pub number_of : Reason → ℕ
number_of Ended = 1
number_of TooLong = 2
number_of BadInteger = 3
number_of BadType = 4
number_of BadNumber = 5
number_of BadChar = 6
number_of BadTime = 7
number_of TooDeep = 8
number_of BadIdentity = 9
number_of BadReference = 10
number_of LeftOver = 11
number_of FewRows = 12
number_of ShortOutput = 13
number_of BadRow = 14
number_of OtherType = 15
number_of Missing = 16
number_of BadLine = 17

-- refusal n at place p
abbrev pub refusal : ℕ → ℕ → Refusal
refusal n p = record { place = p; reason = reason_of n }

-- the numbers of the identities given so far, and of those whose value has ended
pub record Env : Type 0 where
  pub opened : List ℕ
  pub ended : List ℕ

pub record State : Type 0 where
  pub at : ℕ  -- the place
  pub left : List ℕ  -- the octets from there on
  pub env : Env

pub data Out (A : Type 0) : Type 0 where
  got : A → State → Out A
  stop : Refusal → Out A

abbrev pub Reader : Type 0 → Type 0
Reader A = State → Out A

infixl 1 ◌>>=◌
infixl 1 ◌>>◌
abbrev pub follow : {A B : Type 0} → Out A → (A → Reader B) → Out B
follow (got a s) f = f a s
follow (stop r) f = stop r

unfoldable pub ◌>>=◌ : {A B : Type 0} → Reader A → (A → Reader B) → Reader B
◌>>=◌ p f s = follow (p s) f

abbrev pub ◌>>◌ : {A B : Type 0} → Reader A → Reader B → Reader B
◌>>◌ p q = p >>= λ _. q

unfoldable pub return : {A : Type 0} → A → Reader A
return a s = got a s

-- ---- the refusals: the three below are all that stop a reading

unfoldable pub refuse : {A : Type 0} → ℕ → ℕ → Reader A
refuse n p s = stop (refusal n p)

-- refusal n at p unless the test holds
unfoldable pub require : Bool → ℕ → ℕ → Reader (Unit {0})
require true n p s = got tt s
require false n p s = stop (refusal n p)

abbrev pub octet_of : State → List ℕ → Out ℕ
octet_of s [] = stop (refusal 1 s.at)
octet_of s (b ∷ l) = got b (record { at = s.at + 1; left = l; env = s.env })

-- the next octet. 01: "1 | octets end too soon | their count" (where none is left, the place is the count)
unfoldable pub octet : Reader ℕ
octet s = octet_of s s.left

-- ---- what a reading can look at

unfoldable pub here : Reader ℕ
here s = got s.at s

-- the octets from here on
unfoldable pub ahead : Reader (List ℕ)
ahead s = got s.left s

-- the identities
unfoldable pub names : Reader Env
names s = got s.env s

unfoldable pub rename : Env → Reader (Unit {0})
rename e s = got tt (record { at = s.at; left = s.left; env = e })

unfoldable pub either : {A : Type 0} → Bool → Reader A → Reader A → Reader A
either true p q = p
either false p q = q

-- ---- where a reading stands

-- at a place of the octets o
unfoldable pub stand : List ℕ → ℕ → Env → State
stand o at e = record { at = at; left = drop at o; env = e }

-- at the first of the octets o, with no identity given
abbrev pub start : List ℕ → State
start o = record { at = 0; left = o; env = record { opened = []; ended = [] } }
