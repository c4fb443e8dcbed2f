-- What the answers of the code say, as readings at a place.
use Rattle.std.specs.Prelude.{◌≡◌, Bool, not, ◌&&◌, ◌||◌, List, ◌⊎◌, ℕ, ◌+◌, ◌*◌, ◌^◌, ◌<◌, ◌≤◌, length, take, drop, eqb, leb, Option, Some, None, Result, Ok, Err}
use Rattle.reading.specs.declared.Refusal.{Refusal}
use Rattle.reading.specs.Reading.{Env, State, Out, got, stop, refusal, Reader, stand, ◌>>=◌, return}
use Rattle.integer.specs.Packed.{Width, wide16, wide32, wide64, integer}
use Rattle.integer.specs.Windows.{little, ends}
use Rattle.format.specs.Data.{big, character}
use Rattle.scalar.specs.declared.Bits.{Bits}
use Rattle.scalar.specs.declared.Bits.TheVariants.{Bits16, Bits32, Bits64}

-- ---- what is passed

-- a reading of which only the place past it is asked
abbrev pub skip : {A : Type 0} → Reader A → Reader (Unit {0})
skip p = p >>= λ _. return tt

abbrev pub passed_out : List ℕ → Env → Result ℕ Refusal → Out (Unit {0})
passed_out o e (Ok next) = got tt (stand o next e)
passed_out o e (Err r) = stop r

-- the place past it lies within the octets, and by so many further on
abbrev pub PastOf : ℕ → List ℕ → ℕ → Result ℕ Refusal → Type 0
PastOf least o at (Ok next) = (at + least ≤ next) × (next ≤ length o)
PastOf least o at (Err r) = Unit {0}

-- p is passed from a place on, and takes so many octets at least
pub record Passes {A : Type 0} (least : ℕ) (o : List ℕ) (at : ℕ) (p : Reader A) (r : Result ℕ Refusal) : Type 0 where
  pub same : (e : Env) → passed_out o e r ≡ skip p (stand o at e)
  pub past : PastOf least o at r

-- ---- integers

abbrev pub width_of : Bits → Width
width_of Bits16 = wide16
width_of Bits32 = wide32
width_of Bits64 = wide64

-- k octets after the first, of which the last is b, hold a number that fits where k * 256 + b is at most this. (Of at most seven.)
abbrev pub most_of : Bits → ℕ
most_of Bits16 = 515
most_of Bits32 = 1039
most_of Bits64 = 1919

-- so an integer is in its shortest form and fits. (Where k is 0, b is the first octet.)
abbrev pub fitting : Bits → ℕ → ℕ → Bool
fitting w k b = (eqb k 0 || not (eqb b 0)) && leb (k * 256 + b) (most_of w)

-- ---- integers, one after another

-- what is known of the sixteen octets from a place on: which of them aren't continued, of the first eight and of the next. Where `near` is 0, nothing.
pub record Ahead (o : List ℕ) (at near far : ℕ) : Type 0 where
  pub known : (near ≡ 0 → ⊥) → (near ≡ ends 8 (little 8 o at)) × (far ≡ ends 8 (little 8 o (at + 8)))

-- an integer is passed, and what lies ahead of the place past it
abbrev pub RanIs : Bits → List ℕ → ℕ → Result (ℕ × ℕ × ℕ) Refusal → Type 0
RanIs w o at (Ok (next, near, far)) = Passes 1 o at (integer (width_of w)) (Ok next) × Ahead o next near far
RanIs w o at (Err r) = Passes 1 o at (integer (width_of w)) (Err r)

pub record Runs (w : Bits) (o : List ℕ) (at : ℕ) (r : Result (ℕ × ℕ × ℕ) Refusal) : Type 0 where
  pub is : RanIs w o at r

-- ---- dates and times

abbrev pub moment_out : List ℕ → Env → Result (ℕ × ℕ) Refusal → Out ℕ
moment_out o e (Ok (next, n)) = got n (stand o next e)
moment_out o e (Err r) = stop r

-- the place past it lies further on, within the octets, and it has at most so many integers
abbrev pub MomentPast : List ℕ → ℕ → ℕ → Result (ℕ × ℕ) Refusal → Type 0
MomentPast o at most (Ok (next, n)) = (at < next) × (next ≤ length o) × (n ≤ most)
MomentPast o at most (Err r) = Unit {0}

-- p, which counts integers, is passed from a place on
pub record Passing (o : List ℕ) (at most : ℕ) (p : Reader ℕ) (r : Result (ℕ × ℕ) Refusal) : Type 0 where
  pub same : (e : Env) → moment_out o e r ≡ p (stand o at e)
  pub past : MomentPast o at most r

-- ---- values of octets that are accepted

-- the sizes of a number of fixed size
abbrev pub Size : ℕ → Type 0
Size n = (n ≡ 1) ⊎ ((n ≡ 4) ⊎ (n ≡ 8))

-- n octets from a place on, most significant first
abbrev pub big_at : List ℕ → ℕ → ℕ → ℕ
big_at o at n = big 0 (take n (drop at o))

-- (where there is none, a desk line's reason, which no reading gives)
abbrev pub code_out : List ℕ → Env → Option (ℕ × ℕ) → Out ℕ
code_out o e (Some (next, c)) = got c (stand o next e)
code_out o e None = stop (refusal 17 0)

abbrev pub CodePast : List ℕ → ℕ → Option (ℕ × ℕ) → Type 0
CodePast o at (Some (next, c)) = (at < next) × (next ≤ length o) × (c < 2 ^ 16)
CodePast o at None = Unit {0}

-- where a character is accepted, the answer is its code and the place past it
pub record Codes (o : List ℕ) (at : ℕ) (r : Option (ℕ × ℕ)) : Type 0 where
  pub same : (e : Env) (c : ℕ) (s : State) → character (stand o at e) ≡ got c s → code_out o e r ≡ got c s
  pub past : CodePast o at r
