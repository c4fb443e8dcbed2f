-- What the answers of the code say, as readings at a place.
use Rattle.std.specs.Prelude.{◌≡◌, cond, List, ℕ, ◌+◌, ◌*◌, ◌%◌, ◌<◌, ◌≤◌, ◌^◌, length, ltb, eqb, ℤ, pos, negsuc, Result, Ok, Err}
use Rattle.reading.specs.declared.Refusal.{Refusal}
use Rattle.reading.specs.Reading.{Env, State, Out, got, stop, Reader, refusal, stand, ◌>>=◌, ◌>>◌, return, require}
use Rattle.integer.specs.Packed.{Width, width, wide32, wide64, further, integer}
use Rattle.integer.specs.declared.Signed.{Signed}
use Rattle.integer.specs.declared.Signed.TheVariants.{Positive, Negative}

-- ---- the entries

-- what was read and the place past it, or a refusal, as a reading from a place on; `number` says which integer a value is
abbrev pub out : {A : Type 0} → (A → ℤ) → List ℕ → Env → Result (ℕ × A) Refusal → Out ℤ
out number o e (Ok (next, z)) = got (number z) (stand o next e)
out number o e (Err r) = stop r

-- the place past an integer lies further on, and within the octets
abbrev pub Past : {A : Type 0} → List ℕ → ℕ → Result (ℕ × A) Refusal → Type 0
Past o at (Ok (next, z)) = (at < next) × (next ≤ length o)
Past o at (Err r) = Unit {0}

pub record Reads {A : Type 0} (number : A → ℤ) (w : Width) (o : List ℕ) (at : ℕ) (r : Result (ℕ × A) Refusal) : Type 0 where
  pub same : (e : Env) → out number o e r ≡ integer w (stand o at e)
  pub past : Past o at r

-- of octets that hold a 64-bit integer there
pub record Knows64 (o : List ℕ) (at : ℕ) (r : Result (ℕ × ℤ) Refusal) : Type 0 where
  pub same : (e : Env) (z : ℤ) (s : State) → integer wide64 (stand o at e) ≡ got z s → out (λ z. z) o e r ≡ got z s
  pub past : Past o at r

abbrev pub signed : Signed → ℤ
signed (Positive n) = pos n
signed (Negative n) = negsuc n

abbrev pub magnitude : Signed → ℕ
magnitude (Positive n) = n
magnitude (Negative n) = n

abbrev pub PastSigned : List ℕ → ℕ → Result (ℕ × Signed) Refusal → Type 0
PastSigned o at (Ok (next, z)) = (at < next) × (next ≤ length o) × (magnitude z < 2 ^ 31)
PastSigned o at (Err r) = Unit {0}

pub record ReadsSigned (o : List ℕ) (at : ℕ) (r : Result (ℕ × Signed) Refusal) : Type 0 where
  pub same : (e : Env) → out signed o e r ≡ integer wide32 (stand o at e)
  pub past : PastSigned o at r

-- ---- the parts

-- n of an integer that starts at p with the octet b, which is continued: the rest of `integer`
unfoldable pub tail : Width → ℕ → ℕ → Reader ℕ
tail w b p = do
  m ← further w.more p
  require (ltb (b % 64 + 64 * m) w.bound) 3 p
  return (b % 64 + 64 * m)

-- the place past an integer and its n, or a refusal
abbrev pub mag_out : List ℕ → Env → Result (ℕ × ℕ) Refusal → Out ℕ
mag_out o e (Ok (next, n)) = got n (stand o next e)
mag_out o e (Err r) = stop r

abbrev pub PastMag : List ℕ → ℕ → ℕ → Result (ℕ × ℕ) Refusal → Type 0
PastMag o at bound (Ok (next, n)) = (at < next) × (next ≤ length o) × (n < bound)
PastMag o at bound (Err r) = Unit {0}

pub record Tail (more bound : ℕ) (o : List ℕ) (at b : ℕ) (r : Result (ℕ × ℕ) Refusal) : Type 0 where
  pub same : (e : Env) → mag_out o e r ≡ tail (width bound more) b at (stand o (at + 1) e)
  pub past : PastMag o at bound r

-- the first octet, and the bits of those after it, the last of which must not be 0
abbrev pub joined_of : ℕ → ℕ → ℕ → ℕ → ℕ → ℕ → Result (ℕ × ℕ) Refusal
joined_of at first bits last next bound =
    cond (eqb last 0) (Err (refusal 3 at))
    (cond (ltb (first % 64 + 64 * bits) bound) (Ok (next, first % 64 + 64 * bits)) (Err (refusal 3 at)))
