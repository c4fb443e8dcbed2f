-- Dates and times, as code reads them: some integers at a time.
use Rattle.std.specs.Prelude.{◌≡◌, Bool, ◌&&◌, List, [], ◌++◌, ℕ, ◌+◌, ◌^◌, ◌<◌, ◌≤◌, length, ℤ, pos, negsuc, Result, Ok, Err}
use Rattle.std.specs.Int.Signed.{mag}
use Rattle.reading.specs.Reading.{Env, Out, got, stop, stand, Reader, ◌>>=◌, ◌>>◌, return, require, either}
use Rattle.format.specs.Types.{Parts, date, time, dateTime}
use Rattle.format.specs.Data.{within, integers, part, offset, time_fits, moment}
use Rattle.scalar.specs.declared.Which.{Which}
use Rattle.scalar.specs.declared.Which.TheVariants.{Date, Time, DateTime}
use Rattle.reading.specs.declared.Refusal.{Refusal}

-- n integers and the place past them, or a refusal
abbrev pub out_ints : List ℕ → Env → Result (ℕ × List ℤ) Refusal → Out (List ℤ)
out_ints o e (Ok (next, l)) = got l (stand o next e)
out_ints o e (Err r) = stop r

abbrev pub PastInts : ℕ → List ℕ → ℕ → Result (ℕ × List ℤ) Refusal → Type 0
PastInts n o at (Ok (next, l)) = (at < next) × (next ≤ length o) × (length l ≡ n) × ((i : ℕ) → i < n → mag (part i l) < 2 ^ 31)
PastInts n o at (Err r) = Unit {0}

pub record ReadsInts (n : ℕ) (o : List ℕ) (at : ℕ) (r : Result (ℕ × List ℤ) Refusal) : Type 0 where
  pub same : (e : Env) → out_ints o e r ≡ integers n (stand o at e)
  pub past : PastInts n o at r

-- hour, minute, second and fraction are in range
abbrev pub clock_fits : ℤ → ℤ → ℤ → ℤ → Bool
clock_fits h m s f =
    within (pos 0) (pos 23) h && within (pos 0) (pos 59) m && within (pos 0) (pos 59) s
    && within (negsuc 999999998) (pos 999) f

-- ---- what is passed of them

-- a date or time, of which only the count of its integers is asked
abbrev pub count_of : Parts → Reader ℕ
count_of d = moment d >>= λ l. return (length l)

-- two integers of an offset, in range, after others that fit or not; all of them are n, and start at p
unfoldable pub offsets : Bool → ℕ → ℕ → Reader ℕ
offsets ok p n = do
  x ← integers 2
  require (ok && within (negsuc 17) (pos 18) (part 0 x) && within (pos 0) (pos 59) (part 1 x)) 7 p
  return n

-- a time, after n integers of a date that fit or not; all of them start at p
unfoldable pub clock : Bool → ℕ → ℕ → Reader ℕ
clock ok p n = do
  l ← integers 5
  x ← either (offset time l) (integers 2) (return [])
  require (ok && time_fits (l ++ x)) 7 p
  return (n + length (l ++ x))

abbrev pub parts_of : Which → Parts
parts_of Date = date
parts_of Time = time
parts_of DateTime = dateTime
