-- The next value of a container.
use Rattle.std.specs.Prelude.{◌≡◌, Bool, true, false, cond, List, ℕ, suc, ◌<◌, ◌≤◌, length, ltb, leb, ℤ, negsuc, Result, Ok, Err}
use Rattle.std.specs.Int.Signed.{mag, non_neg}
use Rattle.reading.specs.declared.Refusal.{Refusal}
use Rattle.reading.specs.Reading.{Env, State, Out, got, stop, refusal, stand}
use Rattle.integer.specs.Packed.{wide32, integer}
use Rattle.format.specs.Data.{eq_z}
use Rattle.format.specs.Values.{label}
use Rattle.decide.specs.declared.Next.{Next}
use Rattle.decide.specs.declared.Next.TheVariants.{Value, End}

-- whether a value follows: a refusal, the end, or a value with its label; and the state there
pub data Coming : Type 0 where
  halt : Refusal → Coming
  ends : State → Coming
  go : ℕ → State → Coming

-- by the index that was read at p
abbrev pub coming_by_index : ℕ → ℕ → ℕ → Out ℤ → Coming
coming_by_index p top low (stop r) = halt r
coming_by_index p top low (got z s) =
    cond (eq_z z (negsuc 0)) (ends s)
    (cond (non_neg z) (cond (leb low (mag z)) (cond (ltb (mag z) top) (go (mag z) s) (halt (refusal 5 p))) (halt (refusal 5 p))) (halt (refusal 5 p)))

-- with indexes (x), `count` is what they stay below and `low` the least that may come; else so many values, and the position of the next
abbrev pub coming : Bool → Bool → ℕ → ℕ → State → Coming
coming true paired count low s = coming_by_index s.at count low (integer wide32 s)
coming false paired count low s = cond (ltb low count) (go (label paired low) s) (ends s)

-- `low` after a value with label j
abbrev pub next_low : Bool → ℕ → ℕ → ℕ
next_low x j low = cond x (suc j) (suc low)

-- ---- as the code answers

abbrev pub next_out : List ℕ → Env → Result Next Refusal → Coming
next_out o e (Ok (Value next j k)) = go j (stand o next e)
next_out o e (Ok (End next)) = ends (stand o next e)
next_out o e (Err r) = halt r

-- the place lies further on, and `low` rises to k
abbrev pub PastNext : List ℕ → Bool → ℕ → ℕ → ℕ → Result Next Refusal → Type 0
PastNext o x count low at (Ok (Value next j k)) = (at ≤ next) × (next ≤ length o) × (low < k) × (k ≤ count) × (k ≡ next_low x j low)
PastNext o x count low at (Ok (End next)) = (at ≤ next) × (next ≤ length o)
PastNext o x count low at (Err r) = Unit {0}

pub record NextAt (o : List ℕ) (x paired : Bool) (count low at : ℕ) (r : Result Next Refusal) : Type 0 where
  pub same : (e : Env) → next_out o e r ≡ coming x paired count low (stand o at e)
  pub past : PastNext o x count low at r

-- with indexes, whatever the flag of pairs
pub record IndexNext (o : List ℕ) (top low at : ℕ) (r : Result Next Refusal) : Type 0 where
  pub next : (paired : Bool) → NextAt o true paired top low at r
