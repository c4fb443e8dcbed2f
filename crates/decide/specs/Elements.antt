-- What the answers of the code say, as readings at a place.
use Rattle.std.specs.Prelude.{◌≡◌, Bool, true, false, List, ℕ, ◌^◌, ◌<◌, ◌≤◌, length, ℤ, pos, Result, Ok, Err}
use Rattle.reading.specs.declared.Refusal.{Refusal}
use Rattle.reading.specs.Reading.{Env, Out, got, stop, stand}
use Rattle.format.specs.Types.{amount}
use Rattle.format.specs.Data.{number, element}
use Rattle.decide.specs.Classes.{elementary}

-- an integer of 0 or more
abbrev pub amount_out : List ℕ → Env → Result (ℕ × ℕ) Refusal → Out ℤ
amount_out o e (Ok (next, n)) = got (pos n) (stand o next e)
amount_out o e (Err r) = stop r

abbrev pub PastAmount : List ℕ → ℕ → Result (ℕ × ℕ) Refusal → Type 0
PastAmount o at (Ok (next, n)) = (at < next) × (next ≤ length o) × (n < 2 ^ 31)
PastAmount o at (Err r) = Unit {0}

pub record AmountAt (o : List ℕ) (at : ℕ) (r : Result (ℕ × ℕ) Refusal) : Type 0 where
  pub same : (e : Env) → amount_out o e r ≡ number amount (stand o at e)
  pub past : PastAmount o at r

-- an element type
abbrev pub ElementIs : List ℕ → ℕ → Result (ℕ × ℤ) Refusal → Type 0
ElementIs o at (Ok (next, t)) = (elementary t ≡ true) × (at < next) × (next ≤ length o) × ((e : Env) → element true (stand o at e) ≡ got t (stand o next e))
ElementIs o at (Err r) = (e : Env) → element true (stand o at e) ≡ stop r

pub record ElementAt (o : List ℕ) (at : ℕ) (r : Result (ℕ × ℤ) Refusal) : Type 0 where
  pub is : ElementIs o at r

-- an element type, where one stands
abbrev pub Elementary : Bool → ℤ → Type 0
Elementary true t = elementary t ≡ true
Elementary false t = Unit {0}

abbrev pub TypeIs : List ℕ → Bool → ℕ → Result (ℕ × ℤ) Refusal → Type 0
TypeIs o on at (Ok (next, t)) = Elementary on t × (at ≤ next) × (next ≤ length o) × ((e : Env) → element on (stand o at e) ≡ got t (stand o next e))
TypeIs o on at (Err r) = (e : Env) → element on (stand o at e) ≡ stop r

pub record TypeAt (o : List ℕ) (on : Bool) (at : ℕ) (r : Result (ℕ × ℤ) Refusal) : Type 0 where
  pub is : TypeIs o on at r
