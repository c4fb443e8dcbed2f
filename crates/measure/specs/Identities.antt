-- The identities of a message, and what giving one and ending one makes of them.
use Rattle.std.specs.Prelude.{◌≡◌, List, [], ◌∷◌, ℕ, zero, suc, ◌+◌, get_or, Option, Some, None}
use Rattle.reading.specs.Reading.{Env}
use Rattle.format.specs.Types.{Names, silent, gives}
use Rattle.format.specs.Values.{begun, closed}
use Rattle.measure.specs.declared.identities.Identities.{Identities}

-- the first n numbers, the last of them first
unfoldable pub listed : List ℕ → ℕ → List ℕ
listed l zero = []
listed l (suc n) = get_or l n 0 ∷ listed l n

unfoldable pub env_of : Identities → Env
env_of l = record { opened = listed l.given l.given_count; ended = listed l.ended l.ended_count }

-- whether a value gives an identity, and its number
abbrev pub name_of : Option ℕ → Names
name_of None = silent
name_of (Some x) = gives

abbrev pub number_of : Option ℕ → ℕ
number_of None = 0
number_of (Some x) = x

abbrev pub one : Option ℕ → ℕ
one None = 0
one (Some x) = 1

-- an identity given or ended, if there is one
pub record Begun (l : Identities) (id : Option ℕ) (after : Identities) : Type 0 where
  pub env_is : env_of after ≡ begun (name_of id) (number_of id) (env_of l)
  pub more : after.given_count ≡ l.given_count + one id
  pub as_many : after.ended_count ≡ l.ended_count

pub record Closed (l : Identities) (id : Option ℕ) (after : Identities) : Type 0 where
  pub env_is : env_of after ≡ closed (name_of id) (number_of id) (env_of l)
  pub as_many : after.given_count ≡ l.given_count
  pub more : after.ended_count ≡ l.ended_count + one id
