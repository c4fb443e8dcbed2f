-- Where an octet stands.
use Rattle.std.specs.Prelude.{◌≡◌, ℕ, suc, ◌+◌, ◌<◌, Bool, true, false, ◌==◌, List, [], ◌∷◌, Option, Some, None, take, drop}

-- the octets from `from` up to `to`
unfoldable pub slice : ℕ → ℕ → List ℕ → List ℕ
slice from to l = drop from (take to l)

-- 0 where it is found, else one more than later on
unfoldable pub index_after : Bool → ℕ → ℕ
index_after true n = 0
index_after false n = suc n

-- how many octets come before the first b; all, where there is none
unfoldable pub index_of : ℕ → List ℕ → ℕ
index_of b [] = 0
index_of b (x ∷ l) = index_after (x == b) (index_of b l)

-- what a search from `from` up to `to` says, where n octets come before the first one sought: its place; or that n octets reach up to `to`
abbrev pub Found : ℕ → ℕ → ℕ → Option ℕ → Type 0
Found from to n (Some k) = (k ≡ from + n) × (k < to)
Found from to n None = to ≡ from + n
