-- Eight octets at once: a word of n octets is one number, the first octet lowest.
use Rattle.std.specs.Prelude.{cond, List, ℕ, zero, suc, ◌+◌, ◌-◌, ◌*◌, ◌/◌, ◌%◌, ◌<◌, ◌≤◌, get_or, ltb}
use Rattle.std.specs.Int.Bits.{bit_and}

-- the n octets from a place on
unfoldable pub little : ℕ → List ℕ → ℕ → ℕ
little zero o at = 0
little (suc n) o at = get_or o at 0 + 256 * little n o (at + 1)

-- 128 in the place of each octet that isn't continued, 0 in the places of the others
unfoldable pub ends : ℕ → ℕ → ℕ
ends zero w = 0
ends (suc n) w = cond (ltb (w % 256) 128) 128 0 + 256 * ends n (w / 256)

-- how many octets are continued before the first that isn't
unfoldable pub lead : ℕ → ℕ → ℕ
lead zero w = 0
lead (suc n) w = cond (ltb (w % 256) 128) 0 (suc (lead n (w / 256)))

-- the bits of the first k octets, seven of each
unfoldable pub sevens : ℕ → ℕ → ℕ
sevens zero w = 0
sevens (suc k) w = w % 128 + 128 * sevens k (w / 256)

-- the bits of a mask as they are, and the others moved down: divided by `by`
abbrev pub folded : ℕ → ℕ → ℕ → ℕ
folded mask by x = bit_and x mask + (x - bit_and x mask) / by

-- the seven bits of each of k octets from a place on
unfoldable pub sevens_at : ℕ → List ℕ → ℕ → ℕ
sevens_at zero o at = 0
sevens_at (suc k) o at = get_or o at 0 % 128 + 128 * sevens_at k o (at + 1)

-- the k octets from a place on are continued, and the next isn't
pub record Ending (o : List ℕ) (at k : ℕ) : Type 0 where
  pub on : (j : ℕ) → j < k → 128 ≤ get_or o (at + j) 0
  pub off : get_or o (at + k) 0 < 128
