-- A number in decimal, as a field says it: a minus or none, and 1 to 19 digits.
use Rattle.std.specs.Prelude.{Bool, true, false, cond, ◌&&◌, List, [], ◌∷◌, ℕ, zero, suc, ◌+◌, ◌-◌, ◌*◌, length, get_or, drop, leb, eqb, ℤ, pos, negsuc, Option, Some, None}
use Rattle.format.specs.Desk.{every}

-- 0 to 9
abbrev pub is_decimal : ℕ → Bool
is_decimal d = leb 0x30 d && leb d 0x39

abbrev pub all_decimal : List ℕ → Bool
all_decimal l = every is_decimal l

-- what digits say, after those that say n
unfoldable pub digits_on : ℕ → List ℕ → ℕ
digits_on n [] = n
digits_on n (d ∷ l) = digits_on (n * 10 + (d - 0x30)) l

-- n with a minus, or without one
abbrev pub signed : Bool → ℕ → ℤ
signed true zero = pos 0
signed true (suc n) = negsuc n
signed false n = pos n

-- after a minus, or without one
unfoldable pub digits_of : Bool → List ℕ → Option ℤ
digits_of minus l =
    cond (leb 1 (length l) && leb (length l) 19 && all_decimal l) (Some (signed minus (digits_on 0 l))) None

unfoldable pub numeral_of : List ℕ → Option ℤ
numeral_of l = cond (eqb (get_or l 0 0) 0x2D) (digits_of true (drop 1 l)) (digits_of false l)

-- the integer that a field says (0 where it says none)
abbrev pub integer_of : Option ℤ → ℤ
integer_of (Some z) = z
integer_of None = pos 0

abbrev pub is_number : Option ℤ → Bool
is_number (Some z) = true
is_number None = false
