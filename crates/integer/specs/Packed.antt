-- Packed integers (01, "Packed integers"; 002, E.2.1), over the width.
use Rattle.std.specs.Prelude.{◌≡◌, Bool, true, false, not, List, [], ◌∷◌, ℕ, zero, suc, ◌+◌, ◌*◌, ◌/◌, ◌%◌, ◌^◌, ◌≤◌, ltb, eqb, ℤ, pos, negsuc}
use Rattle.std.specs.Int.Signed.{mag}
use Rattle.reading.specs.Reading.{Reader, ◌>>=◌, ◌>>◌, return, refuse, require, octet, here, either}

-- A width: n is below `bound`, and at most `more` octets follow the first.
pub record Width : Type 0 where
  pub bound : ℕ
  pub more : ℕ

abbrev pub width : ℕ → ℕ → Width
width n k = record { bound = n; more = k }

-- what the code asks of a width
pub record Packable (bound more : ℕ) : Type 0 where
  pub by_64 : bound % 64 ≡ 0
  pub most : 64 ≤ bound
  pub few : more ≤ 9

-- 01: "An integer is 32-bit signed wherever no type says otherwise." "Five octets (ten for int64)"
abbrev pub wide32 : Width
wide32 = record { bound = 2 ^ 31; more = 4 }

-- 01: "For int16 the integer is read as 32-bit and then limited to -32,768 to 32,767." (Both are refusal 3 at its first octet.)
abbrev pub wide16 : Width
wide16 = record { bound = 2 ^ 15; more = 4 }

abbrev pub wide64 : Width
wide64 = record { bound = 2 ^ 63; more = 9 }

-- ---- reading an integer that starts at p

-- 01: "A following octet holds 0x80 continuation and seven more bits; the rest is written the same way, seven bits at a time, low bits first."
-- "the last octet of two or more isn't 0x00". "Five octets (ten for int64) with the last still marked as continued are refusal 3; ending sooner
-- while continued is 1."
unfoldable pub further : ℕ → ℕ → Reader ℕ
further zero p = refuse 3 p
further (suc k) p = do
  b ← octet
  either (ltb b 128)
      (do
        require (not (eqb b 0)) 3 p
        return b)
      (do
        n ← further k p
        return (b % 128 + 128 * n))

-- 01: "If negative, the value is -1 - n."
abbrev pub sign : Bool → ℕ → ℤ
sign true n = pos n
sign false n = negsuc n

-- the first octet's bit 0x40 is not set
abbrev pub positive : ℕ → Bool
positive b = ltb (b % 128) 64

-- 01: "The first octet holds 0x80 continuation, 0x40 negative, and the low six bits of n." "the value must fit"
unfoldable pub integer : Width → Reader ℤ
integer w = do
  p ← here
  b ← octet
  n ← either (ltb b 128)
      (return (b % 64))
      (do
        m ← further w.more p
        return (b % 64 + 64 * m))
  require (ltb n w.bound) 3 p
  return (sign (positive b) n)

-- ---- spelling an integer, in the shortest form

-- the octets after the first. (The fuel, more than the number, bounds how often it is divided by 128.)
unfoldable pub groups_by : ℕ → ℕ → List ℕ
groups_by zero n = []
groups_by (suc k) n = elim (ltb n 128) [ true ↦ n ∷ [] | false ↦ (n % 128 + 128) ∷ groups_by k (n / 128) ]

unfoldable pub groups : ℕ → List ℕ
groups n = groups_by (suc n) n

-- n with the sign bit f, which is 0 or 0x40
unfoldable pub spell_with : ℕ → ℕ → List ℕ
spell_with f n = elim (ltb n 64) [ true ↦ (f + n) ∷ [] | false ↦ (f + 128 + n % 64) ∷ groups (n / 64) ]

abbrev pub sign_bit : ℤ → ℕ
sign_bit (pos n) = 0
sign_bit (negsuc n) = 64

-- `mag z` is n, both of n and of -1 - n
unfoldable pub spell_int : ℤ → List ℕ
spell_int z = spell_with (sign_bit z) (mag z)
