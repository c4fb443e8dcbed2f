-- Where a rule ends: octets that are accepted, and spelt again as they were, on one side of it, and refused on the other; and what some types are asked for.
-- The laws are proved of the definitions in a crate above; these few cases stand here so that a bent definition is refused in its own crate.
use mathlib.Core.Path.{◌≡◌, refl}
use mathlib.Core.Bool.{Bool, true, false, ◌&&◌}
use mathlib.Core.List.{List, [], ◌∷◌}
use Prim.Native.Nat.{ℕ, zero, suc}
use lib.Dec.{eqb}
use lib.IntN.{ℤ, pos, negsuc}
use Rattle.reading.specs.Reading.{number_of, ◌>>=◌, return, refuse, require, octet, here, ahead, names, rename, either}
use Rattle.integer.specs.Packed.{further, integer, groups_by, groups, spell_with, spell_int}
use Rattle.format.specs.declared.As.TheVariants.{Int32}
use Rattle.format.specs.Types.{kind_of}
use Rattle.format.specs.Data.{eq_z, eq_list, run, big_spelt, spell_char, is_char, character, chars, contents, number, spell_number, element, spell_element, integers, fits, moment}
use Rattle.format.specs.Values.{Value, rule_of, has, allow, enter, leave, each, turns, pairs, pieces, children, front, data_of, outermost}
use Rattle.format.specs.Spelling.{fore, spell_children, spell}
use Rattle.format.specs.Message.{Answer, ok, refused, ends, whole_message, message}
use Rattle.format.specs.Asking.{ask}

data Side : Type 0 where
  accepts : List ℕ → Side  -- an accepted message, and the spelling of what it says
  refuses : ℕ → ℕ → List ℕ → Side  -- refused with a number at a place
  asks : ℤ → ℤ → ℤ → Side  -- a row of a type with a number, asked for as int32, gives this
  asks_not : ℤ → ℤ → Side  -- it cannot be had

abbrev spells : List ℕ → Answer Value → Bool
spells o (ok v) = eq_list eqb (spell v) o
spells o (refused r) = false

abbrev stops : ℕ → ℕ → Answer Value → Bool
stops n p (ok v) = false
stops n p (refused r) = eqb (number_of r.reason) n && eqb r.place p

abbrev gives : ℤ → Answer ℤ → Bool
gives z (ok y) = eq_z y z
gives z (refused r) = false

abbrev lacks : Answer ℤ → Bool
lacks (ok y) = false
lacks (refused r) = eqb (number_of r.reason) 15

abbrev asked : ℤ → ℤ → Answer ℤ
asked t z = ask Int32 (record { ty = t; own = 1; label = 0; number = z; first = pos 0; second = pos 0; place = 0; below = 0; start = 0; end = 1 })

abbrev holds : Side → Bool
holds (accepts o) = spells o (message o)
holds (refuses n p o) = stops n p (message o)
holds (asks t n z) = gives z (asked t n)
holds (asks_not t n) = lacks (asked t n)

abbrev all : List Side → Bool
all [] = true
all (c ∷ l) = holds c && all l

-- 1 in n collections, each of one value
abbrev nested : ℕ → List ℕ
nested zero = 0x6A ∷ []
nested (suc n) = 0x55 ∷ 0x01 ∷ nested n

sides : List Side
sides =
    accepts (nested 15)  -- 16 levels
    ∷ refuses 8 32 (nested 16)
    ∷ accepts (0x55 ∷ 0x02 ∷ 0x5E ∷ 0x00 ∷ 0x6A ∷ 0x5F ∷ 0x00 ∷ [])  -- a reference to an identity that has ended
    ∷ refuses 10 5 (0x5E ∷ 0x00 ∷ 0x55 ∷ 0x01 ∷ 0x5F ∷ 0x00 ∷ [])  -- and to one that holds it
    ∷ refuses 9 6 (0x55 ∷ 0x02 ∷ 0x5E ∷ 0x00 ∷ 0x6A ∷ 0x5E ∷ 0x00 ∷ 0x6A ∷ [])  -- an identity given twice
    ∷ accepts (0x59 ∷ 0x05 ∷ 0x00 ∷ 0x6A ∷ 0x04 ∷ 0x6A ∷ 0x40 ∷ [])  -- indexes that rise, below the size
    ∷ refuses 5 4 (0x59 ∷ 0x05 ∷ 0x00 ∷ 0x6A ∷ 0x00 ∷ 0x6A ∷ 0x40 ∷ [])
    ∷ refuses 5 4 (0x59 ∷ 0x05 ∷ 0x00 ∷ 0x6A ∷ 0x05 ∷ 0x6A ∷ 0x40 ∷ [])
    ∷ accepts (0x5D ∷ 0x41 ∷ 0x4E ∷ 0x01 ∷ 0x01 ∷ 0x02 ∷ 0x6F ∷ 0x6B ∷ [])  -- a uniform map: key type, value type, size
    ∷ accepts (0x4D ∷ 0xC0 ∷ 0x80 ∷ [])  -- the char 0
    ∷ refuses 6 1 (0x4D ∷ 0x00 ∷ [])
    ∷ accepts (0x4F ∷ 0x00 ∷ 0x02 ∷ 0x1D ∷ [])  -- year 0 has a 29th of February
    ∷ refuses 7 1 (0x4F ∷ 0x01 ∷ 0x02 ∷ 0x1D ∷ [])
    ∷ asks (negsuc 36) (pos 0) (pos 0)  -- null is -37, spelt 0x64
    ∷ asks_not (negsuc 32) (pos 0)  -- 0x60 is false
    ∷ asks (negsuc 63) (pos 22) (pos 22)  -- 22 is -64, spelt 0x7F
    ∷ []

together : all sides ≡ true
unfolding sides further integer groups_by groups spell_with spell_int kind_of eq_list run big_spelt spell_char is_char character chars contents number spell_number element spell_element integers fits moment rule_of has allow enter leave each turns pairs pieces children front data_of outermost fore spell_children spell ends whole_message message ask ◌>>=◌ return refuse require octet here ahead names rename either
together = refl
