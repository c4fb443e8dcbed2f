-- 01, "What the checker is asked to hold": the cases of 002 that are proved together, by one statement over one list.
use mathlib.Core.Path.{◌≡◌, refl}
use mathlib.Core.Bool.{Bool, true, false, ◌&&◌}
use mathlib.Core.List.{List, [], ◌∷◌}
use Prim.Native.Nat.{ℕ}
use lib.Dec.{eqb}
use lib.IntN.{ℤ, pos, negsuc}
use Rattle.reading.specs.Reading.{Out, got, stop, start, ◌>>=◌, return, refuse, require, octet, here, ahead, names, rename, either}
use Rattle.integer.specs.Packed.{wide32, further, integer, groups_by, groups, spell_with, spell_int}
use Rattle.format.specs.Types.{kind_of}
use Rattle.format.specs.Data.{eq_z, eq_list, run, spell_char, is_char, chars, contents, number, element}
use Rattle.format.specs.Values.{Value, rule_of, allow, enter, leave, each, turns, pairs, children, front, data_of, outermost}
use Rattle.format.specs.Message.{Answer, ok, refused, is_empty, ends, whole_message, message}

data Case : Type 0 where
  spells : ℤ → List ℕ → Case  -- the integer is spelt so, and these octets are read as it
  accepts : List ℕ → Case  -- the octets are an accepted message

abbrev read_as : ℤ → Out ℤ → Bool
read_as z (got y s) = eq_z y z && is_empty s.left
read_as z (stop r) = false

abbrev is_ok : Answer Value → Bool
is_ok (ok v) = true
is_ok (refused r) = false

abbrev holds : Case → Bool
holds (spells z o) = eq_list eqb (spell_int z) o && read_as z (integer wide32 (start o))
holds (accepts o) = is_ok (message o)

abbrev all : List Case → Bool
all [] = true
all (c ∷ l) = holds c && all l

cases : List Case
cases =
    spells (pos 0) (0x00 ∷ [])
    ∷ spells (pos 1) (0x01 ∷ [])
    ∷ spells (pos 99) (0xA3 ∷ 0x01 ∷ [])
    ∷ spells (pos 9999) (0x8F ∷ 0x9C ∷ 0x01 ∷ [])
    ∷ spells (negsuc 0) (0x40 ∷ [])
    ∷ spells (negsuc 1) (0x41 ∷ [])
    ∷ spells (negsuc 98) (0xE2 ∷ 0x01 ∷ [])
    ∷ spells (negsuc 9998) (0xCE ∷ 0x9C ∷ 0x01 ∷ [])
    ∷ accepts (0x4E ∷ 0x02 ∷ 0x6F ∷ 0x6B ∷ [])
    ∷ accepts (0x55 ∷ 0x03 ∷ 0x6A ∷ 0x6B ∷ 0x6C ∷ [])
    ∷ accepts (0x56 ∷ 0x41 ∷ 0x03 ∷ 0x01 ∷ 0x02 ∷ 0x03 ∷ [])
    ∷ accepts (0x59 ∷ 0x05 ∷ 0x00 ∷ 0x6A ∷ 0x04 ∷ 0x4E ∷ 0x02 ∷ 0x6F ∷ 0x6B ∷ 0x40 ∷ [])
    ∷ accepts (0x5D ∷ 0x41 ∷ 0x4E ∷ 0x02 ∷ 0x01 ∷ 0x02 ∷ 0x6F ∷ 0x6B ∷ 0x02 ∷ 0x02 ∷ 0x6E ∷ 0x6F ∷ [])
    ∷ []

together : all cases ≡ true
unfolding cases further integer groups_by groups spell_with spell_int kind_of eq_list run spell_char is_char chars contents number element rule_of allow enter leave each turns pairs children front data_of outermost ends whole_message message ◌>>=◌ return refuse require octet here ahead names rename either
together = refl
