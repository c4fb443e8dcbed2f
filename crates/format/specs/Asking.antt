-- Asking a row (01, "Asking a row"), and looking up a label (01, "The rows").
use Rattle.std.specs.Prelude.{Bool, cond, ◌&&◌, List, [], ◌∷◌, ℕ, ◌^◌, ltb, eqb, ℤ, pos, negsuc}
use Rattle.std.specs.Int.Signed.{mag, non_neg}
use Rattle.reading.specs.Reading.{refusal}
use Rattle.format.specs.declared.Row.{Row}
use Rattle.format.specs.declared.As.{As}
use Rattle.format.specs.declared.As.TheVariants.{Int16, Int32, Int64, Octet, Char, Boolean}
use Rattle.format.specs.Types.{Datum, packed, fixed, code, amount, implied, Sort, integral, octet, char, boolean, null, other, kind_of}
use Rattle.format.specs.Data.{within, eq_z}
use Rattle.format.specs.Message.{Answer, ok, refused, unless}

-- 01: "Possible are: the type's range (boolean 32-bit, float32 0..4,294,967,295, float64 signed 64-bit); 0..2,147,483,647 for a length, size, version,
-- identity or reference; the fixed number for the rest."
abbrev pub possible : Datum → ℤ → Bool
possible (packed w) z = ltb (mag z) w.bound
possible (fixed n) z = cond (ltb n 8) (non_neg z && ltb (mag z) (256 ^ n)) (ltb (mag z) (2 ^ 63))
possible code z = non_neg z && ltb (mag z) (2 ^ 16)
possible amount z = non_neg z && ltb (mag z) (2 ^ 31)
possible (implied y) z = eq_z z y

-- "All else is 15"
abbrev pub cannot : Answer ℤ
cannot = refused (refusal 15 0)

abbrev pub fitting : Bool → ℤ → Answer ℤ
fitting t z = unless t 15 (ok z)

-- an octet or a char of top at most: "besides, -1 is 255 as octet and 65,535 as char"
abbrev pub narrow : ℤ → ℤ → Answer ℤ
narrow top z = cond (eq_z z (negsuc 0)) (ok top) (fitting (within (pos 0) top z) z)

-- 01: "An integer row gives any of the first five where the value fits (octet 0..255, char 0..65,535)"
abbrev pub integer_as : As → ℤ → Answer ℤ
integer_as Int16 z = fitting (ltb (mag z) (2 ^ 15)) z
integer_as Int32 z = fitting (ltb (mag z) (2 ^ 31)) z
integer_as Int64 z = fitting (ltb (mag z) (2 ^ 63)) z
integer_as Octet z = narrow (pos 255) z
integer_as Char z = narrow (pos 65535) z
integer_as Boolean z = cannot

-- 01: "boolean 0 or 1 (any nonzero is 1)"
abbrev pub truth : ℤ → ℤ
truth z = cond (eq_z z (pos 0)) (pos 0) (pos 1)

-- the identifier of the type asked for
abbrev pub asked : As → ℤ
asked Int16 = negsuc 0
asked Int32 = negsuc 1
asked Int64 = negsuc 2
asked Octet = negsuc 11
asked Char = negsuc 13
asked Boolean = negsuc 10

-- z if the type asked for is t
abbrev pub only : ℤ → As → ℤ → Answer ℤ
only t a z = unless (eq_z (asked a) t) 15 (ok z)

-- 01: "Octet, char and boolean rows give their own type only". "Null gives 0. All else is 15."
abbrev pub sort_as : Sort → As → ℤ → Answer ℤ
sort_as integral a z = integer_as a z
sort_as octet a z = only (asked Octet) a z
sort_as char a z = only (asked Char) a z
sort_as boolean a z = only (asked Boolean) a (truth z)
sort_as null a z = ok (pos 0)
sort_as other a z = cannot

-- 01: "An unknown or uncarried type, or a number impossible for the row's type, is 14."
unfoldable pub ask : As → Row → Answer ℤ
ask a r =
    unless (kind_of r.ty).carried 14
    (unless (possible (kind_of r.ty).datum r.number) 14
    (sort_as (kind_of r.ty).sort a r.number))

-- 01: "the desk's lookup takes a run of whole row records and a label: the first row with it is asked as below, 16 if none"
unfoldable pub lookup : List Row → ℕ → As → Answer ℤ
lookup [] i a = refused (refusal 16 0)
lookup (r ∷ rs) i a = cond (eqb r.label i) (ask a r) (lookup rs i a)
