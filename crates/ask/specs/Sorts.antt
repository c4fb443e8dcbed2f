-- A row's sort, as the code finds it from the type and the number.
use Rattle.std.specs.Prelude.{cond, ℕ, zero, suc, ◌-◌, ◌^◌, ltb, ℤ, pos, negsuc, Option, Some, None}
use Rattle.format.specs.Types as types
use Rattle.format.specs.Types.{Datum, packed, fixed, code, amount, implied}
use Rattle.format.specs.declared.As.{As}
use Rattle.format.specs.Message.{Answer}
use Rattle.format.specs.Asking.{possible, integer_as, cannot}
use Rattle.ask.specs.declared.tables.Sort.{Sort}
use Rattle.ask.specs.declared.tables.Sort.TheVariants.{Integer, Octet, Char, Boolean, Null, Other}
use Rattle.ask.specs.declared.tables.Kind.{Kind}

abbrev pub sorted : types.Sort → Sort
sorted types.integral = Integer
sorted types.octet = Octet
sorted types.char = Char
sorted types.boolean = Boolean
sorted types.null = Null
sorted types.other = Other

-- the range of the numbers that a datum can say (none where an integer's bound is 0)
abbrev pub lowest_below : ℕ → ℤ
lowest_below zero = pos 1
lowest_below (suc n) = negsuc n

abbrev pub highest_below : ℕ → ℤ
highest_below zero = pos 0
highest_below (suc n) = pos n

abbrev pub lowest : Datum → ℤ
lowest (packed w) = lowest_below w.bound
lowest (fixed n) = cond (ltb n 8) (pos 0) (negsuc (2 ^ 63 - 1))
lowest code = pos 0
lowest amount = pos 0
lowest (implied y) = y

abbrev pub highest : Datum → ℤ
highest (packed w) = highest_below w.bound
highest (fixed n) = cond (ltb n 8) (pos (256 ^ n - 1)) (pos (2 ^ 63 - 1))
highest code = pos (2 ^ 16 - 1)
highest amount = pos (2 ^ 31 - 1)
highest (implied y) = y

-- the rows of a type, where it is carried
abbrev pub numbers_of : types.Kind → Option Kind
numbers_of k = cond k.carried (Some (record { 0 = sorted k.sort; 1 = lowest k.datum; 2 = highest k.datum })) None

-- the sort of a row with number z, where its type is carried and the number is possible
abbrev pub judged : types.Kind → ℤ → Option Sort
judged k z = cond k.carried (cond (possible k.datum z) (Some (sorted k.sort)) None) None

-- what an integer answers as a type, and a row of another sort, which says none
abbrev pub narrowed_as : Sort → As → ℤ → Answer ℤ
narrowed_as Integer a z = integer_as a z
narrowed_as Octet a z = cannot
narrowed_as Char a z = cannot
narrowed_as Boolean a z = cannot
narrowed_as Null a z = cannot
narrowed_as Other a z = cannot
