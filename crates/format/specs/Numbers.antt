-- The numbers by which C asks for a type.
use Rattle.std.specs.Prelude.{cond, ℕ, eqb, Result, Ok, Err}
use Rattle.reading.specs.declared.Refusal.{Refusal}
use Rattle.reading.specs.Reading.{refusal}
use Rattle.format.specs.declared.As.{As}
use Rattle.format.specs.declared.As.TheVariants.{Int16, Int32, Int64, Octet, Char, Boolean}

-- the type with a number; 15 for any other
abbrev pub as_numbered : ℕ → Result As Refusal
as_numbered n =
    cond (eqb n 0) (Ok Int16)
    (cond (eqb n 1) (Ok Int32) (cond (eqb n 2) (Ok Int64) (cond (eqb n 3) (Ok Octet) (cond (eqb n 4) (Ok Char) (cond (eqb n 5) (Ok Boolean) (Err (refusal 15 0)))))))
