-- The answers of the code.
use Rattle.std.specs.Prelude.{ℤ, Result, Ok, Err}
use Rattle.reading.specs.declared.Refusal.{Refusal}
use Rattle.format.specs.Message.{Answer, ok, refused}
use Rattle.format.specs.Asking.{cannot}

-- what an answer says, case by case
abbrev pub answered : Result ℤ Refusal → Answer ℤ
answered (Ok z) = ok z
answered (Err r) = refused r

-- an answer taken apart: f goes on with its value, and all else is 15
abbrev pub apart : Answer ℤ → (ℤ → Answer ℤ) → Answer ℤ
apart (ok z) f = f z
apart (refused r) f = cannot
