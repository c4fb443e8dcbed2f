-- How many rows a value has, and how many octets a reading takes at most.
use mathlib.Core.Path.{◌≡◌, refl, ap, ◌∙◌, ap₂}
use mathlib.Core.Bool.{Bool, false}
use mathlib.Core.List.{List, []}
use Prim.Native.Nat.{ℕ, suc, ◌+◌, ◌<◌, ◌≤◌}
use native.Mathlib.Omega.{arith}
use lib.ListN.{length, length-append}
use borrow.Author.Tests.{le-leb, lt-leb}
use Rattle.reading.specs.Reading.{Reader, refusal, stand}
use Rattle.format.specs.Values.{Children, empty, child, child_of, Value, rule_of}
use Rattle.format.specs.Spelling.{indexed}
use Rattle.format.specs.Rows.{count, rows_from, rows}
use Rattle.format.specs.Message.{refused, answer, most_octets, reading}

pub rows-length : (x : Bool) (at : ℕ) (cs : Children) → length (rows_from x at cs) ≡ count cs
unfolding rows_from count
rows-length x at empty = refl
rows-length x at (child i h cs more) = ap suc (length-append (rows_from (indexed (rule_of h)) _ cs) (rows_from x _ more) ∙ ap₂ ◌+◌ (rows-length (indexed (rule_of h)) _ cs) (rows-length x _ more))

pub value-rows : (v : Value) → length (rows v) ≡ suc (count v.inside)
unfolding rows count
value-rows v = rows-length false 0 (child_of 0 v empty) ∙ omega arith

-- ---- 2 comes first

pub reading-long : {A : Type 0} (p : Reader A) (o : List ℕ) → most_octets < length o → reading p o ≡ refused (refusal 2 0)
reading-long p o h = rw (lt-leb (length o) most_octets h)

pub reading-short : {A : Type 0} (p : Reader A) (o : List ℕ) → length o ≤ most_octets → reading p o ≡ answer (p (stand o 0 (record { opened = []; ended = [] })))
unfolding stand
reading-short p o h = rw (le-leb (length o) most_octets h)
