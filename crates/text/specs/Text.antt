-- The desk's lines, by their numbers.
use Rattle.std.specs.Prelude.{List, [], ◌∷◌, ◌++◌, ℕ, ℤ, pos}
use Rattle.format.specs.Desk.{decimal, blank, numbers}
use Rattle.format.specs.declared.Row.{Row}

-- numbers, a blank before each
unfoldable pub spaced : List ℤ → List ℕ
spaced [] = []
spaced (z ∷ l) = blank ++ (decimal z ++ spaced l)

-- a row's numbers after its type
abbrev pub others : Row → List ℤ
others r = pos r.own ∷ pos r.label ∷ r.number ∷ r.first ∷ r.second ∷ pos r.place ∷ pos r.below ∷ pos r.start ∷ pos r.end ∷ []

-- a word and two numbers
abbrev pub told : List ℕ → ℤ → ℕ → List ℕ
told w z n = w ++ numbers (z ∷ pos n ∷ [])

-- the line before the rows of an accepted frame
abbrev pub accepted : ℤ → ℕ → List ℕ
accepted z n = told (0x6F ∷ 0x6B ∷ []) z n
