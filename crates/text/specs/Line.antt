-- What a line is read as.
use Rattle.std.specs.Prelude.{◌≡◌, true, false, List, ℕ, Option, Some, None}
use Rattle.format.specs.Desk.{is_line, octets_of}
use Rattle.integer.specs.Writes.{Wrote}

-- a line's octets stand at the front, and all else is as before; or it is no line, and all is as before
abbrev pub LineRead : List ℕ → List ℕ → Option ℕ → List ℕ → Type 0
LineRead line l (Some n) after = (is_line line ≡ true) × Wrote (octets_of line) 0 l n after
LineRead line l None after = (is_line line ≡ false) × (after ≡ l)
