-- The rows of a value (01, "The rows").
use Rattle.std.specs.Prelude.{Bool, true, false, cond, List, [], ◌∷◌, ◌++◌, ℕ, suc, ◌+◌, ◌-◌, ◌^◌, ◌<◌, length, pos}
use Rattle.std.specs.Int.Signed.{mag}
use Rattle.format.specs.declared.Row.{Row}
use Rattle.format.specs.Types.{Text, none, octets, characters, kind_of}
use Rattle.format.specs.Values.{Head, Children, empty, child, child_of, Value, value, rule_of}
use Rattle.format.specs.Spelling.{fore, indexed, index, spell}

-- 01: "rows below it": all rows of the values inside
unfoldable pub count : Children → ℕ
count empty = 0
count (child i h cs next) = suc (count cs + count next)

abbrev pub has_contents : Text → Bool
has_contents none = false
has_contents octets = true
has_contents characters = true

-- 01: "place of string contents (0 for the others)". The contents of a string are the last of its octets.
abbrev pub place_of : Head → ℕ → ℕ
place_of h from = cond (has_contents (kind_of h.ty).text) (from + length (fore h) - length h.text) 0

-- 01: "Ten numbers: type; own ..; label; number; first and second element type (0 where none); place of string contents (0 for the others); rows below it;
-- start; end (just past)."
abbrev pub row_of : ℕ → Head → ℕ → ℕ → ℕ → Row
row_of i h below from to = record {
  ty = h.ty;
  own = h.own;
  label = i;
  number = h.number;
  first = h.first;
  second = h.second;
  place = place_of h from;
  below = below;
  start = from;
  end = to;
}

-- 01: "One row a value, a container before its contents." The values stand one after another from `at` on, each after its index where they have one.
unfoldable pub rows_from : Bool → ℕ → Children → List Row
rows_from x at empty = []
rows_from x at (child i h cs next) =
    let from = at + length (index x (pos i)) in
    let to = from + length (spell (value h cs)) in
    row_of i h (count cs) from to ∷ (rows_from (indexed (rule_of h)) (from + length (fore h)) cs ++ rows_from x to next)

-- 01: "a row's are message places, counted from the message's first octet"; the outermost has label 0
unfoldable pub rows : Value → List Row
rows v = rows_from false 0 (child_of 0 v empty)

-- the numbers of a row are of its columns' types
pub record Sized (r : Row) : Type 0 where
  pub ty : mag r.ty < 2 ^ 31
  pub own : r.own < 2 ^ 8
  pub label : r.label < 2 ^ 32
  pub number : mag r.number < 2 ^ 63
  pub first : mag r.first < 2 ^ 31
  pub second : mag r.second < 2 ^ 31
  pub place : r.place < 2 ^ 32
  pub below : r.below < 2 ^ 32
  pub start : r.start < 2 ^ 32
  pub end : r.end < 2 ^ 32
