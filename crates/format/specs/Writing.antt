-- Writing rows (01, "Numbers given back", on writing): the rows are spelt, the spelling is read back, and what is read is compared with them.
use Rattle.std.specs.Prelude.{◌≡◌, Bool, false, cond, ◌&&◌, List, [], ◌∷◌, map, ℕ, zero, suc, ◌+◌, length, get_or, take, drop, leb, eqb, ℤ, pos}
use Rattle.std.specs.Int.Signed.{mag}
use Rattle.format.specs.declared.Row.{Row}
use Rattle.format.specs.Types.{Text, kind_of}
use Rattle.format.specs.Data.{eq_z, eq_list}
use Rattle.format.specs.Values.{Head, head, Children, empty, child, Value}
use Rattle.format.specs.Spelling.{spell_children}
use Rattle.format.specs.Rows.{has_contents, rows}
use Rattle.format.specs.Message.{Answer, ok, refused, unless, then, most_octets, message}

-- ---- rows apart from their places

-- 01: "Start and end are not looked at ..; contents places count only by what they point at."
pub record Seen : Type 0 where
  pub label : ℕ
  pub what : Head  -- with the contents that its place points at
  pub below : ℕ
  pub placed : Bool  -- its contents place is as it must be

-- 01: "Contents that don't lie in those octets (place + length over their count) are 14, and so are .. a contents place other than 0 in a row without
-- string contents"
abbrev pub placed_in : Text → List ℕ → ℕ → ℕ → Bool
placed_in t o p n = cond (has_contents t) (leb (p + n) (length o)) (eqb p 0)

abbrev pub text_in : Text → List ℕ → ℕ → ℕ → List ℕ
text_in t o p n = cond (has_contents t) (take n (drop p o)) []

-- a row whose contents place points into o
unfoldable pub seen : List ℕ → Row → Seen
seen o r = record {
  label = r.label;
  what = head r.ty r.own r.number r.first r.second (text_in (kind_of r.ty).text o r.place (mag r.number));
  below = r.below;
  placed = placed_in (kind_of r.ty).text o r.place (mag r.number);
}

-- 01's "rows that accepted octets have": o is accepted, and has the rows rs, with the contents that they point at in c
pub record HasRows (c : List ℕ) (rs : List Row) (o : List ℕ) : Type 0 where
  pub said : Value
  pub accepted : message o ≡ ok said
  pub same : map (seen o) (rows said) ≡ map (seen c) rs

-- ---- spelling rows

-- the values that rows stand for, by their counts of rows below. (The fuel is the count of rows.)
unfoldable pub build : ℕ → List Seen → Children
build zero rs = empty
build (suc k) [] = empty
build (suc k) (r ∷ rs) = child r.label r.what (build k (take r.below rs)) (build k (drop r.below rs))

unfoldable pub spell_rows : List ℕ → List Row → List ℕ
spell_rows c rs = spell_children false (build (length rs) (map (seen c) rs))

-- ---- writing

abbrev pub eq_head : Head → Head → Bool
eq_head g h =
    eq_z g.ty h.ty && eqb g.own h.own && eq_z g.number h.number && eq_z g.first h.first && eq_z g.second h.second
    && eq_list eqb g.text h.text

-- two rows are the same apart from their places, and their contents places are as they must be
abbrev pub eq_seen : Seen → Seen → Bool
eq_seen r s = eqb r.label s.label && eq_head r.what s.what && eqb r.below s.below && r.placed && s.placed

abbrev pub same_rows : List ℕ → List Row → List ℕ → Answer Value → Bool
same_rows c rs o (ok v) = eq_list eq_seen (map (seen o) (rows v)) (map (seen c) rs)
same_rows c rs o (refused r) = false

-- 01: "14 | rows that no accepted octets have | 0", and none have no rows, or octets over 65,535
unfoldable pub written : List ℕ → List Row → Answer (List ℕ)
written c rs = unless (same_rows c rs (spell_rows c rs) (message (spell_rows c rs))) 14 (ok (spell_rows c rs))

-- ten lent columns
pub record Table : Type 0 where
  pub ty : List ℤ
  pub own : List ℕ
  pub label : List ℕ
  pub number : List ℤ
  pub first : List ℤ
  pub second : List ℤ
  pub place : List ℕ
  pub below : List ℕ
  pub start : List ℕ
  pub end : List ℕ

abbrev pub row_at : Table → ℕ → Row
row_at t i = record {
  ty = get_or t.ty i (pos 0);
  own = get_or t.own i 0;
  label = get_or t.label i 0;
  number = get_or t.number i (pos 0);
  first = get_or t.first i (pos 0);
  second = get_or t.second i (pos 0);
  place = get_or t.place i 0;
  below = get_or t.below i 0;
  start = get_or t.start i 0;
  end = get_or t.end i 0;
}

unfoldable pub tabled : Table → ℕ → ℕ → List Row
tabled t i zero = []
tabled t i (suc n) = row_at t i ∷ tabled t (suc i) n

-- "columns of unequal length" are 14
abbrev pub equal_lengths : Table → Bool
equal_lengths t =
    let n = length t.ty in
    eqb (length t.own) n && eqb (length t.label) n && eqb (length t.number) n && eqb (length t.first) n && eqb (length t.second) n
    && eqb (length t.place) n && eqb (length t.below) n && eqb (length t.start) n && eqb (length t.end) n

-- 01: "Order: 2 for the octets given, 14, 13." "13 | output shorter than the result | 0"
unfoldable pub write : Table → List ℕ → ℕ → Answer (List ℕ)
write t c room =
    unless (leb (length c) most_octets) 2
    (unless (equal_lengths t) 14
    (then (written c (tabled t 0 (length t.ty))) (λ o. unless (leb (length o) room) 13 (ok o))))
