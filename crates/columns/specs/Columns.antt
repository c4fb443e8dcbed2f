-- Ten lent columns, and rows stored in them.
use Rattle.std.specs.Prelude.{◌≡◌, cond, List, [], ◌∷◌, ◌++◌, map, ℕ, ◌+◌, ◌≤◌, ◌<◌, min, length, set, take, drop, replicate, ltb, ℤ, pos}
use Rattle.format.specs.declared.Row.{Row}
use Rattle.format.specs.Rows.{Sized}
use Rattle.format.specs.Writing.{Table, row_at}

abbrev pub columns : List ℤ → List ℕ → List ℕ → List ℤ → List ℤ → List ℤ → List ℕ → List ℕ → List ℕ → List ℕ → Table
columns x0 x1 x2 x3 x4 x5 x6 x7 x8 x9 = record { ty = x0; own = x1; label = x2; number = x3; first = x4; second = x5; place = x6; below = x7; start = x8; end = x9 }

-- 01: "a reading may use as many rows as the shortest column has"
unfoldable pub shortest : Table → ℕ
shortest t =
    min (min (min (min (min (min (min (min (min (length t.ty) (length t.own)) (length t.label)) (length t.number)) (length t.first)) (length t.second)) (length t.place)) (length t.below)) (length t.start)) (length t.end)

-- the row at k, whose numbers are of the columns' types
pub record RowOf (t : Table) (k : ℕ) (r : Row) : Type 0 where
  pub same : r ≡ row_at t k
  pub held : Sized r

-- every column has room for lim rows
pub record Roomy (lim : ℕ) (t : Table) : Type 0 where
  pub ty_room : lim ≤ length t.ty
  pub own_room : lim ≤ length t.own
  pub label_room : lim ≤ length t.label
  pub number_room : lim ≤ length t.number
  pub first_room : lim ≤ length t.first
  pub second_room : lim ≤ length t.second
  pub place_room : lim ≤ length t.place
  pub below_room : lim ≤ length t.below
  pub start_room : lim ≤ length t.start
  pub end_room : lim ≤ length t.end

-- every column is as long as before
pub record Kept (t u : Table) : Type 0 where
  pub ty_kept : length t.ty ≡ length u.ty
  pub own_kept : length t.own ≡ length u.own
  pub label_kept : length t.label ≡ length u.label
  pub number_kept : length t.number ≡ length u.number
  pub first_kept : length t.first ≡ length u.first
  pub second_kept : length t.second ≡ length u.second
  pub place_kept : length t.place ≡ length u.place
  pub below_kept : length t.below ≡ length u.below
  pub start_kept : length t.start ≡ length u.start
  pub end_kept : length t.end ≡ length u.end

-- stored at k, if that is below lim
abbrev pub put : {A : Type 0} → ℕ → List A → ℕ → A → List A
put lim l k v = cond (ltb k lim) (set l k v) l

unfoldable pub put_row : ℕ → Table → ℕ → Row → Table
put_row lim t k r = record { ty = put lim t.ty k r.ty; own = put lim t.own k r.own; label = put lim t.label k r.label; number = put lim t.number k r.number; first = put lim t.first k r.first; second = put lim t.second k r.second; place = put lim t.place k r.place; below = put lim t.below k r.below; start = put lim t.start k r.start; end = put lim t.end k r.end }

pub record Stored (lim k : ℕ) (r : Row) (t t' : Table) : Type 0 where
  pub stored : t' ≡ put_row lim t k r

-- z in the first n places
abbrev pub cleared : {A : Type 0} → ℕ → A → List A → List A
cleared n z l = replicate n z ++ drop n l

-- ---- seven columns: in the other three, element types and rows below, only values that hold others have a number other than 0

-- each of the seven has a row k
pub record LeafRoom (k : ℕ) (t : Table) : Type 0 where
  pub ty_room : k < length t.ty
  pub own_room : k < length t.own
  pub label_room : k < length t.label
  pub number_room : k < length t.number
  pub place_room : k < length t.place
  pub start_room : k < length t.start
  pub end_room : k < length t.end

-- the other three have room for n rows
pub record NestRoom (n : ℕ) (t : Table) : Type 0 where
  pub first_room : n ≤ length t.first
  pub second_room : n ≤ length t.second
  pub below_room : n ≤ length t.below

-- the row's numbers stand at k in the seven, and all else is as it was
pub record LeafStored (k : ℕ) (r : Row) (t t' : Table) : Type 0 where
  pub ty_stored : t'.ty ≡ set t.ty k r.ty
  pub own_stored : t'.own ≡ set t.own k r.own
  pub label_stored : t'.label ≡ set t.label k r.label
  pub number_stored : t'.number ≡ set t.number k r.number
  pub place_stored : t'.place ≡ set t.place k r.place
  pub start_stored : t'.start ≡ set t.start k r.start
  pub end_stored : t'.end ≡ set t.end k r.end
  pub first_same : t'.first ≡ t.first
  pub second_same : t'.second ≡ t.second
  pub below_same : t'.below ≡ t.below

-- a row without element types and rows below
abbrev pub Single : Row → Type 0
Single r = (r.first ≡ pos 0) × (r.second ≡ pos 0) × (r.below ≡ 0)

-- the other three have 0 from row k on: to store it there changes nothing
pub record Blank (lim k : ℕ) (t : Table) : Type 0 where
  pub first_blank : (i : ℕ) → k ≤ i → put lim t.first i (pos 0) ≡ t.first
  pub second_blank : (i : ℕ) → k ≤ i → put lim t.second i (pos 0) ≡ t.second
  pub below_blank : (i : ℕ) → k ≤ i → put lim t.below i 0 ≡ t.below

-- ---- rows one after another, from k on

unfoldable pub puts : ℕ → Table → ℕ → List Row → Table
puts lim t k [] = t
puts lim t k (r ∷ rs) = put_row lim (puts lim t (k + 1) rs) k r

-- the rows stand from k on in each column, and all else is as it was
abbrev pub over : {A : Type 0} → ℕ → List A → List A → List A
over k l vs = take k l ++ (vs ++ drop (k + length vs) l)

pub record Filled (k : ℕ) (rs : List Row) (t t' : Table) : Type 0 where
  pub ty_filled : t'.ty ≡ over k t.ty (map (λ (r : Row). r.ty) rs)
  pub own_filled : t'.own ≡ over k t.own (map (λ (r : Row). r.own) rs)
  pub label_filled : t'.label ≡ over k t.label (map (λ (r : Row). r.label) rs)
  pub number_filled : t'.number ≡ over k t.number (map (λ (r : Row). r.number) rs)
  pub first_filled : t'.first ≡ over k t.first (map (λ (r : Row). r.first) rs)
  pub second_filled : t'.second ≡ over k t.second (map (λ (r : Row). r.second) rs)
  pub place_filled : t'.place ≡ over k t.place (map (λ (r : Row). r.place) rs)
  pub below_filled : t'.below ≡ over k t.below (map (λ (r : Row). r.below) rs)
  pub start_filled : t'.start ≡ over k t.start (map (λ (r : Row). r.start) rs)
  pub end_filled : t'.end ≡ over k t.end (map (λ (r : Row). r.end) rs)
