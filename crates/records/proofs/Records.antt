-- The rows of ten columns.
use mathlib.Core.Path.{◌≡◌, refl, sym, ap, ◌∙◌}
use mathlib.Core.Bool.{Bool, true, false, cond}
use mathlib.Core.List.{List, [], ◌∷◌, ◌++◌, map, append_assoc, append-nil}
use Prim.Native.Nat.{ℕ, zero, suc, ◌+◌, ◌<◌, ◌≤◌}
use native.Mathlib.Omega.{arith}
use lib.ListN.{length, get_or, take, drop, drop_of_length-le, length-append, length-map}
use lib.Seq.{get_or-drop, drop-drop, drop-cons, length-take-le}
use lib.IntN.{ℤ, pos}
use lib.Dec.{eqb}
use native.Mathlib.Numerals.{add-one}
use Rattle.std.specs.Prelude.{Option, Some, None, position}
use Rattle.std.specs.List.{position_from}
use Rattle.std.proofs.lemmas.List.Quantifiers.{position-Some}
use Rattle.std.proofs.lemmas.Iterator.Adapters.{position_from-zero}
use Rattle.reading.specs.Reading.{refusal}
use Rattle.format.specs.declared.Row.{Row}
use Rattle.format.specs.declared.As.{As}
use Rattle.format.specs.Message.{Answer, refused}
use Rattle.format.specs.Asking.{ask, lookup}
use Rattle.format.specs.Writing.{Table, row_at, tabled}
use Rattle.columns.specs.Columns.{shortest, RowOf, Roomy, over, Filled}
use Rattle.columns.proofs.Storing.{room_for}
use Rattle.records.specs.Records.{rows_in}

-- ---- rows that stand in the columns

-- one column, from k on
abbrev Column : {A : Type 0} → (Row → A) → ℕ → List Row → List A → Type 0
Column {A} f k rs l = (after : List A) × (drop k l ≡ map f rs ++ after)

module _ {A : Type 0} (f : Row → A) (r : Row) (rs : List Row) where
  column-first : (l : List A) (k : ℕ) (d : A) → Column f k (r ∷ rs) l → get_or l k d ≡ f r
  column-first l k d c = let e : k + 0 ≡ k = omega arith in ap (λ (i : ℕ). get_or l i d) (sym e) ∙ sym (get_or-drop k l 0 d) ∙ ap (λ (m : List A). get_or m 0 d) c.1

  column-rest : (l : List A) (k : ℕ) → Column f k (r ∷ rs) l → Column f (suc k) rs l
  column-rest l k c = let e : suc k ≡ k + 1 = omega arith in (c.0, ap (λ (i : ℕ). drop i l) e ∙ sym (drop-drop 1 k l) ∙ ap (drop 1) c.1)

record Shown (k : ℕ) (rs : List Row) (t : Table) : Type 0 where
  ty : Column (λ (r : Row). r.ty) k rs t.ty
  own : Column (λ (r : Row). r.own) k rs t.own
  label : Column (λ (r : Row). r.label) k rs t.label
  number : Column (λ (r : Row). r.number) k rs t.number
  first : Column (λ (r : Row). r.first) k rs t.first
  second : Column (λ (r : Row). r.second) k rs t.second
  place : Column (λ (r : Row). r.place) k rs t.place
  below : Column (λ (r : Row). r.below) k rs t.below
  start : Column (λ (r : Row). r.start) k rs t.start
  end : Column (λ (r : Row). r.end) k rs t.end

shown-first : {k : ℕ} {r : Row} {rs : List Row} {t : Table} → Shown k (r ∷ rs) t → row_at t k ≡ r
shown-first {k} {r} {rs} {t} s = rw (column-first (λ (r : Row). r.ty) r rs t.ty k (pos 0) s.ty, column-first (λ (r : Row). r.own) r rs t.own k 0 s.own, column-first (λ (r : Row). r.label) r rs t.label k 0 s.label, column-first (λ (r : Row). r.number) r rs t.number k (pos 0) s.number, column-first (λ (r : Row). r.first) r rs t.first k (pos 0) s.first, column-first (λ (r : Row). r.second) r rs t.second k (pos 0) s.second, column-first (λ (r : Row). r.place) r rs t.place k 0 s.place, column-first (λ (r : Row). r.below) r rs t.below k 0 s.below, column-first (λ (r : Row). r.start) r rs t.start k 0 s.start, column-first (λ (r : Row). r.end) r rs t.end k 0 s.end)

shown_rest : {k : ℕ} {r : Row} {rs : List Row} {t : Table} → Shown k (r ∷ rs) t → Shown (suc k) rs t
shown_rest {k} {r} {rs} {t} s = record {
  ty = column-rest (λ (r : Row). r.ty) r rs t.ty k s.ty;
  own = column-rest (λ (r : Row). r.own) r rs t.own k s.own;
  label = column-rest (λ (r : Row). r.label) r rs t.label k s.label;
  number = column-rest (λ (r : Row). r.number) r rs t.number k s.number;
  first = column-rest (λ (r : Row). r.first) r rs t.first k s.first;
  second = column-rest (λ (r : Row). r.second) r rs t.second k s.second;
  place = column-rest (λ (r : Row). r.place) r rs t.place k s.place;
  below = column-rest (λ (r : Row). r.below) r rs t.below k s.below;
  start = column-rest (λ (r : Row). r.start) r rs t.start k s.start;
  end = column-rest (λ (r : Row). r.end) r rs t.end k s.end;
}

shown-rows : (rs : List Row) (k : ℕ) {t : Table} → Shown k rs t → tabled t k (length rs) ≡ rs
unfolding tabled
shown-rows [] k s = refl
shown-rows (r ∷ rs) k {t} s = ap (λ (q : Row). q ∷ tabled t (suc k) (length rs)) (shown-first s) ∙ ap (λ (l : List Row). r ∷ l) (shown-rows rs (suc k) (shown_rest s))

-- rows that were filled in are the first of the table
pub filled-rows : {rs : List Row} {t t' : Table} → Filled 0 rs t t' → tabled t' 0 (length rs) ≡ rs
filled-rows {rs} {t} {t'} f = shown-rows rs 0 (record {
  ty = (_, f.ty_filled);
  own = (_, f.own_filled);
  label = (_, f.label_filled);
  number = (_, f.number_filled);
  first = (_, f.first_filled);
  second = (_, f.second_filled);
  place = (_, f.place_filled);
  below = (_, f.below_filled);
  start = (_, f.start_filled);
  end = (_, f.end_filled);
})

-- and so many rows are in every column
filled-long : {A : Type 0} (f : Row → A) (rs : List Row) (l : List A) {m : List A} → m ≡ over 0 l (map f rs) → length rs ≤ length m
filled-long f rs l e = omega (arith, ap length e, length-append (map f rs) (drop (0 + length (map f rs)) l), length-map rs f)

pub filled-room : {rs : List Row} {t t' : Table} → Filled 0 rs t t' → Roomy (length rs) t'
filled-room {rs} {t} f = record {
  ty_room = filled-long (λ (r : Row). r.ty) rs t.ty f.ty_filled;
  own_room = filled-long (λ (r : Row). r.own) rs t.own f.own_filled;
  label_room = filled-long (λ (r : Row). r.label) rs t.label f.label_filled;
  number_room = filled-long (λ (r : Row). r.number) rs t.number f.number_filled;
  first_room = filled-long (λ (r : Row). r.first) rs t.first f.first_filled;
  second_room = filled-long (λ (r : Row). r.second) rs t.second f.second_filled;
  place_room = filled-long (λ (r : Row). r.place) rs t.place f.place_filled;
  below_room = filled-long (λ (r : Row). r.below) rs t.below f.below_filled;
  start_room = filled-long (λ (r : Row). r.start) rs t.start f.start_filled;
  end_room = filled-long (λ (r : Row). r.end) rs t.end f.end_filled;
}

-- fewer rows
pub rows-room : {n m : ℕ} {t : Table} → Roomy n t → m ≤ n → Roomy m t
rows-room h g = record {
  ty_room = omega (arith, h.ty_room);
  own_room = omega (arith, h.own_room);
  label_room = omega (arith, h.label_room);
  number_room = omega (arith, h.number_room);
  first_room = omega (arith, h.first_room);
  second_room = omega (arith, h.second_room);
  place_room = omega (arith, h.place_room);
  below_room = omega (arith, h.below_room);
  start_room = omega (arith, h.start_room);
  end_room = omega (arith, h.end_room);
}

-- a row below the limit
pub row_room : {n k : ℕ} {t : Table} → Roomy n t → k < n → Roomy (k + 1) t
row_room h g = rows-room h (omega arith)

-- ---- the texts of rows, one after another

tabled-last : (t : Table) (i n : ℕ) → tabled t i (suc n) ≡ tabled t i n ++ (row_at t (i + n) ∷ [])
unfolding tabled
tabled-last t i zero = let e : i + 0 ≡ i = omega arith in rw e
tabled-last t i (suc n) = let e : i + suc n ≡ suc i + n = omega arith in rw e (ap (λ (l : List Row). row_at t i ∷ l) (tabled-last t (suc i) n))

module _ {A : Type 0} (text : Row → List A) (texts : List Row → List A) (none : texts [] ≡ []) (more : (r : Row) (rs : List Row) → texts (r ∷ rs) ≡ text r ++ texts rs) where
  texts-last : (rs : List Row) (r : Row) → texts (rs ++ (r ∷ [])) ≡ texts rs ++ text r
  texts-last [] r = more r [] ∙ ap (λ (l : List A). text r ++ l) none ∙ append-nil (text r) ∙ ap (λ (l : List A). l ++ text r) (sym none)
  texts-last (q ∷ rs) r =
      more q (rs ++ (r ∷ [])) ∙ ap (λ (l : List A). text q ++ l) (texts-last rs r) ∙ sym (append_assoc (text q) (texts rs) (text r)) ∙ ap (λ (l : List A). l ++ text r) (sym (more q rs))

  -- the rows from i on, and one more
  pub last-text : (t : Table) (i n : ℕ) → texts (tabled t i (n + 1)) ≡ texts (tabled t i n) ++ text (row_at t (i + n))
  last-text t i n = let e : n + 1 ≡ suc n = omega arith in rw e (ap texts (tabled-last t i n) ∙ texts-last (tabled t i n) (row_at t (i + n)))

-- ---- the first row with a label

abbrev asked_at : Table → As → Option ℕ → Answer ℤ
asked_at t a (Some k) = ask a (row_at t k)
asked_at t a None = refused (refusal 16 0)

-- of n rows from i on
asked_from : (t : Table) (x : ℕ) (a : As) (n i : ℕ) → i + n ≤ length t.label → asked_at t a (position_from (λ l. eqb l x) i (take n (drop i t.label))) ≡ lookup (tabled t i n) x a
unfolding tabled lookup
asked_from t x a zero i h = refl
asked_from t x a (suc n) i h =
    let long : i < length t.label = omega arith in
    let rest : i + 1 + n ≤ length t.label = omega arith in
    rw (drop-cons t.label i 0 long) (by (eqb (get_or t.label i 0) x) (ap (λ (j : ℕ). asked_at t a (position_from (λ l. eqb l x) (i + 1) (take n (drop j t.label)))) (sym (add-one i)) ∙ asked_from t x a n (i + 1) rest ∙ ap (λ (j : ℕ). lookup (tabled t j n) x a) (add-one i)))
  where
    by : (b : Bool) → asked_at t a (position_from (λ l. eqb l x) (i + 1) (take n (drop (suc i) t.label))) ≡ lookup (tabled t (suc i) n) x a
        → asked_at t a (cond b (Some i) (position_from (λ l. eqb l x) (i + 1) (take n (drop (suc i) t.label)))) ≡ cond b (ask a (row_at t i)) (lookup (tabled t (suc i) n) x a)
    by true e = refl
    by false e = e

pub labels-room : {n : ℕ} (t : Table) → n ≡ shortest t → n ≤ length t.label
labels-room {n} t e = (room_for {n = n} t (omega (arith, e))).label_room

module _ (t : Table) (x : ℕ) {n : ℕ} (s : n ≡ shortest t) (a : As) where
  asked : (o : Option ℕ) → o ≡ position (λ l. eqb l x) (take n t.label) → asked_at t a o ≡ lookup (rows_in t) x a
  unfolding rows_in
  asked o e = let room : 0 + n ≤ length t.label = omega (arith, labels-room t s) in rw (e ∙ position_from-zero (λ l. eqb l x) (take n t.label), ← s) (asked_from t x a n 0 room)

  module _ {o : Option ℕ} (e : o ≡ position (λ l. eqb l x) (take n t.label)) where
    pub row-asked : {k : ℕ} → o ≡ Some k → {q : Row} → RowOf t k q → ask a q ≡ lookup (rows_in t) x a
    row-asked {k} f w = ap (ask a) w.same ∙ asked (Some k) (sym f ∙ e)

    pub no_row : o ≡ None → refused (refusal 16 0) ≡ lookup (rows_in t) x a
    no_row f = asked None (sym f ∙ e)

-- a row that is found stands in every column
pub found-room : (t : Table) (x : ℕ) {n : ℕ} {o : Option ℕ} {k : ℕ} → n ≡ shortest t → o ≡ position (λ l. eqb l x) (take n t.label) → o ≡ Some k → Roomy (k + 1) t
found-room t x {n} {k = k} s e f =
    let p = position-Some (λ l. eqb l x) (take n t.label) k 0 (sym e ∙ f) in
    room_for t (omega (arith, p.0, length-take-le n t.label (labels-room t s), s))

-- ---- labels passed one by one

-- the first sought one stands at k, where none stands before
pub found-at : (l : List ℕ) (x k : ℕ) → k < length l → eqb (get_or l k 0) x ≡ true → position_from (λ l. eqb l x) 0 l ≡ position_from (λ l. eqb l x) k (drop k l) → Some k ≡ position (λ l. eqb l x) l
found-at l x k h e p = sym (position_from-zero (λ l. eqb l x) l ∙ p ∙ rw (drop-cons l k 0 h, e))

-- and nowhere, where none stands before k, and no more are left
pub none-left : (l : List ℕ) (x k : ℕ) → length l ≤ k → position_from (λ l. eqb l x) 0 l ≡ position_from (λ l. eqb l x) k (drop k l) → None ≡ position (λ l. eqb l x) l
none-left l x k h p = sym (position_from-zero (λ l. eqb l x) l ∙ p ∙ rw (drop_of_length-le l {i = k} h))
