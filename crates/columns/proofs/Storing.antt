-- Rows stored one after another.
use mathlib.Core.Path.{◌≡◌, refl, sym, ap, ◌∙◌}
use mathlib.Core.Bool.{Bool, true, false, cond}
use mathlib.Core.List.{List, [], ◌∷◌, ◌++◌, map}
use Prim.Native.Nat.{ℕ, suc, ◌+◌, ◌≤◌, ◌<◌, min}
use Rattle.std.proofs.Math.Nat.{min-le_left, min-le_right}
use native.Mathlib.Omega.{arith}
use native.Mathlib.Nat.{add-zero}
use native.Mathlib.Numerals.{add-one}
use borrow.Author.Tests.{lt-ltb, le-ltb}
use lib.ListN.{length, set, drop, take, length-map, take-append-drop}
use lib.Seq.{set_comm, take-suc, append_snoc, set_at, length-take-le}
use lib.Dec.{ltb}
use lib.IntN.{ℤ, pos}
use Rattle.format.specs.declared.Row.{Row}
use Rattle.format.specs.Writing.{Table}
use Rattle.columns.specs.declared.ColumnsMut.{ColumnsMut}
use Rattle.columns.specs.Lent.{SameLoans}
use Rattle.columns.specs.Columns.{shortest, Roomy, NestRoom, Kept, put, put_row, Stored, LeafRoom, LeafStored, Single, Blank, puts, over, Filled}

pub kept_same : {t : Table} → Kept t t
kept_same = record { ty_kept = refl; own_kept = refl; label_kept = refl; number_kept = refl; first_kept = refl; second_kept = refl; place_kept = refl; below_kept = refl; start_kept = refl; end_kept = refl }

pub kept_trans : {t u v : Table} → Kept t u → Kept u v → Kept t v
kept_trans a b = record { ty_kept = a.ty_kept ∙ b.ty_kept; own_kept = a.own_kept ∙ b.own_kept; label_kept = a.label_kept ∙ b.label_kept; number_kept = a.number_kept ∙ b.number_kept; first_kept = a.first_kept ∙ b.first_kept; second_kept = a.second_kept ∙ b.second_kept; place_kept = a.place_kept ∙ b.place_kept; below_kept = a.below_kept ∙ b.below_kept; start_kept = a.start_kept ∙ b.start_kept; end_kept = a.end_kept ∙ b.end_kept }

-- ---- the same loans

pub lent_same : {c : ColumnsMut} → SameLoans c c
lent_same = record { ty_lent = refl; own_lent = refl; label_lent = refl; number_lent = refl; first_lent = refl; second_lent = refl; place_lent = refl; below_lent = refl; start_lent = refl; end_lent = refl; kept = kept_same }

pub lent_trans : {c d e : ColumnsMut} → SameLoans c d → SameLoans d e → SameLoans c e
lent_trans a b = record {
  ty_lent = b.ty_lent ∙ a.ty_lent;
  own_lent = b.own_lent ∙ a.own_lent;
  label_lent = b.label_lent ∙ a.label_lent;
  number_lent = b.number_lent ∙ a.number_lent;
  first_lent = b.first_lent ∙ a.first_lent;
  second_lent = b.second_lent ∙ a.second_lent;
  place_lent = b.place_lent ∙ a.place_lent;
  below_lent = b.below_lent ∙ a.below_lent;
  start_lent = b.start_lent ∙ a.start_lent;
  end_lent = b.end_lent ∙ a.end_lent;
  kept = kept_trans b.kept a.kept;
}

-- ---- room in the shortest column

-- a number of at most the least of two
below : {n : ℕ} (a b : ℕ) → n ≤ min a b → (n ≤ a) × (n ≤ b)
below a b h = (omega (arith, h, min-le_left a b), omega (arith, h, min-le_right a b))

pub room_for : {n : ℕ} (t : Table) → n ≤ shortest t → Roomy n t
unfolding shortest
room_for t h =
    let e = below _ (length t.end) h in
    let s = below _ (length t.start) e.0 in
    let b = below _ (length t.below) s.0 in
    let p = below _ (length t.place) b.0 in
    let g = below _ (length t.second) p.0 in
    let f = below _ (length t.first) g.0 in
    let n = below _ (length t.number) f.0 in
    let l = below _ (length t.label) n.0 in
    let o = below (length t.ty) (length t.own) l.0 in
    record { ty_room = o.0; own_room = o.1; label_room = l.1; number_room = n.1; first_room = f.1; second_room = g.1; place_room = p.1; below_room = b.1; start_room = s.1; end_room = e.1 }

pub roomy : {lim : ℕ} {t u : Table} → Kept t u → Roomy lim u → Roomy lim t
roomy ks r = record { ty_room = rw ks.ty_kept r.ty_room; own_room = rw ks.own_kept r.own_room; label_room = rw ks.label_kept r.label_room; number_room = rw ks.number_kept r.number_room; first_room = rw ks.first_kept r.first_room; second_room = rw ks.second_kept r.second_room; place_room = rw ks.place_kept r.place_room; below_room = rw ks.below_kept r.below_room; start_room = rw ks.start_kept r.start_room; end_room = rw ks.end_kept r.end_room }

pub nest_room : {n : ℕ} {t : Table} → Roomy n t → NestRoom n t
nest_room r = record { first_room = r.first_room; second_room = r.second_room; below_room = r.below_room }

-- ---- the order of storing does not matter

put-comm : {A : Type 0} (lim : ℕ) (l : List A) (i j : ℕ) (a b : A) → (i ≡ j → ⊥) → put lim (put lim l i a) j b ≡ put lim (put lim l j b) i a
put-comm lim l i j a b ne = by (ltb i lim) (ltb j lim)
  where
    by : (p q : Bool) → cond q (set (cond p (set l i a) l) j b) (cond p (set l i a) l) ≡ cond p (set (cond q (set l j b) l) i a) (cond q (set l j b) l)
    by true true = set_comm l i j a b ne
    by true false = refl
    by false true = refl
    by false false = refl

same-table : {ty ty' : List ℤ} {own own' : List ℕ} {label label' : List ℕ} {number number' : List ℤ} {first first' : List ℤ} {second second' : List ℤ} {place place' : List ℕ} {below below' : List ℕ} {start start' : List ℕ} {end end' : List ℕ} → ty ≡ ty' → own ≡ own' → label ≡ label' → number ≡ number' → first ≡ first' → second ≡ second' → place ≡ place' → below ≡ below' → start ≡ start' → end ≡ end'
    → ◌≡◌ {A = Table} (record { ty = ty; own = own; label = label; number = number; first = first; second = second; place = place; below = below; start = start; end = end })
    (record { ty = ty'; own = own'; label = label'; number = number'; first = first'; second = second'; place = place'; below = below'; start = start'; end = end' })
same-table p0 p1 p2 p3 p4 p5 p6 p7 p8 p9 = rw (p0, p1, p2, p3, p4, p5, p6, p7, p8, p9)

-- ---- stored or not, by the limit

put-below : {A : Type 0} {lim k : ℕ} (l : List A) {v w : A} → k < lim → w ≡ v → set l k w ≡ put lim l k v
put-below {lim = lim} {k = k} l h e = rw (lt-ltb k lim h, e)

pub row-beyond : {lim k : ℕ} {r : Row} {t : Table} → lim ≤ k → Stored lim k r t t
unfolding put_row
row-beyond {lim} {k} h = record { stored = rw (le-ltb k lim h) }

-- ---- a row in seven columns

module _ {lim k : ℕ} (h : k < lim) {t : Table} where
  pub leaf_room : Roomy lim t → LeafRoom k t
  leaf_room r = record {
    ty_room = omega (arith, r.ty_room);
    own_room = omega (arith, r.own_room);
    label_room = omega (arith, r.label_room);
    number_room = omega (arith, r.number_room);
    place_room = omega (arith, r.place_room);
    start_room = omega (arith, r.start_room);
    end_room = omega (arith, r.end_room);
  }

  module _ {r : Row} {u : Table} (st : LeafStored k r t u) where
    -- with the other three the row is stored
    leaf-and-three : {first second : List ℤ} {below : List ℕ} → first ≡ put lim t.first k r.first → second ≡ put lim t.second k r.second → below ≡ put lim t.below k r.below
        → Stored lim k r t (record u { first = first; second = second; below = below })
    unfolding put_row
    leaf-and-three p q s = record {
      stored = same-table (st.ty_stored ∙ put-below t.ty h refl) (st.own_stored ∙ put-below t.own h refl) (st.label_stored ∙ put-below t.label h refl) (st.number_stored ∙ put-below t.number h refl) p q (st.place_stored ∙ put-below t.place h refl) s (st.start_stored ∙ put-below t.start h refl) (st.end_stored ∙ put-below t.end h refl);
    }

    pub row_below : {e f : ℤ} → e ≡ r.first → f ≡ r.second → Stored lim k r t (record u { first = set u.first k e; second = set u.second k f; below = set u.below k r.below })
    row_below p q = leaf-and-three (rw st.first_same (put-below t.first h p)) (rw st.second_same (put-below t.second h q)) (rw st.below_same (put-below t.below h refl))

    -- and so it is without them, where they are blank and the row has 0 there
    pub leaf-in-blank : Single r → Blank lim k t → Stored lim k r t u
    leaf-in-blank z b = leaf-and-three
        (st.first_same ∙ sym (ap (put lim t.first k) z.0 ∙ b.first_blank k (omega arith)))
        (st.second_same ∙ sym (ap (put lim t.second k) z.1 ∙ b.second_blank k (omega arith)))
        (st.below_same ∙ sym (ap (put lim t.below k) z.2 ∙ b.below_blank k (omega arith)))

-- ---- the order of storing does not matter for rows

row-comm : (lim : ℕ) (t : Table) (i j : ℕ) (a b : Row) → (i ≡ j → ⊥) → put_row lim (put_row lim t i a) j b ≡ put_row lim (put_row lim t j b) i a
unfolding put_row
row-comm lim t i j a b ne = same-table
    (put-comm lim t.ty i j a.ty b.ty ne)
    (put-comm lim t.own i j a.own b.own ne)
    (put-comm lim t.label i j a.label b.label ne)
    (put-comm lim t.number i j a.number b.number ne)
    (put-comm lim t.first i j a.first b.first ne)
    (put-comm lim t.second i j a.second b.second ne)
    (put-comm lim t.place i j a.place b.place ne)
    (put-comm lim t.below i j a.below b.below ne)
    (put-comm lim t.start i j a.start b.start ne)
    (put-comm lim t.end i j a.end b.end ne)

puts-comm : (lim : ℕ) (t : Table) (i j : ℕ) (a : Row) (rs : List Row) → i < j → puts lim (put_row lim t i a) j rs ≡ put_row lim (puts lim t j rs) i a
unfolding puts
puts-comm lim t i j a [] h = refl
puts-comm lim t i j a (r ∷ rs) h =
    let q : i < j + 1 = omega arith in
    let n : i ≡ j → ⊥ = λ e. omega arith in
    ap (λ (u : Table). put_row lim u j r) (puts-comm lim t i (j + 1) a rs q) ∙ row-comm lim (puts lim t (j + 1) rs) i j a r n

pub puts-append : (lim : ℕ) (t : Table) (k : ℕ) (xs ys : List Row) → puts lim (puts lim t k xs) (k + length xs) ys ≡ puts lim t k (xs ++ ys)
unfolding puts
puts-append lim t k [] ys = rw add-zero
puts-append lim t k (a ∷ xs) ys =
    let e : k + suc (length xs) ≡ k + 1 + length xs = omega arith in
    let h : k < k + 1 + length xs = omega arith in
    rw (e, puts-comm lim (puts lim t (k + 1) xs) k (k + 1 + length xs) a ys h, puts-append lim t (k + 1) xs ys)

-- ---- rows leave what comes after them blank

blank-other : {A : Type 0} (lim : ℕ) (l : List A) (k i : ℕ) (a z : A) → k < i → put lim l i z ≡ l → put lim (put lim l k a) i z ≡ put lim l k a
blank-other lim l k i a z h e =
    let n : k ≡ i → ⊥ = λ q. omega arith in
    put-comm lim l k i a z n ∙ rw e

pub blank-later : {lim j k : ℕ} {t : Table} → j ≤ k → Blank lim j t → Blank lim k t
blank-later h b = record { first_blank = λ i l. b.first_blank i (omega arith); second_blank = λ i l. b.second_blank i (omega arith); below_blank = λ i l. b.below_blank i (omega arith) }

blank-row : {lim j k : ℕ} {t : Table} (r : Row) → k < j → Blank lim j t → Blank lim j (put_row lim t k r)
unfolding put_row
blank-row {lim} {j} {k} {t} r h b = record {
  first_blank = λ i l. blank-other lim t.first k i r.first (pos 0) (omega arith) (b.first_blank i l);
  second_blank = λ i l. blank-other lim t.second k i r.second (pos 0) (omega arith) (b.second_blank i l);
  below_blank = λ i l. blank-other lim t.below k i r.below 0 (omega arith) (b.below_blank i l);
}

pub blank-after : {lim : ℕ} {t : Table} (k : ℕ) (rs : List Row) → Blank lim k t → Blank lim (k + length rs) (puts lim t k rs)
unfolding puts
blank-after k [] b = rw add-zero b
blank-after {lim} {t} k (r ∷ rs) b =
    let e : k + suc (length rs) ≡ k + 1 + length rs = omega arith in
    rw e (blank-row r (omega arith) (blank-after (k + 1) rs (blank-later (omega arith) b)))

-- ---- what they come to in each column

module _ {A : Type 0} where
  abbrev puts_in : ℕ → List A → ℕ → List A → List A
  puts_in lim l k [] = l
  puts_in lim l k (v ∷ vs) = put lim (puts_in lim l (k + 1) vs) k v

  set_next : (l ys : List A) (k : ℕ) (v : A) → k < length l → set (take (k + 1) l ++ ys) k v ≡ take k l ++ v ∷ ys
  set_next l ys k v h =
      let e : length (take k l) ≡ k = length-take-le k l (omega arith) in
      rw (add-one, take-suc l k v h, append_snoc) (set_at (take k l) _ ys v k e)

  puts-over : (lim : ℕ) (l : List A) (k : ℕ) (vs : List A) → k + length vs ≤ lim → lim ≤ length l → puts_in lim l k vs ≡ over k l vs
  puts-over lim l k [] h g = rw add-zero (sym (take-append-drop k l))
  puts-over lim l k (v ∷ vs) h g =
      let p : k < lim = omega arith in
      let q : k < length l = omega arith in
      let e : k + 1 + length vs ≡ k + suc (length vs) = omega arith in
      let i : k + 1 + length vs ≤ lim = omega arith in
      rw (puts-over lim l (k + 1) vs i g, lt-ltb k lim p, set_next l (vs ++ drop (k + 1 + length vs) l) k v q, e)

-- a column, where rows are stored one after another: with room enough they stand there, and all else is as it was
column : {A : Type 0} (get : Table → List A) (f : Row → A) → ((lim : ℕ) (t : Table) (k : ℕ) (r : Row) → get (put_row lim t k r) ≡ put lim (get t) k (f r))
    → (lim : ℕ) (t : Table) (k : ℕ) (rs : List Row) → k + length rs ≤ lim → lim ≤ length (get t) → get (puts lim t k rs) ≡ over k (get t) (map f rs)
unfolding puts
column {A} get f one lim t k rs h g = stored k rs ∙ puts-over lim (get t) k (map f rs) (rw (length-map rs f) h) g
  where
    stored : (k : ℕ) (rs : List Row) → get (puts lim t k rs) ≡ puts_in lim (get t) k (map f rs)
    stored k [] = refl
    stored k (r ∷ rs) = one lim (puts lim t (k + 1) rs) k r ∙ ap (λ (l : List A). put lim l k (f r)) (stored (k + 1) rs)

pub puts-filled : (lim : ℕ) (t : Table) (k : ℕ) (rs : List Row) → k + length rs ≤ lim → Roomy lim t → Filled k rs t (puts lim t k rs)
unfolding put_row
puts-filled lim t k rs h g = record {
  ty_filled = column (λ (t : Table). t.ty) (λ (r : Row). r.ty) (λ lim t k r. refl) lim t k rs h g.ty_room;
  own_filled = column (λ (t : Table). t.own) (λ (r : Row). r.own) (λ lim t k r. refl) lim t k rs h g.own_room;
  label_filled = column (λ (t : Table). t.label) (λ (r : Row). r.label) (λ lim t k r. refl) lim t k rs h g.label_room;
  number_filled = column (λ (t : Table). t.number) (λ (r : Row). r.number) (λ lim t k r. refl) lim t k rs h g.number_room;
  first_filled = column (λ (t : Table). t.first) (λ (r : Row). r.first) (λ lim t k r. refl) lim t k rs h g.first_room;
  second_filled = column (λ (t : Table). t.second) (λ (r : Row). r.second) (λ lim t k r. refl) lim t k rs h g.second_room;
  place_filled = column (λ (t : Table). t.place) (λ (r : Row). r.place) (λ lim t k r. refl) lim t k rs h g.place_room;
  below_filled = column (λ (t : Table). t.below) (λ (r : Row). r.below) (λ lim t k r. refl) lim t k rs h g.below_room;
  start_filled = column (λ (t : Table). t.start) (λ (r : Row). r.start) (λ lim t k r. refl) lim t k rs h g.start_room;
  end_filled = column (λ (t : Table). t.end) (λ (r : Row). r.end) (λ lim t k r. refl) lim t k rs h g.end_room;
}
