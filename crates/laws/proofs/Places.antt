-- The places of rows: within the message, those below a row within it, and contents within their row.
use mathlib.Core.Path.{◌≡◌, refl, sym, ap, ◌∙◌, subst}
use mathlib.Core.Bool.{Bool, true, false}
use mathlib.Core.List.{List, [], ◌∷◌, ◌++◌}
use Prim.Native.Nat.{ℕ, ◌+◌, ◌<◌, ◌≤◌}
use native.Mathlib.Omega.{arith}
use lib.ListN.{length, length-append, take, drop, take-append-drop}
use lib.Seq.{take_at, drop_at, take-append-le, drop-append-le}
use lib.IntN.{pos}
use lib.Signed.{mag}
use Rattle.format.specs.declared.Row.{Row}
use Rattle.format.specs.Types.{kind_of}
use Rattle.format.specs.Values.{Head, Children, empty, child, child_of, Value, value, rule_of}
use Rattle.format.specs.Spelling.{fore, indexed, index, spell_children, spell}
use Rattle.format.specs.Rows.{count, has_contents, row_of, rows_from, rows}
use Rattle.format.specs.Grammar.{Good, Valid}
use Rattle.laws.specs.Words.{Between, Since, Ordered, Nested, Contained, ContentsWithin, Placed}
use Rattle.laws.proofs.Rows.{Goods, shaped-good, contents-long, before_text, fore-text, alone, alone-spelt}
use Rattle.format.proofs.Counts.{rows-length}
use Rattle.laws.proofs.Bounds.{Somes, valid-some}

-- ---- lists of rows

between_join : (low high : ℕ) (a b : List Row) → Between low high a → Between low high b → Between low high (a ++ b)
unfolding Between
between_join low high [] b p q = q
between_join low high (r ∷ a) b p q = (p.0, between_join low high a b p.1 q)

between-wider : (low low' high high' : ℕ) (a : List Row) → low' ≤ low → high ≤ high' → Between low high a → Between low' high' a
unfolding Between
between-wider low low' high high' [] l h p = tt
between-wider low low' high high' (r ∷ a) l h p =
    let one : low ≤ r.start = p.0.0 in
    let two : r.end ≤ high = p.0.2 in
    ((omega arith, p.0.1, omega arith), between-wider low low' high high' a l h p.1)

between-since : (low high : ℕ) (a : List Row) → Between low high a → Since low a
unfolding Between Since
between-since low high [] p = tt
between-since low high (r ∷ a) p = (p.0.0, between-since low high a p.1)

since-join : (low : ℕ) (a b : List Row) → Since low a → Since low b → Since low (a ++ b)
unfolding Since
since-join low [] b p q = q
since-join low (r ∷ a) b p q = (p.0, since-join low a b p.1 q)

since-lower : (low low' : ℕ) (a : List Row) → low' ≤ low → Since low a → Since low' a
unfolding Since
since-lower low low' [] l p = tt
since-lower low low' (r ∷ a) l p = let one : low ≤ r.start = p.0 in (omega arith, since-lower low low' a l p.1)

nested-join : (low high : ℕ) (a b : List Row) → Between low high a → Since high b → Nested a → Nested b → Nested (a ++ b)
unfolding Between Nested
nested-join low high [] b p s n m = m
nested-join low high (r ∷ a) b p s n m =
    let few : r.below ≤ length a = n.0 in
    let end : r.end ≤ high = p.0.2 in (
      omega (arith, length-append a b),
      subst (Between r.start r.end) (sym (take-append-le r.below a b few)) n.1,
      subst (Since r.end) (sym (drop-append-le r.below a b few)) (since-join r.end (drop r.below a) b n.2 (since-lower high r.end b end s)),
      nested-join low high a b p.1 s n.3 m,
    )

-- ---- the rows of values

rows-between : (x : Bool) (at : ℕ) (cs : Children) → Somes cs → Between at (at + length (spell_children x cs)) (rows_from x at cs)
unfolding Between rows_from spell_children spell Somes
rows-between x at empty m = tt
rows-between x at (child i h cs more) m =
    let d = index x (pos i) in
    let inside = spell_children (indexed (rule_of h)) cs in
    let after = spell_children x more in
    let own : length (fore h ++ inside) ≡ length (fore h) + length inside = length-append (fore h) inside in
    let all : length (d ++ (fore h ++ (inside ++ after))) ≡ length d + (length (fore h) + (length inside + length after)) = simp length-append in (
      (omega arith, omega (arith, m.0), omega arith),
      between_join _ _ (rows_from (indexed (rule_of h)) _ cs) (rows_from x _ more)
          (between-wider _ at _ _ (rows_from (indexed (rule_of h)) (at + length d + length (fore h)) cs) (omega arith) (omega arith) (rows-between (indexed (rule_of h)) (at + length d + length (fore h)) cs m.1))
          (between-wider _ at _ _ (rows_from x (at + length d + length (fore h ++ inside)) more) (omega arith) (omega arith) (rows-between x (at + length d + length (fore h ++ inside)) more m.2)),
    )

pub rows-nested : (x : Bool) (at : ℕ) (cs : Children) → Somes cs → Nested (rows_from x at cs)
unfolding Nested rows_from spell Somes
rows-nested x at empty m = tt
rows-nested x at (child i h cs more) m =
    let d = index x (pos i) in
    let from = at + length d in
    let to = from + length (spell (value h cs)) in
    let own : length (spell (value h cs)) ≡ length (fore h) + length (spell_children (indexed (rule_of h)) cs) = length-append (fore h) (spell_children (indexed (rule_of h)) cs) in
    let inside = rows_from (indexed (rule_of h)) (from + length (fore h)) cs in
    let others = rows_from x to more in
    let many : length inside ≡ count cs = rows-length (indexed (rule_of h)) (from + length (fore h)) cs in
    let in-here : Between (from + length (fore h)) to inside =
    between-wider (from + length (fore h)) (from + length (fore h)) _ to inside (omega arith) (omega arith) (rows-between (indexed (rule_of h)) (from + length (fore h)) cs m.1) in
    let after-here : Since to others = between-since to _ others (rows-between x to more m.2) in (
      omega (arith, length-append inside others),
      subst (Between from to) (sym (take_at inside others (count cs) many)) (between-wider (from + length (fore h)) from to to inside (omega arith) (omega arith) in-here),
      subst (Since to) (sym (drop_at inside others (count cs) many)) after-here,
      nested-join (from + length (fore h)) to inside others in-here after-here (rows-nested (indexed (rule_of h)) (from + length (fore h)) cs m.1) (rows-nested x to more m.2),
    )

row-contained : (i : ℕ) (h : Head) (cs : Children) (from : ℕ) → Good (kind_of h.ty) h → Contained (has_contents (kind_of h.ty).text) (row_of i h (count cs) from (from + length (spell (value h cs))))
unfolding spell
row-contained i h cs from g = by (has_contents (kind_of h.ty).text) refl
  where
    by : (b : Bool) → has_contents (kind_of h.ty).text ≡ b → Contained b (row_of i h (count cs) from (from + length (spell (value h cs))))
    by true e =
        let long : length h.text ≡ mag h.number = contents-long (kind_of h.ty).text h.number h.text e g.text-good in
        let parts : length (fore h) ≡ length (before_text h) + length h.text = ap length (fore-text h) ∙ length-append (before_text h) h.text in
        let own = length-append (fore h) (spell_children (indexed (rule_of h)) cs) in
        rw e (omega arith, omega arith)
    by false e = rw e

contents-join : (a b : List Row) → ContentsWithin a → ContentsWithin b → ContentsWithin (a ++ b)
unfolding ContentsWithin
contents-join [] b p q = q
contents-join (r ∷ a) b p q = (p.0, contents-join a b p.1 q)

rows-contained : (x : Bool) (at : ℕ) (cs : Children) → Goods cs → ContentsWithin (rows_from x at cs)
unfolding ContentsWithin rows_from Goods
rows-contained x at empty g = tt
rows-contained x at (child i h cs more) g =
    (row-contained i h cs _ g.0, contents-join (rows_from (indexed (rule_of h)) _ cs) (rows_from x _ more) (rows-contained (indexed (rule_of h)) _ cs g.1) (rows-contained x _ more g.2))

-- rows that nest are in order
since-split : (low n : ℕ) (rs : List Row) → Since low (take n rs) → Since low (drop n rs) → Since low rs
since-split low n rs p q = subst (Since low) (take-append-drop n rs) (since-join low (take n rs) (drop n rs) p q)

nested-ordered : (high : ℕ) (rs : List Row) → Between 0 high rs → Nested rs → Ordered rs
unfolding Between Nested Ordered
nested-ordered high [] p n = tt
nested-ordered high (r ∷ rs) p n =
    let some : r.start < r.end = p.0.1 in
    (since-split r.start r.below rs (between-since r.start r.end (take r.below rs) n.1) (since-lower r.end r.start (drop r.below rs) (omega arith) n.2), nested-ordered high rs p.1 n.3)

-- the rows of a valid value
pub rows-placed : (v : Value) → Valid v → Placed (length (spell v)) (rows v)
unfolding rows alone
rows-placed v a =
    let m = valid-some v a in
    let n = rows-nested false 0 (child_of 0 v empty) m in
    let b : Between 0 (length (spell v)) (rows v) = between-wider 0 0 _ _ _ (omega arith) (omega (arith, ap length (alone-spelt v))) (rows-between false 0 (child_of 0 v empty) m) in
    record { within = b; ordered = nested-ordered _ _ b n; nested = n; contents = rows-contained false 0 (child_of 0 v empty) (shaped-good 0 v a.shaped) }
