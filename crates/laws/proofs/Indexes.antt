-- The rows directly below a row whose values have indexes: their labels rise.
use mathlib.Core.Path.{refl, sym, subst}
use mathlib.Core.Bool.{Bool, true, false}
use mathlib.Core.List.{List, [], ◌∷◌, ◌++◌}
use Prim.Native.Nat.{ℕ, suc, ◌+◌}
use native.Mathlib.Omega.{arith}
use lib.ListN.{length}
use lib.Seq.{take_at, take-append-le}
use lib.IntN.{ℤ, pos}
use Rattle.format.specs.declared.Row.{Row}
use Rattle.format.specs.Types.{Holds, nothing, values, couples, indexes, properties, one, parts, kind_of}
use Rattle.format.specs.Values.{Head, Children, empty, child, child_of, Value, value, Form, Rule, counted, rising, moments, rule_by, rule_of, pieces}
use Rattle.format.specs.Spelling.{fore, indexed, index, spell}
use Rattle.format.specs.Rows.{count, row_of, rows_from, rows}
use Rattle.format.specs.Grammar.{Held, Fits, Shaped, Valid}
use Rattle.laws.specs.Words.{Nested, Rise, Indexed, Rising}
use Rattle.format.proofs.Counts.{rows-length}
use Rattle.laws.proofs.Property.{tops, level-tops}
use Rattle.laws.proofs.Bounds.{Somes, valid-some}
use Rattle.laws.proofs.Places.{rows-nested}

-- every value holds what its rule says
unfoldable Holding : Children → Type 0
Holding empty = Unit {0}
Holding (child i h cs more) = Held (rule_of h) cs (Fits (rule_of h) cs) × Holding cs × Holding more

pieces-holding : (i : ℕ) (l : List ℤ) → Holding (pieces i l)
unfolding Holding pieces rule_of kind_of Fits
pieces-holding i [] = tt
pieces-holding i (z ∷ l) = (refl, tt, pieces-holding (suc i) l)

held-holding : (r : Rule) (cs : Children) → Held r cs (Fits r cs) → (Fits r cs → Holding cs) → Holding cs
held-holding (counted paired f g n i) cs q k = k q
held-holding (rising f top low) cs q k = k q
held-holding (moments d) cs q k = subst Holding (sym q.are_pieces) (pieces-holding 0 _)

fits-holding : (r : Rule) (cs : Children) → Fits r cs → Holding cs
unfolding Holding Fits
fits-holding r empty q = tt
fits-holding r (child i h cs more) q = (q.2, held-holding (rule_of h) cs q.2 (fits-holding (rule_of h) cs), fits-holding _ more q.3)

shaped-holding : (v : Value) → Shaped v → Holding (child_of 0 v empty)
unfolding Holding
shaped-holding v g = (g.held, held-holding (rule_of v.top) v.inside g.held (fits-holding (rule_of v.top) v.inside), tt)

tops-rise : (f : Form) (top low at : ℕ) (cs : Children) → Fits (rising f top low) cs → Rise low top (tops at cs)
unfolding Fits tops Rise
tops-rise f top low at empty q = tt
tops-rise f top low at (child i h cs more) q = (q.0.0, q.0.1, tops-rise f top (suc i) _ more q.3)

row-indexed : (i : ℕ) (h : Head) (cs : Children) (from to at : ℕ) → Held (rule_of h) cs (Fits (rule_of h) cs) → Indexed (kind_of h.ty).holds (row_of i h (count cs) from to) (rows_from (indexed (rule_of h)) at cs)
unfolding rule_of
row-indexed i h cs from to at q = by (kind_of h.ty).holds q
  where
    by : (y : Holds) → Held (rule_by (kind_of h.ty) y h) cs (Fits (rule_by (kind_of h.ty) y h) cs) → Indexed y (row_of i h (count cs) from to) (rows_from (indexed (rule_by (kind_of h.ty) y h)) at cs)
    by nothing q = tt
    by values q = tt
    by couples q = tt
    by indexes q = subst (Rise 0 _) (sym (level-tops _ at cs (omega (arith, rows-length true at cs)))) (tops-rise _ _ 0 at cs q)
    by properties q = subst (Rise 0 _) (sym (level-tops _ at cs (omega (arith, rows-length true at cs)))) (tops-rise _ _ 0 at cs q)
    by one q = tt
    by (parts d) q = tt

rising-join : (a b : List Row) → Nested a → Rising a → Rising b → Rising (a ++ b)
unfolding Nested Rising
rising-join [] b n p q = q
rising-join (r ∷ a) b n p q = (subst (Indexed (kind_of r.ty).holds r) (sym (take-append-le r.below a b n.0)) p.0, rising-join a b n.3 p.1 q)

from-rising : (x : Bool) (at : ℕ) (cs : Children) → Somes cs → Holding cs → Rising (rows_from x at cs)
unfolding Rising rows_from Somes Holding
from-rising x at empty m q = tt
from-rising x at (child i h cs more) m q =
    let from = at + length (index x (pos i)) in
    let to = from + length (spell (value h cs)) in
    let inside = rows_from (indexed (rule_of h)) (from + length (fore h)) cs in (
      subst (Indexed (kind_of h.ty).holds (row_of i h (count cs) from to)) (sym (take_at inside (rows_from x to more) (count cs) (rows-length _ _ cs))) (row-indexed i h cs from to (from + length (fore h)) q.0),
      rising-join inside (rows_from x to more) (rows-nested _ _ cs m.1) (from-rising (indexed (rule_of h)) (from + length (fore h)) cs m.1 q.1) (from-rising x to more m.2 q.2),
    )

pub rows-rising : (v : Value) → Valid v → Rising (rows v)
unfolding rows
rows-rising v a = from-rising false 0 (child_of 0 v empty) (valid-some v a) (shaped-holding v a.shaped)
