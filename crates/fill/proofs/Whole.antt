-- A whole message filled in.
use mathlib.Core.Path.{◌≡◌, refl, sym, ap, subst, ◌∙◌}
use mathlib.Core.Bool.{false}
use mathlib.Core.List.{List, [], append-nil}
use Prim.Native.Nat.{ℕ, suc}
use native.Mathlib.Omega.{arith}
use lib.ListN.{length}
use borrow.Author.Tests.{le-ltb}
use Rattle.std.specs.Prelude.{Option}
use Rattle.format.specs.declared.Row.{Row}
use Rattle.format.specs.Values.{child_of, empty, Value, levels}
use Rattle.format.specs.Spelling.{spell_children, spell}
use Rattle.format.specs.Grammar.{Valid}
use Rattle.format.specs.Rows.{count, rows_from, rows}
use Rattle.format.specs.Writing.{Table}
use Rattle.laws.proofs.Rows.{alone-spelt}
use Rattle.decide.specs.declared.Form.TheVariants.{Whole}
use Rattle.decide.specs.declared.Nest.{Nest}
use Rattle.fill.specs.Rows.{CountedNest}
use Rattle.columns.specs.Columns.{Roomy, put_row, Blank, puts, Filled}
use Rattle.columns.specs.Lent.{Cleared}
use Rattle.fill.specs.Numbers.{Begins}
use Rattle.decide.specs.Forms.{nest_with}
use Rattle.fill.specs.Filling.{FilledElements, FilledIn}
use Rattle.columns.proofs.Storing.{puts-filled}
use Rattle.columns.proofs.Cleared.{cleared-blank, filled-cleared}
use Rattle.fill.proofs.Values.{rows-count}
use Rattle.fill.proofs.Accepted.{valid-fillable}

-- nothing is stored at the limit
row-none : (lim : ℕ) (t : Table) (r : Row) → put_row lim t lim r ≡ t
unfolding put_row
row-none lim t r = rw (le-ltb lim lim (omega arith))

rows_are : (v : Value) → rows v ≡ rows_from false 0 (child_of 0 v empty)
unfolding rows
rows_are v = refl

begun : (o : List ℕ) (v : Value) → o ≡ spell v → Begins o 0 (spell_children false (child_of 0 v empty))
unfolding Rattle.laws.proofs.Rows.alone spell
begun o v e = record { after = []; begins = e ∙ sym (append-nil (spell_children false (child_of 0 v empty)) ∙ alone-spelt v) }

module _ {o : List ℕ} {lim : ℕ} {row : Row} {d : ℕ} {t : Table} {r : Option (ℕ × ℕ)} {t' : Table} where
  filled_in : FilledElements o lim row (nest_with false false Whole Whole 1) lim 0 d t r t' → d ≡ suc levels → row.end ≡ 0 → Roomy lim t → Blank lim 0 t → (v : Value) → Valid v → o ≡ spell v → length (rows v) ≡ lim → Filled 0 (rows v) t t'
  filled_in f dd e room blank v k s l =
      let c = child_of 0 v empty in
      let n : length (rows v) ≡ count c = ap length (rows_are v) ∙ rows-count false 0 c in
      let w = f.same c (rw dd (valid-fillable v k)) (rw e (begun o v s)) (omega arith) blank in
      let z : t' ≡ puts lim t 0 (rows v) = w.1 ∙ row-none lim _ _ ∙ rw (e, rows_are v) in
      subst (Filled 0 (rows v) t) (sym z) (puts-filled lim t 0 (rows v) (omega arith) room)

pub filled-whole : {o : List ℕ} {lim : ℕ} {t u t' : Table} → Cleared lim t u → {row : Row} {d : ℕ} {n : Nest} {r : Option (ℕ × ℕ)} → n ≡ nest_with false false Whole Whole 1 → FilledElements o lim row n lim 0 d u r t' → d ≡ suc levels → row.end ≡ 0 → Roomy lim u → FilledIn o lim t t'
filled-whole {o} {lim} {u = u} {t' = t'} c {row} {d} {r = r} e f dd z room = record {
  same = λ v k o_is l. filled-cleared c (rows v) l (filled_in (subst (λ (y : Nest). FilledElements o lim row y lim 0 d u r t') e f) dd z room (cleared-blank c) v k o_is l);
}

pub one-count : {n : Nest} → n ≡ nest_with false false Whole Whole 1 → CountedNest n
one-count q = rw q (omega arith, refl)
