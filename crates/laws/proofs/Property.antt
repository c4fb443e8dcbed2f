-- The values inside a user type, parted at the property that is exchanged.
use mathlib.Core.Path.{◌≡◌, refl, sym, ap, ◌∙◌, ap₂}
use mathlib.Core.Bool.{Bool, true, false, cond}
use mathlib.Core.List.{List, [], ◌∷◌, ◌++◌, append_assoc}
use Prim.Native.Nat.{ℕ, zero, suc, ◌+◌, ◌<◌, ◌≤◌}
use native.Mathlib.Omega.{arith}
use lib.ListN.{length, length-append}
use lib.Seq.{drop_at}
use lib.IntN.{ℤ, pos}
use Rattle.integer.specs.Packed.{spell_int}
use Rattle.format.specs.declared.Row.{Row}
use Rattle.format.specs.Data.{eq_z}
use Rattle.format.specs.Values.{Children, empty, child, child_of, Value, value, Form, rising, rule_of}
use Rattle.format.specs.Spelling.{fore, indexed, spell_children, spell}
use Rattle.format.specs.Rows.{count, row_of, rows_from}
use Rattle.format.specs.Exchange.{labelled, swap}
use Rattle.format.specs.Grammar.{Formed, Fits, Shaped}
use Rattle.format.proofs.Counts.{rows-length}
use Rattle.laws.specs.Words.{level, Unlabelled, PropertyRow}
use Rattle.laws.proofs.Tests.{clash, eq_z-true, eq_z-same}
use Rattle.laws.proofs.Rows.{seens}

-- ---- values after values

unfoldable pub joined : Children → Children → Children
joined empty more = more
joined (child i h cs next) more = child i h cs (joined next more)

-- the spelling of values with their indexes, not closed
unfoldable pub unclosed : Children → List ℕ
unclosed empty = []
unclosed (child i h cs next) = spell_int (pos i) ++ (spell (value h cs) ++ unclosed next)

pub joined-spelt : (b more : Children) → spell_children true (joined b more) ≡ unclosed b ++ spell_children true more
unfolding joined unclosed spell_children spell
joined-spelt empty more = refl
joined-spelt (child i h cs next) more = rw (joined-spelt next more) (simp append_assoc)

pub joined-seens : (b more : Children) → seens (joined b more) ≡ seens b ++ seens more
unfolding joined seens
joined-seens empty more = refl
joined-seens (child i h cs next) more = rw (joined-seens next more) (simp append_assoc)

pub joined-rows : (at : ℕ) (b more : Children) → rows_from true at (joined b more) ≡ rows_from true at b ++ rows_from true (at + length (unclosed b)) more
unfolding joined unclosed rows_from
joined-rows at empty more = ap (λ (n : ℕ). rows_from true n more) (omega arith)
joined-rows at (child i h cs next) more =
    let to = at + length (spell_int (pos i)) + length (spell (value h cs)) in
    let there : to + length (unclosed next) ≡ at + length (spell_int (pos i) ++ (spell (value h cs) ++ unclosed next)) = simp length-append (omega arith) in
    rw (joined-rows to next more, there) (simp append_assoc)

-- ---- the rows at one level

-- of the values themselves
unfoldable pub tops : ℕ → Children → List Row
tops at empty = []
tops at (child i h cs next) =
    let from = at + length (spell_int (pos i)) in
    let to = from + length (spell (value h cs)) in
    row_of i h (count cs) from to ∷ tops to next

pub level-tops : (k at : ℕ) (cs : Children) → count cs ≤ k → level k (rows_from true at cs) ≡ tops at cs
unfolding level tops rows_from count
level-tops zero at empty b = refl
level-tops zero at (child i h cs next) b = absurd (omega arith)
level-tops (suc k) at empty b = refl
level-tops (suc k) at (child i h cs next) b =
    let from = at + length (spell_int (pos i)) in
    let to = from + length (spell (value h cs)) in
    ap₂ ◌∷◌ refl (ap (level k) (drop_at (rows_from (indexed (rule_of h)) (from + length (fore h)) cs) (rows_from true to next) (count cs) (rows-length _ _ cs)) ∙ level-tops k to next (omega arith))

pub joined-tops : (at : ℕ) (b more : Children) → tops at (joined b more) ≡ tops at b ++ tops (at + length (unclosed b)) more
unfolding joined unclosed tops
joined-tops at empty more = ap (λ (n : ℕ). tops n more) (omega arith)
joined-tops at (child i h cs next) more =
    let to = at + length (spell_int (pos i)) + length (spell (value h cs)) in
    let there : to + length (unclosed next) ≡ at + length (spell_int (pos i) ++ (spell (value h cs) ++ unclosed next)) = simp length-append (omega arith) in
    rw (joined-tops to next more, there)

-- ---- the property

pub record Parted (i : ℤ) (cs : Children) : Type 0 where
  pub before : Children
  pub label : ℕ
  pub was : Value
  pub behind : Children
  pub label_is : pos label ≡ i
  pub whole_is : cs ≡ joined before (child_of label was behind)
  pub becomes : (w : Value) → swap i w cs ≡ joined before (child_of label w behind)
  pub none_before : (at : ℕ) → Unlabelled i (tops at before)

pub parted : (i : ℤ) (cs : Children) → labelled i cs ≡ true → Parted i cs
unfolding labelled swap joined tops Unlabelled
parted i empty e = clash (sym e)
parted i (child j h cs more) e = by (parted i more) (eq_z (pos j) i) refl e
  where
    by : (labelled i more ≡ true → Parted i more) → (t : Bool) → eq_z (pos j) i ≡ t → cond t true (labelled i more) ≡ true → Parted i (child j h cs more)
    by again true t q = record {
      before = empty;
      label = j;
      was = value h cs;
      behind = more;
      label_is = eq_z-true (pos j) i t;
      whole_is = refl;
      becomes = λ w. rw (t, swap);
      none_before = λ at. tt;
    }
    by again false t q =
        let p = again q in
        record {
          before = child j h cs p.before;
          label = p.label;
          was = p.was;
          behind = p.behind;
          label_is = p.label_is;
          whole_is = ap (child j h cs) p.whole_is;
          becomes = λ w. rw (t, swap) (ap (child j h cs) (p.becomes w));
          none_before = λ at. (λ z. clash (sym (eq_z-same (pos j)) ∙ ap (eq_z (pos j)) z ∙ t), p.none_before _);
        }

-- indexes rise, so no other has the label
above : (f : Form) (top low at : ℕ) (i : ℤ) (j : ℕ) (cs : Children) → pos j ≡ i → j < low → Fits (rising f top low) cs → Unlabelled i (tops at cs)
unfolding Fits tops Unlabelled
above f top low at i j empty e b q = tt
above f top low at i j (child k h cs more) e b q =
    let kl : low ≤ k = q.0.0 in
    (λ z. let kj : k ≡ j = cc in omega arith, above f top (suc k) _ i j more e (omega arith) q.3)

pub none-behind : (f : Form) (top low at : ℕ) (i : ℤ) (b : Children) (j : ℕ) (was : Value) (behind : Children) → pos j ≡ i → Fits (rising f top low) (joined b (child_of j was behind)) → Unlabelled i (tops at behind)
unfolding joined Fits
none-behind f top low at i empty j was behind e q = above f top (suc j) at i j behind e (omega arith) q.3
none-behind f top low at i (child k h cs next) j was behind e q = none-behind f top (suc k) at i next j was behind e q.3

-- another value of the grammar in its place
pub put-fits : (f : Form) (top low : ℕ) (b : Children) (j : ℕ) (was w : Value) (behind : Children) → Formed f w.top → Shaped w
    → Fits (rising f top low) (joined b (child_of j was behind)) → Fits (rising f top low) (joined b (child_of j w behind))
unfolding joined Fits
put-fits f top low empty j was w behind g s q = ((q.0.0, q.0.1, g), s.good, s.held, q.3)
put-fits f top low (child k h cs next) j was w behind g s q = (q.0, q.1, q.2, put-fits f top (suc k) next j was w behind g s q.3)

-- ---- there is one such row

unlabelled-apart : (i : ℤ) (p q : Row) (a b c d : List Row) → a ++ (p ∷ b) ≡ c ++ (q ∷ d) → pos p.label ≡ i → pos q.label ≡ i → Unlabelled i a → Unlabelled i c → p ≡ q
unfolding Unlabelled
unlabelled-apart i p q [] b [] d e h k u w = cc
unlabelled-apart i p q [] b (x ∷ c) d e h k u w = let same : p ≡ x = cc in absurd (w.0 (ap (λ (r : Row). pos r.label) (sym same) ∙ h))
unlabelled-apart i p q (x ∷ a) b [] d e h k u w = let same : x ≡ q = cc in absurd (u.0 (ap (λ (r : Row). pos r.label) same ∙ k))
unlabelled-apart i p q (x ∷ a) b (y ∷ c) d e h k u w = unlabelled-apart i p q a b c d (cc) h k u.1 w.1

pub property-unique : (i : ℤ) (rs : List Row) (p q : Row) → PropertyRow i rs p → PropertyRow i rs q → p ≡ q
property-unique i rs p q g h = unlabelled-apart i p q g.sooner g.later h.sooner h.later (sym g.at_level_2 ∙ h.at_level_2) g.labelled h.labelled g.none_sooner h.none_sooner
