-- A value filled in.
use mathlib.Core.Path.{◌≡◌, refl, sym, ap, subst, ap₂, ◌∙◌}
use mathlib.Core.Bool.{Bool, false}
use mathlib.Core.List.{List, [], ◌∷◌, ◌++◌, append-nil}
use Prim.Native.Nat.{ℕ, zero, suc, ◌+◌, ◌-◌, ◌<◌, ◌≤◌}
use native.Mathlib.Omega.{arith}
use native.Mathlib.Nat.{add-zero}
use lib.ListN.{length, length-append}
use lib.IntN.{pos}
use Rattle.std.specs.Prelude.{Option, Some, None}
use Rattle.format.specs.declared.Row.{Row}
use Rattle.format.specs.Types.{Holds, nothing, values, couples, indexes, properties, one, parts, kind_of}
use Rattle.format.specs.Values.{Head, Children, empty, child, value, rule_by, rule_of}
use Rattle.format.specs.Spelling.{fore, indexed, index, spell_children, spell}
use Rattle.format.specs.Rows.{count, rows_from}
use Rattle.format.specs.Writing.{Table}
use Rattle.decide.specs.declared.Form.{Form}
use Rattle.decide.specs.declared.Form.TheVariants.{Whole}
use Rattle.decide.specs.declared.Nest.{Nest}
use Rattle.fill.specs.declared.Found.{Found}
use Rattle.fill.specs.declared.Found.TheVariants.{Leaf, Holder}
use Rattle.columns.specs.Columns.{Stored, put_row, Blank, puts, Single}
use Rattle.fill.specs.Numbers.{Begins}
use Rattle.decide.specs.Forms.{nest_with}
use Rattle.fill.specs.Rows.{nest_by, nest_of, found_by, front_row, PastFound, RowAt}
use Rattle.fill.specs.Filling.{Fillable, Within, Fit, closed, Advanced, FilledValue, FilledElements}
use Rattle.fill.proofs.Begins.{begins-left, begins-right, moved}
use Rattle.columns.proofs.Storing.{blank-later}

-- ---- rows and spelling, by what the code keeps of a container

pub indexed-is : (h : Head) (cs : Children) → indexed (rule_of h) ≡ (nest_of h cs).indexed
unfolding rule_of nest_of
indexed-is h cs = by (kind_of h.ty).holds
  where
    by : (x : Holds) → indexed (rule_by (kind_of h.ty) x h) ≡ (nest_by (kind_of h.ty) x h cs).indexed
    by nothing = refl
    by values = refl
    by couples = refl
    by indexes = refl
    by properties = refl
    by one = refl
    by (parts d) = refl

pub spell-is : (h : Head) (cs : Children) → spell (value h cs) ≡ fore h ++ spell_children (nest_of h cs).indexed cs
unfolding spell
spell-is h cs = ap (λ (x : Bool). fore h ++ spell_children x cs) (indexed-is h cs)

pub rows-count : (x : Bool) (at : ℕ) (cs : Children) → length (rows_from x at cs) ≡ count cs
unfolding rows_from count
rows-count x at empty = refl
rows-count x at (child i h cs more) = ap suc (length-append (rows_from _ _ cs) (rows_from x _ more) ∙ rw (rows-count (indexed (rule_of h)) (at + length (index x (pos i)) + length (fore h)) cs, rows-count x (at + length (index x (pos i)) + length (spell (value h cs))) more))

-- ---- what was found of a value

leaf-is : (x : Holds) (n : Nest) {r row : Row} → found_by x r n ≡ Leaf row → (x ≡ nothing) × (r ≡ row)
leaf-is nothing n e = (refl, cc)
leaf-is values n e = cc
leaf-is couples n e = cc
leaf-is indexes n e = cc
leaf-is properties n e = cc
leaf-is one n e = cc
leaf-is (parts d) n e = cc

holder-is : (x : Holds) (n : Nest) {m : Nest} {r row : Row} → found_by x r n ≡ Holder row m → (r ≡ row) × (n ≡ m)
holder-is nothing n e = cc
holder-is values n e = (cc, cc)
holder-is couples n e = (cc, cc)
holder-is indexes n e = (cc, cc)
holder-is properties n e = (cc, cc)
holder-is one n e = (cc, cc)
holder-is (parts d) n e = (cc, cc)

found-same : {a b : Found} → ◌≡◌ {A = Option Found} (Some a) (Some b) → a ≡ b
found-same e = cc

bare-nest : (d : ℕ) (cs : Children) → Fillable d (nest_with false false Whole Whole 0) 0 cs → cs ≡ empty
unfolding Fillable
bare-nest d empty f = refl
bare-nest zero (child i h cs more) f = absurd f
bare-nest (suc d) (child i h cs more) f = absurd (omega (arith, f.0.0))

leaf-nest : (h : Head) (cs : Children) → (kind_of h.ty).holds ≡ nothing → nest_of h cs ≡ nest_with false false Whole Whole 0
unfolding nest_of
leaf-nest h cs e = ap (λ (x : Holds). nest_by (kind_of h.ty) x h cs) e

leaf-empty : (d : ℕ) (h : Head) (cs : Children) → (kind_of h.ty).holds ≡ nothing → Within d (nest_of h cs) cs → cs ≡ empty
leaf-empty zero h cs e w = absurd w
leaf-empty (suc d) h cs e w = bare-nest d cs (subst (λ (n : Nest). Fillable d n 0 cs) (leaf-nest h cs e) w)

leaf-spelt : (h : Head) → (kind_of h.ty).holds ≡ nothing → spell (value h empty) ≡ fore h
unfolding spell_children
leaf-spelt h e = spell-is h empty ∙ ap (λ (n : Nest). fore h ++ spell_children n.indexed empty) (leaf-nest h empty e) ∙ append-nil (fore h)

leaf-rows : (i at : ℕ) (h : Head) → (kind_of h.ty).holds ≡ nothing → rows_from false at (child i h empty empty) ≡ front_row i h at ∷ []
unfolding rows_from count
leaf-rows i at h e = rw (add-zero, leaf-spelt h e)

pub spell-long : (h : Head) (cs : Children) (at : ℕ) → at + length (spell (value h cs)) ≡ at + length (fore h) + length (spell_children (nest_of h cs).indexed cs)
spell-long h cs at = let e : length (spell (value h cs)) ≡ length (fore h) + length (spell_children (nest_of h cs).indexed cs) = ap length (spell-is h cs) ∙ length-append (fore h) (spell_children (nest_of h cs).indexed cs) in omega arith

pub value-rows : (i at : ℕ) (h : Head) (cs : Children) → rows_from false at (child i h cs empty)
    ≡ closed (front_row i h at) (count cs) (at + length (fore h) + length (spell_children (nest_of h cs).indexed cs)) ∷ rows_from (nest_of h cs).indexed (at + length (fore h)) cs
unfolding rows_from
value-rows i at h cs = rw (add-zero, append-nil, indexed-is h cs, spell-long h cs at)

one_more : (k : ℕ) → k + 1 ≡ k + suc (count empty)
unfolding count
one_more k = refl

one-put : (lim k : ℕ) (t : Table) (r : Row) → put_row lim t k r ≡ puts lim t k (r ∷ [])
unfolding puts
one-put lim k t r = refl

more-put : (lim k : ℕ) (t : Table) (r : Row) (rs : List Row) → put_row lim (puts lim t (k + 1) rs) k r ≡ puts lim t k (r ∷ rs)
unfolding puts
more-put lim k t r rs = refl

module _ {o : List ℕ} {form : Form} {i at : ℕ} {x : Option Found} (row_at : RowAt o form i at x) where
  accepted : {d : ℕ} (h : Head) (cs : Children) → Fit d form h cs → Begins o at (spell (value h cs)) → x ≡ Some (found_by (kind_of h.ty).holds (front_row i h at) (nest_of h cs))
  accepted h cs f b =
      let b' = subst (Begins o at) (spell-is h cs) b in
      row_at.same (value h cs) f.stands f.carried f.good f.dated (begins-left (fore h) (spell_children (nest_of h cs).indexed cs) b') (begins-right (fore h) (spell_children (nest_of h cs).indexed cs) b')

  module _ {lim k d : ℕ} {t : Table} where
    pub value-unread : x ≡ None → FilledValue o lim form i at k d t None t
    value-unread q = record { advanced = tt; same = λ h cs f b r z. let e = sym (accepted h cs f b) ∙ q in cc }

    pub value-leaf : {row : Row} {t' : Table} → x ≡ Some (Leaf row) → k < lim → (Single row → Blank lim k t → Stored lim k row t t') → FilledValue o lim form i at k d t (Some (row.end, k + 1)) t'
    value-leaf {row} {t'} q l st = let p = subst (PastFound o at) q row_at.past in record {
      advanced = (p.0, p.1, omega arith, omega arith);
      same = λ h cs f b r z.
          let w = leaf-is (kind_of h.ty).holds (nest_of h cs) (found-same (sym (accepted h cs f b) ∙ q)) in
          let e : cs ≡ empty = leaf-empty d h cs w.0 f.within in
          subst (λ (y : Children). (◌≡◌ {A = Option (ℕ × ℕ)} (Some (row.end, k + 1)) (Some (at + length (spell (value h y)), k + suc (count y)))) × (t' ≡ puts lim t k (rows_from false at (child i h y empty)))) (sym e) (filled h w.0 w.1 (st p.2 z));
    }
      where
        filled : (h : Head) → (kind_of h.ty).holds ≡ nothing → front_row i h at ≡ row → Stored lim k row t t' → (◌≡◌ {A = Option (ℕ × ℕ)} (Some (row.end, k + 1)) (Some (at + length (spell (value h empty)), k + suc (count empty)))) × (t' ≡ puts lim t k (rows_from false at (child i h empty empty)))
        filled h e z st = (ap₂ (λ (y z : ℕ). Some (y, z)) (sym (ap (λ (m : Row). m.end) z) ∙ ap (λ (l : List ℕ). at + length l) (sym (leaf-spelt h e))) (one_more k), st.stored ∙ ap (put_row lim t k) (sym z) ∙ one-put lim k t (front_row i h at) ∙ ap (puts lim t k) (sym (leaf-rows i at h e)))

    pub value-deep : {row : Row} {n : Nest} → x ≡ Some (Holder row n) → d ≡ 0 → FilledValue o lim form i at k d t None t
    value-deep q e = record { advanced = tt; same = λ h cs f b r z. absurd (subst (λ (y : ℕ). Within y (nest_of h cs) cs) e f.within) }

    pub value-holder : {row : Row} {n : Nest} {r : Option (ℕ × ℕ)} {t' : Table} → x ≡ Some (Holder row n) → (d ≡ 0 → ⊥) → FilledElements o lim row n k (k + 1) (d - 1) t r t' → FilledValue o lim form i at k d t r t'
    value-holder {row} {n} {r} {t'} q g el = record {
      advanced = by r el.advanced;
      same = λ h cs f b m z.
          let w = holder-is (kind_of h.ty).holds (nest_of h cs) (found-same (sym (accepted h cs f b) ∙ q)) in
          let dd : d ≡ suc (d - 1) = omega arith in
          let fits : Fillable (d - 1) n 0 cs = subst (λ (y : Nest). Fillable (d - 1) y 0 cs) w.1 (subst (λ (y : ℕ). Within y (nest_of h cs) cs) dd f.within) in
          let start : row.end ≡ at + length (fore h) = sym (ap (λ (y : Row). y.end) w.0) in
          let rest : Begins o row.end (spell_children n.indexed cs) = moved start (subst (λ (y : Nest). Begins o (at + length (fore h)) (spell_children y.indexed cs)) w.1 (begins-right (fore h) (spell_children (nest_of h cs).indexed cs) (subst (Begins o at) (spell-is h cs) b))) in
          let s = el.same cs fits rest (omega arith) (blank-later (omega arith) z) in
          let long : row.end + length (spell_children n.indexed cs) ≡ at + length (spell (value h cs)) = ap₂ (λ (a : ℕ) (y : Nest). a + length (spell_children y.indexed cs)) start (sym w.1) ∙ sym (spell-long h cs at) in
          (s.0 ∙ ap₂ (λ (y z : ℕ). Some (y, z)) long (omega arith), s.1 ∙ whole h cs w.0 w.1);
    }
      where
        by : (y : Option (ℕ × ℕ)) → Advanced o lim row.end (k + 1) y → Advanced o lim at (suc k) y
        by (Some (next, rows)) p = let a = subst (PastFound o at) q row_at.past in (omega arith, p.1, omega arith, p.3)
        by None p = tt

        whole : (h : Head) (cs : Children) → front_row i h at ≡ row → nest_of h cs ≡ n
            → put_row lim (puts lim t (k + 1) (rows_from n.indexed row.end cs)) k (closed row (count cs) (row.end + length (spell_children n.indexed cs))) ≡ puts lim t k (rows_from false at (child i h cs empty))
        whole h cs a b = rw (← a, ← b) (more-put lim k t (closed (front_row i h at) (count cs) (at + length (fore h) + length (spell_children (nest_of h cs).indexed cs))) (rows_from (nest_of h cs).indexed (at + length (fore h)) cs) ∙ ap (puts lim t k) (sym (value-rows i at h cs)))

pub value-crowded : {o : List ℕ} {lim : ℕ} {form : Form} {i at k d : ℕ} {t : Table} → lim ≤ k → FilledValue o lim form i at k d t None t
value-crowded l = record { advanced = tt; same = λ h cs f b r z. absurd (omega arith) }
