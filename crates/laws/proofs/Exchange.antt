-- The exchange of a property.
use mathlib.Core.Path.{◌≡◌, refl, sym, ap, ◌∙◌, subst, ap₂}
use mathlib.Core.Bool.{Bool, true, false, cond}
use mathlib.Core.Logic.{◌↔◌}
use mathlib.Core.List.{List, [], ◌∷◌, ◌++◌, map, map-append, append_assoc, append-nil}
use Prim.Native.Nat.{ℕ, suc, ◌+◌, ◌-◌, ◌^◌}
use native.Mathlib.Omega.{arith}
use native.Mathlib.Nat.{zero-add}
use lib.ListN.{length, length-append, length-map, take, drop}
use lib.Seq.{take_at, drop_at}
use lib.IntN.{ℤ, pos, negsuc}
use lib.Signed.{non_neg}
use Rattle.reading.proofs.Sound.{Octets}
use Rattle.integer.specs.Packed.{spell_int}
use Rattle.format.specs.declared.Row.{Row}
use Rattle.format.specs.Types.{kind_of}
use Rattle.format.specs.Data.{eq_z}
use Rattle.format.specs.Values.{Children, empty, child, child_of, Value, value, whole, rising, rule_by, rule_of}
use Rattle.format.specs.Spelling.{fore, indexed, spell_children, spell}
use Rattle.format.specs.Rows.{count, row_of, rows_from, rows}
use Rattle.format.specs.Message.{ok, message, Frame, is_user, frame}
use Rattle.format.specs.Writing.{Seen, seen}
use Rattle.format.specs.Exchange.{labelled, swap, exchanged, afresh}
use Rattle.format.specs.Grammar.{Whole, Fits, Shaped}
use Rattle.laws.specs.Words.{level2, PropertyRow, ExchangedOctets, relabelled, recounted, ExchangedRows, Exchanging, ExchangeLaw, Framed}
use Rattle.laws.proofs.Tests.{clash, eq_z-same}
use Rattle.laws.proofs.Messages.{Accepted, accepted-is}
use Rattle.laws.proofs.Frames.{framed_is, afresh-only}
use Rattle.laws.proofs.Rows.{seens, seens-count, alone, shaped-seen, shaped-spelt, message-seen}
use Rattle.format.proofs.Counts.{rows-length}
use Rattle.laws.proofs.Property.{joined, unclosed, joined-spelt, joined-seens, joined-rows, tops, level-tops, joined-tops, Parted, parted, none-behind, put-fits}

-- ---- lists

same_first : {A : Type 0} {x y : A} {l m : List A} → ◌≡◌ {A = List A} (x ∷ l) (y ∷ m) → (x ≡ y) × (l ≡ m)
same_first e = (cc, cc)

-- of two lists that are the same, parts as long are the same
same_parts : {A : Type 0} (a b c d : List A) → a ++ b ≡ c ++ d → length a ≡ length c → (a ≡ c) × (b ≡ d)
same_parts a b c d e n = (
  sym (take_at a b (length c) n) ∙ ap (take (length c)) e ∙ take_at c d (length c) refl,
  sym (drop_at a b (length c) n) ∙ ap (drop (length c)) e ∙ drop_at c d (length c) refl,
)

-- ---- user types

User : Value → Type 0
User v = rule_of v.top ≡ rising (whole false) (2 ^ 31) 0

user-is : (v : Value) → is_user v ≡ true → User v
unfolding User rule_of kind_of
user-is v e = by v.top.ty e
  where
    by : (t : ℤ) → non_neg t ≡ true → rule_by (kind_of t) (kind_of t).holds v.top ≡ rising (whole false) (2 ^ 31) 0
    by (pos n) h = refl
    by (negsuc n) h = clash (sym h)

user-spelt : (v : Value) → User v → spell v ≡ fore v.top ++ spell_children true v.inside
unfolding spell User
user-spelt v us = rw us

user-rows : (v : Value) → User v → rows v ≡ row_of 0 v.top (count v.inside) 0 (0 + length (spell v)) ∷ rows_from true (length (fore v.top)) v.inside
unfolding rows rows_from User
user-rows v us = rw us (ap₂ ◌∷◌ refl (append-nil _ ∙ ap (λ (n : ℕ). rows_from true n v.inside) (zero-add (length (fore v.top)))))

user-fits : (v : Value) → User v → Shaped v → Fits (rising (whole false) (2 ^ 31) 0) v.inside
unfolding User
user-fits v us g = rw us at g.held

-- the rows at level 2 are those of the values inside
user-level : (v : Value) → User v → level2 (rows v) ≡ tops (length (fore v.top)) v.inside
user-level v us = ap level2 (user-rows v us) ∙ level-tops _ _ v.inside (omega (arith, rows-length true (length (fore v.top)) v.inside))

-- ---- the property's place and rows

module _ (i : ℤ) (v : Value) (us : User v) (p : Parted i v.inside) where
  -- the message's octets before the property value, and after it
  abbrev ahead : List ℕ
  ahead = fore v.top ++ (unclosed p.before ++ spell_int (pos p.label))

  abbrev behind : List ℕ
  behind = spell_children true p.behind

  put-spelt : (w : Value) → fore v.top ++ spell_children true (joined p.before (child_of p.label w p.behind)) ≡ ahead ++ (spell w ++ behind)
  unfolding spell_children spell
  put-spelt w = ap (λ (l : List ℕ). fore v.top ++ l) (joined-spelt p.before (child_of p.label w p.behind)) ∙ simp append_assoc

  old-spelt : spell v ≡ ahead ++ (spell p.was ++ behind)
  old-spelt = user-spelt v us ∙ ap (λ (cs : Children). fore v.top ++ spell_children true cs) p.whole_is ∙ put-spelt p.was

  new-spelt : (w : Value) → spell (exchanged i w v) ≡ ahead ++ (spell w ++ behind)
  unfolding exchanged User
  new-spelt w = user-spelt (exchanged i w v) us ∙ ap (λ (cs : Children). fore v.top ++ spell_children true cs) (p.becomes w) ∙ put-spelt w

  -- its row
  abbrev from : ℕ
  from = length ahead

  abbrev property : Row
  property = row_of p.label p.was.top (count p.was.inside) from (from + length (spell p.was))

  place_is : length (fore v.top) + length (unclosed p.before) + length (spell_int (pos p.label)) ≡ from
  place_is = simp length-append (omega arith)

  tops_are : tops (length (fore v.top)) v.inside ≡ tops (length (fore v.top)) p.before ++ (property ∷ tops (from + length (spell p.was)) p.behind)
  unfolding tops
  tops_are = ap (tops (length (fore v.top))) p.whole_is ∙ joined-tops _ p.before (child_of p.label p.was p.behind)
      ∙ ap (λ (n : ℕ). tops (length (fore v.top)) p.before ++ (row_of p.label p.was.top (count p.was.inside) n (n + length (spell p.was)) ∷ tops (n + length (spell p.was)) p.behind)) place_is

  is-property : Shaped v → PropertyRow i (rows v) property
  is-property g = record {
    sooner = tops (length (fore v.top)) p.before;
    later = tops (from + length (spell p.was)) p.behind;
    at_level_2 = user-level v us ∙ tops_are;
    labelled = p.label_is;
    none_sooner = p.none_before _;
    none_later = none-behind (whole false) (2 ^ 31) 0 _ i p.before p.label p.was p.behind p.label_is (subst (Fits (rising (whole false) (2 ^ 31) 0)) p.whole_is (user-fits v us g));
  }

  -- the rows before those of the property, below it and after them
  abbrev earlier : List Row
  earlier = rows_from true (length (fore v.top)) p.before

  abbrev under : List Row
  under = rows_from (indexed (rule_of p.was.top)) (from + length (fore p.was.top)) p.was.inside

  abbrev later : List Row
  later = rows_from true (from + length (spell p.was)) p.behind

  rows_are : rows_from true (length (fore v.top)) v.inside ≡ earlier ++ ((property ∷ under) ++ later)
  unfolding rows_from
  rows_are = ap (rows_from true (length (fore v.top))) p.whole_is ∙ joined-rows _ p.before (child_of p.label p.was p.behind)
      ∙ ap (λ (n : ℕ). earlier ++ ((row_of p.label p.was.top (count p.was.inside) n (n + length (spell p.was)) ∷ rows_from (indexed (rule_of p.was.top)) (n + length (fore p.was.top)) p.was.inside) ++ rows_from true (n + length (spell p.was)) p.behind)) place_is

  -- ---- the exchanged value

  exchanged-shaped : (w : Value) → Shaped v → Whole false w.top → Shaped w → Shaped (exchanged i w v)
  unfolding exchanged User
  exchanged-shaped w g h k = record {
    good = g.good;
    held = rw us (subst (Fits (rising (whole false) (2 ^ 31) 0)) (sym (p.becomes w))
        (put-fits (whole false) (2 ^ 31) 0 p.before p.label p.was w p.behind h k (subst (Fits (rising (whole false) (2 ^ 31) 0)) p.whole_is (user-fits v us g))));
  }

  -- ---- its rows

  abbrev outer : Row
  outer = row_of 0 v.top (count v.inside) 0 (0 + length (spell v))

  abbrev outer-seen : Seen
  outer-seen = record { label = 0; what = v.top; below = count v.inside; placed = true }

  -- the rows of a value under the property's label
  abbrev labelled-seens : Value → List Seen
  labelled-seens w = record { label = p.label; what = w.top; below = count w.inside; placed = true } ∷ seens w.inside

  put-seens : (w : Value) → seens (joined p.before (child_of p.label w p.behind)) ≡ seens p.before ++ (labelled-seens w ++ seens p.behind)
  unfolding seens
  put-seens w = joined-seens p.before (child_of p.label w p.behind)

  -- the old rows, seen: the outermost, those before the property's, and those after them
  old-seen : Shaped v → (seen (spell v) outer ≡ outer-seen) × (map (seen (spell v)) earlier ≡ seens p.before) × (map (seen (spell v)) later ≡ seens p.behind)
  unfolding alone seens
  old-seen g =
      let view = map (seen (spell v)) in
      let whole : view (outer ∷ (earlier ++ ((property ∷ under) ++ later))) ≡ outer-seen ∷ (seens v.inside ++ []) = ap view (sym (user-rows v us ∙ ap (λ (l : List Row). outer ∷ l) rows_are)) ∙ shaped-seen v g in
      let split = same_first whole in
      let rest : view earlier ++ (view (property ∷ under) ++ view later) ≡ seens p.before ++ (labelled-seens p.was ++ seens p.behind) =
      sym (map-append (seen (spell v)) earlier ((property ∷ under) ++ later) ∙ ap (λ (l : List Seen). view earlier ++ l) (map-append (seen (spell v)) (property ∷ under) later))
      ∙ split.1 ∙ append-nil (seens v.inside) ∙ ap seens p.whole_is ∙ put-seens p.was in
      let one = same_parts (view earlier) _ (seens p.before) _ rest (length-map earlier (seen (spell v)) ∙ rows-length true _ p.before ∙ sym (seens-count p.before)) in
      let two = same_parts (view (property ∷ under)) _ (labelled-seens p.was) _ one.1 (ap suc (length-map under (seen (spell v)) ∙ rows-length _ _ p.was.inside ∙ sym (seens-count p.was.inside))) in
      (split.0, one.0, two.1)

  -- the new ones are those with the replacement's in place of the property's
  rows-exchanged : (r : List ℕ) (w : Value) → Octets r → message r ≡ ok w → Shaped v → ExchangedRows property (spell v) (rows v) r (rows w) (map (seen (spell (exchanged i w v))) (rows (exchanged i w v)))
  unfolding exchanged alone seens
  rows-exchanged r w y e g =
      let a = accepted-is r w y e in
      let o = old-seen g in
      let rest = map (seen (spell v)) earlier ++ (relabelled p.label (map (seen r) (rows w)) ++ map (seen (spell v)) later) in
      let replacement : relabelled p.label (map (seen r) (rows w)) ≡ labelled-seens w =
      ap (relabelled p.label) (message-seen r w y e) ∙ ap (λ (l : List Seen). record { label = p.label; what = w.top; below = count w.inside; placed = true } ∷ l) (append-nil (seens w.inside)) in
      let new : rest ≡ seens (swap i w v.inside) = ap₂ ◌++◌ o.1 (ap₂ ◌++◌ replacement o.2) ∙ sym (ap seens (p.becomes w) ∙ put-seens w) in
      let many : length rest ≡ count (swap i w v.inside) = ap length new ∙ seens-count (swap i w v.inside) in
      record {
        outer = outer;
        earlier = earlier;
        under = under;
        later = later;
        old_are = user-rows v us ∙ ap (λ (l : List Row). outer ∷ l) rows_are;
        under_are = sym (rows-length _ _ p.was.inside);
        rest = rest;
        rest_is = refl;
        new_are = shaped-seen (exchanged i w v) (exchanged-shaped w g a.valid.outermost a.valid.shaped) ∙ sym (ap₂ ◌∷◌ (ap₂ recounted many o.0) (new ∙ sym (append-nil _)));
      }

-- ---- a property is there exactly where a row at level 2 has its label

tops-labelled : (i : ℤ) (at : ℕ) (cs : Children) (sooner : List Row) (p : Row) (later : List Row) → tops at cs ≡ sooner ++ (p ∷ later) → pos p.label ≡ i → labelled i cs ≡ true
unfolding tops labelled
tops-labelled i at empty [] p later e h = let z : ◌≡◌ {A = ℕ} 0 1 = cc in absurd (omega arith)
tops-labelled i at empty (q ∷ sooner) p later e h = let z : ◌≡◌ {A = ℕ} 0 1 = cc in absurd (omega arith)
tops-labelled i at (child j k cs more) [] p later e h = let own : j ≡ p.label = ap (λ (r : Row). r.label) (same_first e).0 in rw (own, h, eq_z-same i)
tops-labelled i at (child j k cs more) (q ∷ sooner) p later e h = by (eq_z (pos j) i) (tops-labelled i (at + length (spell_int (pos j)) + length (spell (value k cs))) more sooner p later (same_first e).1 h)
  where
    by : (t : Bool) → labelled i more ≡ true → cond t true (labelled i more) ≡ true
    by true q = refl
    by false q = q

pub property-exactly : (i : ℤ) (v : Value) → is_user v ≡ true → Shaped v → labelled i v.inside ≡ true ↔ ((p : Row) × PropertyRow i (rows v) p)
property-exactly i v u g =
    let us = user-is v u in (
      λ e. (property i v us (parted i v.inside e), is-property i v us (parted i v.inside e) g),
      λ h. tops-labelled i _ v.inside h.1.sooner h.0 h.1.later (sym (user-level v us) ∙ h.1.at_level_2) h.1.labelled,
    )

-- ---- frames

module _ (f r : List ℕ) (i : ℤ) (old : Frame) (w : Value) (x : Octets f) (y : Octets r) (meets : Exchanging f r i old w) where
  abbrev new : Value
  new = exchanged i w old.said

  said-is : Framed f old → Accepted r w → Parted i old.said.inside → (f' : Frame) → frame (afresh old.conversation new) ≡ ok f' → (f'.conversation ≡ old.conversation) × (f'.said ≡ new)
  unfolding exchanged
  said-is g a p f' e = afresh-only old.conversation new f' g.valid.outermost (exchanged-shaped i old.said (user-is old.said g.user) p w g.valid.shaped a.valid.outermost a.valid.shaped) e

  octets-are : (g : Framed f old) → Accepted r w → (p : Parted i old.said.inside) → ExchangedOctets f old.from (property i old.said (user-is old.said g.user) p) r (afresh old.conversation new)
  octets-are g a p =
      let v = old.said in
      let c = old.conversation in
      let us = user-is v g.user in
      let l = ahead i v us p in
      let m = behind i v us p in
      let was = spell p.was in
      let before : spell_int c ++ spell v ≡ (spell_int c ++ l) ++ (was ++ m) = ap (λ (z : List ℕ). spell_int c ++ z) (old-spelt i v us p) ∙ sym (append_assoc (spell_int c) l (was ++ m)) in
      let after : spell_int c ++ spell new ≡ (spell_int c ++ l) ++ (r ++ m) =
      ap (λ (z : List ℕ). spell_int c ++ z) (new-spelt i v us p w) ∙ ap (λ (z : List ℕ). spell_int c ++ (l ++ (z ++ m))) a.spelt ∙ sym (append_assoc (spell_int c) l (r ++ m)) in
      record {
        before = spell_int c ++ l;
        value = was;
        after = m;
        old_are = sym g.spelt ∙ ap (λ (z : List ℕ). spell_int (pos (length z)) ++ z) before;
        starts = omega (arith, g.from_is, ap (λ (z : List ℕ). length (spell_int (pos (length z)))) before, length-append (spell_int (pos (length ((spell_int c ++ l) ++ (was ++ m))))) (spell_int c ++ l), length-append (spell_int c) l);
        ends = omega arith;
        new_are = ap (λ (z : List ℕ). spell_int (pos (length z)) ++ z) after;
      }

  -- the new frame's octets, its rows, and what it says if it is accepted
  pub exchange-law : ExchangeLaw f old i r w
  exchange-law =
      let g = framed_is f old x meets.old_accepted in
      let p = parted i old.said.inside meets.has_property in
      let us = user-is old.said g.user in
      let a = accepted-is r w y meets.replacement_accepted in
      record {
        property = property i old.said us p;
        is-property = is-property i old.said us p g.valid.shaped;
        octets-are = octets-are g a p;
        rows_are = rows-exchanged i old.said us p r w y meets.replacement_accepted g.valid.shaped;
        rows-spelt = shaped-spelt new (exchanged-shaped i old.said us p w g.valid.shaped a.valid.outermost a.valid.shaped);
        said-is = said-is g a p;
      }

-- the same by places of the old frame: k are the octets of its length
pub exchanged-by-places : (f : List ℕ) (from : ℕ) (p : Row) (r new : List ℕ) (e : ExchangedOctets f from p r new)
    → (k : ℕ) × (take k f ≡ spell_int (pos (length (drop k f)))) × (let rest = take (from + p.start - k) (drop k f) ++ (r ++ drop (from + p.end) f) in new ≡ spell_int (pos (length rest)) ++ rest)
exchanged-by-places f from p r new e =
    let b = e.before in
    let v = e.value in
    let a = e.after in
    let count = spell_int (pos (length (b ++ (v ++ a)))) in
    let k = length count in
    let all : drop k f ≡ b ++ (v ++ a) = ap (drop k) e.old_are ∙ drop_at count (b ++ (v ++ a)) k refl in
    let start : length b ≡ from + p.start - k = omega (arith, e.starts, length-append count b) in
    let end : length ((count ++ b) ++ v) ≡ from + p.end = omega (arith, e.starts, e.ends, length-append (count ++ b) v) in
    let before : take (from + p.start - k) (drop k f) ≡ b = ap (take (from + p.start - k)) all ∙ take_at b (v ++ a) (from + p.start - k) start in
    let after : drop (from + p.end) f ≡ a = ap (drop (from + p.end)) (e.old_are ∙ simp append_assoc) ∙ drop_at ((count ++ b) ++ v) a (from + p.end) end in (
      k,
      ap (take k) e.old_are ∙ take_at count (b ++ (v ++ a)) k refl ∙ ap (λ (l : List ℕ). spell_int (pos (length l))) (sym all),
      e.new_are ∙ ap (λ (l : List ℕ). spell_int (pos (length l)) ++ l) (sym (ap₂ (λ (l m : List ℕ). l ++ (r ++ m)) before after)),
    )
