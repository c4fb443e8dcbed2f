-- The values of a container filled in, turn by turn.
use mathlib.Core.Path.{◌≡◌, refl, sym, ap, subst, ap₂, ◌∙◌}
use mathlib.Core.Bool.{Bool, false}
use mathlib.Core.List.{List, ◌++◌, append-nil, append_assoc}
use Prim.Native.Nat.{ℕ, zero, suc, ◌+◌, ◌-◌, ◌<◌, ◌≤◌}
use native.Mathlib.Omega.{arith}
use native.Mathlib.Nat.{add-zero}
use lib.ListN.{length, length-append}
use lib.IntN.{pos, negsuc}
use Rattle.std.specs.Prelude.{Option, Some, None, Result, Ok, Err}
use Rattle.reading.specs.declared.Refusal.{Refusal}
use Rattle.format.specs.declared.Row.{Row}
use Rattle.format.specs.Values.{Head, Children, empty, child, value, rule_of}
use Rattle.format.specs.Spelling.{fore, indexed, index, spell_children, spell}
use Rattle.format.specs.Rows.{count, rows_from}
use Rattle.format.specs.Writing.{Table}
use Rattle.decide.specs.declared.Nest.{Nest}
use Rattle.decide.specs.declared.Next.{Next}
use Rattle.decide.specs.declared.Next.TheVariants.{Value, End}
use Rattle.decide.specs.Forms.{turn}
use Rattle.decide.specs.Coming.{next_low, PastNext, NextAt}
use Rattle.columns.specs.Columns.{Kept, Stored, put_row, Blank, puts}
use Rattle.fill.specs.Numbers.{Begins}
use Rattle.fill.specs.Rows.{nest_of}
use Rattle.fill.specs.Filling.{Fillable, Within, Fit, closed, Ready, Advanced, FilledValue, FilledElements}
use Rattle.fill.proofs.Begins.{begins-left, begins-right, moved, some-first, some-second}
use Rattle.fill.proofs.Following.{follows, ended}
use Rattle.columns.proofs.Storing.{kept_same, kept_trans, puts-append, blank-after}
use Rattle.fill.proofs.Values.{rows-count}

-- the values still to come, of those (cs) that stand from `from` on: what is left to do comes to the same
pub record Left (o : List ℕ) (lim d : ℕ) (n : Nest) (from base : ℕ) (t₀ : Table) (cs : Children) (at low rows : ℕ) (t : Table) : Type 0 where
  pub left : Children
  pub fits : Fillable d n low left
  pub begun : Begins o at (spell_children n.indexed left)
  pub rows_same : rows + count left ≡ base + count cs
  pub place_same : at + length (spell_children n.indexed left) ≡ from + length (spell_children n.indexed cs)
  pub blank : Blank lim rows t
  pub table_same : puts lim t rows (rows_from n.indexed at left) ≡ puts lim t₀ base (rows_from n.indexed from cs)

-- what a turn of the loop begins with
pub record Turn (o : List ℕ) (lim d : ℕ) (n : Nest) (from base : ℕ) (t₀ : Table) (at low rows : ℕ) (t : Table) : Type 0 where
  pub inside : at ≤ length o
  pub past : from ≤ at
  pub steps : base ≤ rows
  pub apt : low ≤ n.count
  pub room : rows ≤ lim
  pub kept : Kept t t₀
  pub rest : (cs : Children) → Fillable d n 0 cs → Begins o from (spell_children n.indexed cs) → base + count cs ≤ lim → Blank lim base t₀ → Left o lim d n from base t₀ cs at low rows t

pub turn-first : {o : List ℕ} {lim d : ℕ} {n : Nest} {from base : ℕ} {t : Table} → Ready o lim from base t → Turn o lim d n from base t from 0 base t
turn-first r = record {
  inside = r.inside;
  past = omega arith;
  steps = omega arith;
  apt = omega arith;
  room = r.below;
  kept = kept_same;
  rest = λ cs f b l z. record { left = cs; fits = f; begun = b; rows_same = refl; place_same = refl; blank = z; table_same = refl };
}

-- ---- one value and those after it, spelt and as rows

child-spelt : (x : Bool) (j : ℕ) (h : Head) (cs more : Children) → spell_children x (child j h cs more) ≡ index x (pos j) ++ (spell (value h cs) ++ spell_children x more)
unfolding spell_children spell
child-spelt x j h cs more = ap (λ (l : List ℕ). index x (pos j) ++ l) (sym (append_assoc (fore h) (spell_children (indexed (rule_of h)) cs) (spell_children x more)))

child-long : (x : Bool) (j : ℕ) (h : Head) (cs more : Children) → length (spell_children x (child j h cs more)) ≡ length (index x (pos j)) + (length (spell (value h cs)) + length (spell_children x more))
child-long x j h cs more = ap length (child-spelt x j h cs more) ∙ length-append (index x (pos j)) _ ∙ ap (λ (n : ℕ). length (index x (pos j)) + n) (length-append (spell (value h cs)) (spell_children x more))

child-rows : (x : Bool) (at next j : ℕ) (h : Head) (cs more : Children) → next ≡ at + length (index x (pos j))
    → rows_from x at (child j h cs more) ≡ rows_from false next (child j h cs empty) ++ rows_from x (next + length (spell (value h cs))) more
unfolding rows_from
child-rows x at next j h cs more e = rw (e, add-zero, append-nil (rows_from (indexed (rule_of h)) (at + length (index x (pos j)) + length (fore h)) cs))

-- what comes next of values
abbrev next_of : Bool → ℕ → ℕ → Children → Result Next Refusal
next_of x low at empty = Ok (End (at + length (index x (negsuc 0))))
next_of x low at (child j h cs more) = Ok (Value (at + length (index x (pos j))) j (next_low x j low))

no_value : {a b j k : ℕ} → ◌≡◌ {A = Result Next Refusal} (Ok (End a)) (Ok (Value b j k)) → ⊥
no_value h = cc

following-place : {a b i j k m : ℕ} → ◌≡◌ {A = Result Next Refusal} (Ok (Value a i k)) (Ok (Value b j m)) → a ≡ b
following-place h = cc

following-label : {a b i j k m : ℕ} → ◌≡◌ {A = Result Next Refusal} (Ok (Value a i k)) (Ok (Value b j m)) → i ≡ j
following-label h = cc

end-place : {a b : ℕ} → ◌≡◌ {A = Result Next Refusal} (Ok (End a)) (Ok (End b)) → a ≡ b
end-place h = cc

no-next : {r : Refusal} {a : Result Next Refusal} → Err r ≡ a → (x : Bool) (low at : ℕ) (cs : Children) → a ≡ next_of x low at cs → ⊥
no-next e x low at empty q = cc
no-next e x low at (child j h cs more) q = cc

no_step : {a m : ℕ} → ◌≡◌ {A = Option (ℕ × ℕ)} None (Some (a, m)) → ⊥
no_step h = cc

module _ {o : List ℕ} {lim d : ℕ} {n : Nest} {from base : ℕ} {t₀ : Table} {at low rows : ℕ} {t : Table} (tn : Turn o lim d n from base t₀ at low rows t) {g : Result Next Refusal} (follow : NextAt o n.indexed n.paired n.count low at g) where
  next-is : (d' : ℕ) (cs : Children) → Fillable d' n low cs → Begins o at (spell_children n.indexed cs) → g ≡ next_of n.indexed low at cs
  unfolding Fillable spell_children
  next-is d empty f b = ended follow f b
  next-is zero (child j h cs more) f b = absurd f
  next-is (suc d) (child j h cs more) f b = follows follow j f.0 (begins-left (index n.indexed (pos j)) _ b)

  ends : {next : ℕ} → g ≡ Ok (End next) → (cs left : Children) → Fillable d n low left → Begins o at (spell_children n.indexed left) → rows + count left ≡ base + count cs
      → at + length (spell_children n.indexed left) ≡ from + length (spell_children n.indexed cs) → puts lim t rows (rows_from n.indexed at left) ≡ puts lim t₀ base (rows_from n.indexed from cs)
      → (rows ≡ base + count cs) × (next ≡ from + length (spell_children n.indexed cs)) × (t ≡ puts lim t₀ base (rows_from n.indexed from cs))
  unfolding spell_children rows_from puts count
  ends q cs empty f b r p e = (sym (add-zero rows) ∙ r, end-place (sym q ∙ next-is d empty f b) ∙ p, e)
  ends q cs (child j h inner more) f b r p e = absurd (no_value (sym q ∙ next-is d (child j h inner more) f b))

  module _ {next j low' : ℕ} (q : g ≡ Ok (Value next j low')) {r : Option (ℕ × ℕ)} {t' : Table} (filled : FilledValue o lim (turn n.form n.other low) j next rows d t r t') where
    value-is : (d' : ℕ) → d ≡ suc d' → (j' : ℕ) (h : Head) (cs more : Children) → Fillable (suc d') n low (child j' h cs more) → Begins o at (spell_children n.indexed (child j' h cs more)) → rows + count (child j' h cs more) ≤ lim → Blank lim rows t
        → (next ≡ at + length (index n.indexed (pos j'))) × (j ≡ j') × (r ≡ Some (next + length (spell (value h cs)), rows + suc (count cs))) × (t' ≡ puts lim t rows (rows_from false next (child j h cs empty)))
    unfolding Fillable count
    value-is d' e j' h cs more f b l bl =
        let w : ◌≡◌ {A = Result Next Refusal} (Ok (Value next j low')) (Ok (Value (at + length (index n.indexed (pos j'))) j' (next_low n.indexed j' low))) = sym q ∙ next-is (suc d') (child j' h cs more) f b in
        let b' = begins-right (index n.indexed (pos j')) (spell (value h cs) ++ spell_children n.indexed more) (subst (Begins o at) (child-spelt n.indexed j' h cs more) b) in
        let fit : Fit d (turn n.form n.other low) h cs = record { stands = f.1; carried = f.2; good = f.3; dated = f.4; within = subst (λ (y : ℕ). Within y (nest_of h cs) cs) (sym e) f.5 } in
        let s = filled.same h cs fit (moved (following-place w) (begins-left (spell (value h cs)) (spell_children n.indexed more) b')) (omega arith) bl in
        (following-place w, following-label w, s.0, s.1)

    abbrev Step-on : ℕ → ℕ → Children → Type 0
    Step-on at₂ rows₂ left = (more : Children) × Fillable d n (next_low n.indexed j low) more × Begins o at₂ (spell_children n.indexed more) × (rows₂ + count more ≡ rows + count left)
        × (at₂ + length (spell_children n.indexed more) ≡ at + length (spell_children n.indexed left)) × Blank lim rows₂ t' × (puts lim t' rows₂ (rows_from n.indexed at₂ more) ≡ puts lim t rows (rows_from n.indexed at left))

    step-on : {at₂ rows₂ : ℕ} → r ≡ Some (at₂, rows₂) → (d' : ℕ) → d' ≡ d → (left : Children) → Fillable d' n low left → Begins o at (spell_children n.indexed left) → rows + count left ≤ lim → Blank lim rows t → Step-on at₂ rows₂ left
    unfolding Fillable count
    step-on z d' e empty f b l bl = absurd (no_value (sym (next-is d' empty f b) ∙ q))
    step-on z zero e (child j' h cs more) f b l bl = absurd f
    step-on {at₂} {rows₂} z (suc d') e (child j' h cs more) f b l bl =
        let v = value-is d' (sym e) j' h cs more f b l bl in
        let place : at₂ ≡ next + length (spell (value h cs)) = some-first (sym z ∙ v.2) in
        let row : rows₂ ≡ rows + suc (count cs) = some-second (sym z ∙ v.2) in
        let b' = begins-right (spell (value h cs)) (spell_children n.indexed more) (begins-right (index n.indexed (pos j')) (spell (value h cs) ++ spell_children n.indexed more) (subst (Begins o at) (child-spelt n.indexed j' h cs more) b)) in
        let long : rows₂ ≡ rows + length (rows_from false next (child j h cs empty)) = row ∙ ap (λ (y : ℕ). rows + y) (sym (rows-count false next (child j h cs empty) ∙ ap suc (add-zero (count cs)))) in (
          more,
          subst (λ (y : ℕ). Fillable d n (next_low n.indexed y low) more) (sym v.1) (subst (λ (y : ℕ). Fillable y n (next_low n.indexed j' low) more) e f.6),
          moved (place ∙ ap (λ (y : ℕ). y + length (spell (value h cs))) v.0) b',
          omega arith,
          omega (arith, child-long n.indexed j' h cs more, v.0),
          rw (v.3, long) (blank-after rows (rows_from false next (child j h cs empty)) bl),
          ap₂ (λ (u : Table) (y : ℕ). puts lim u y (rows_from n.indexed at₂ more)) v.3 long ∙ puts-append lim t rows (rows_from false next (child j h cs empty)) (rows_from n.indexed at₂ more)
              ∙ ap (puts lim t rows) (ap₂ (λ (y z : ℕ). rows_from false next (child y h cs empty) ++ rows_from n.indexed z more) v.1 place ∙ sym (child-rows n.indexed at next j' h cs more v.0)),
        )

    stop-on : r ≡ None → (d' : ℕ) → d' ≡ d → (left : Children) → Fillable d' n low left → Begins o at (spell_children n.indexed left) → rows + count left ≤ lim → Blank lim rows t → ⊥
    unfolding Fillable
    stop-on z d' e empty f b l bl = no_value (sym (next-is d' empty f b) ∙ q)
    stop-on z zero e (child j' h cs more) f b l bl = f
    stop-on z (suc d') e (child j' h cs more) f b l bl = no_step (sym z ∙ (value-is d' (sym e) j' h cs more f b l bl).2)

    past : PastNext o n.indexed n.count low at (Ok (Value next j low'))
    past = subst (PastNext o n.indexed n.count low at) q follow.past

    pub turn-less : n.count - low' < n.count - low
    turn-less = omega (arith, past.2, past.3)

    pub turn-again : {at₂ rows₂ : ℕ} → r ≡ Some (at₂, rows₂) → Kept t' t → Turn o lim d n from base t₀ at₂ low' rows₂ t'
    turn-again {at₂} {rows₂} z ks =
        let v = subst (Advanced o lim next (suc rows)) z filled.advanced in
        rw past.4 record {
          inside = v.1;
          past = omega (arith, tn.past, past.0, v.0);
          steps = omega (arith, tn.steps, v.2);
          apt = omega (arith, past.3, past.4);
          room = v.3;
          kept = kept_trans ks tn.kept;
          rest = λ cs f b l bl.
              let lf = tn.rest cs f b l bl in
              let s = step-on z d refl lf.left lf.fits lf.begun (omega (arith, lf.rows_same)) lf.blank in
              record {
                left = s.0;
                fits = s.1;
                begun = s.2;
                rows_same = s.3 ∙ lf.rows_same;
                place_same = s.4 ∙ lf.place_same;
                blank = s.5;
                table_same = s.6 ∙ lf.table_same;
              };
        }

    pub elements-stop : {row : Row} {k : ℕ} → from ≡ row.end → r ≡ None → FilledElements o lim row n k base d t₀ None t'
    elements-stop e z = record {
      advanced = tt;
      same = λ cs f b l bl. let lf = tn.rest cs f (moved e b) l bl in absurd (stop-on z d refl lf.left lf.fits lf.begun (omega (arith, lf.rows_same)) lf.blank);
    }

  pub elements-unread : {y : Refusal} {row : Row} {k : ℕ} → from ≡ row.end → g ≡ Err y → FilledElements o lim row n k base d t₀ None t
  elements-unread e z = record {
    advanced = tt;
    same = λ cs f b l bl. let lf = tn.rest cs f (moved e b) l bl in absurd (no-next (sym z) n.indexed low at lf.left (next-is d lf.left lf.fits lf.begun));
  }

  pub elements-end : {row : Row} {k next : ℕ} {t' : Table} → from ≡ row.end → g ≡ Ok (End next) → Stored lim k (closed row (rows - base) next) t t' → FilledElements o lim row n k base d t₀ (Some (next, rows)) t'
  elements-end {row} {k} {next} {t'} e z st =
      let p = subst (PastNext o n.indexed n.count low at) z follow.past in
      record {
        advanced = (omega (arith, tn.past, p.0, e), p.1, omega (arith, tn.steps), tn.room);
        same = λ cs f b l bl.
            let lf = tn.rest cs f (moved e b) l bl in
            let w = ends z cs lf.left lf.fits lf.begun lf.rows_same lf.place_same lf.table_same in
            let below : rows - base ≡ count cs = omega (arith, w.0) in
            let last : next ≡ row.end + length (spell_children n.indexed cs) = w.1 ∙ ap (λ (y : ℕ). y + length (spell_children n.indexed cs)) e in
            (ap₂ (λ (y z : ℕ). Some (y, z)) last w.0, st.stored ∙ ap₂ (λ (u : Table) (y : Row). put_row lim u k y) (w.2 ∙ ap (λ (y : ℕ). puts lim t₀ base (rows_from n.indexed y cs)) e) (ap₂ (closed row) below last));
      }
