-- The row of a value of accepted octets.
use mathlib.Core.Path.{◌≡◌, refl, sym, ap, subst, ◌∙◌}
use mathlib.Core.Bool.{true}
use mathlib.Core.List.{List, ◌++◌}
use Prim.Native.Nat.{ℕ, ◌+◌, ◌^◌, ◌<◌, ◌≤◌}
use native.Mathlib.Omega.{arith}
use lib.ListN.{length, length-append}
use lib.IntN.{ℤ}
use Rattle.std.specs.Prelude.{Option, Some, None, Result, Ok, Err}
use Rattle.reading.specs.declared.Refusal.{Refusal}
use Rattle.format.specs.declared.Row.{Row}
use Rattle.format.specs.Types.{Holds, nothing, values, couples, indexes, properties, one, parts, kind_of}
use Rattle.format.specs.Values.{Head, Children, Value}
use Rattle.format.specs.Spelling.{identifier, data_by, fore, spell_children}
use Rattle.format.specs.Grammar.{Good}
use Rattle.decide.specs.declared.Form.{Form}
use Rattle.fill.specs.declared.Fore.{Fore}
use Rattle.decide.specs.declared.Nest.{Nest}
use Rattle.fill.specs.declared.Data.{Data}
use Rattle.fill.specs.declared.Data.TheVariants.{Leaf, Holder}
use Rattle.fill.specs.declared.Found.{Found}
use Rattle.fill.specs.declared.Found.TheVariants.{Leaf as LeafRow, Holder as HolderRow}
use Rattle.decide.specs.Forms.{own_of, PastTyped, TypedAt}
use Rattle.fill.specs.Numbers.{Begins, Stands}
use Rattle.fill.proofs.Numbers.{typed-is, own_is, of-type}
use Rattle.fill.specs.Rows.{nest_by, nest_of, Dated, fore_of, data_with, PastFore, PastData, DataOf, front_row, row_with, found_by, PastFound, RowAt}
use Rattle.fill.proofs.Begins.{begins-left, begins-right, moved, ok-first, ok-second}

untyped : {r : Refusal} {b : ℕ} {t : ℤ} → ◌≡◌ {A = Result (ℕ × ℤ) Refusal} (Err r) (Ok (b, t)) → ⊥
untyped h = cc

pub typed-past : {o : List ℕ} {form : Form} {at : ℕ} {x : Result (ℕ × ℤ) Refusal} {from : ℕ} {t : ℤ} → TypedAt o form at x → x ≡ Ok (from, t) → (at ≤ from) × (from ≤ length o)
typed-past {o} {at = at} x q = subst (PastTyped o at) q x.past

pub leaf-past : {o : List ℕ} {form : Form} {t : ℤ} {at : ℕ} {x : Option Data} {f : Fore} → DataOf o form t at x → x ≡ Some (Leaf f) → PastFore o at f
leaf-past {o} {at = at} x q = (subst (PastData o at) q x.past).0

pub holder-past : {o : List ℕ} {form : Form} {t : ℤ} {at : ℕ} {x : Option Data} {f : Fore} {n : Nest} → DataOf o form t at x → x ≡ Some (Holder f n) → PastFore o at f
holder-past {o} {at = at} x q = (subst (PastData o at) q x.past).0

-- its places fit a row's columns
pub front-fits : (o : List ℕ) {at from : ℕ} (f : Fore) → (at ≤ length o) × (length o < 2 ^ 32) → PastFore o from f → (at < 2 ^ 32) × (f.place < 2 ^ 32) × (f.end < 2 ^ 32)
front-fits o f q p = (omega (arith, q.0, q.1), omega (arith, p.2, q.1), omega (arith, p.1, q.1))

fore-is : {o : List ℕ} {at : ℕ} (h : Head) → Begins o at (fore h) → Begins o at (identifier h ++ data_by (kind_of h.ty) h)
unfolding fore
fore-is h b = b

fore-long : (h : Head) → length (fore h) ≡ length (identifier h) + length (data_by (kind_of h.ty) h)
unfolding fore
fore-long h = length-append (identifier h) (data_by (kind_of h.ty) h)

type-is : {o : List ℕ} {form : Form} {at : ℕ} {x : Result (ℕ × ℤ) Refusal} → TypedAt o form at x → (h : Head) → Stands form h → Begins o at (fore h) → x ≡ Ok (at + length (identifier h), h.ty)
type-is typed h s b = typed-is typed h s (begins-left (identifier h) (data_by (kind_of h.ty) h) (fore-is h b))

pub row-untyped : {o : List ℕ} {form : Form} {i at : ℕ} {x : Result (ℕ × ℤ) Refusal} {r : Refusal} → TypedAt o form at x → x ≡ Err r → RowAt o form i at None
row-untyped typed q = record { past = tt; same = λ v s k g d b b'. absurd (untyped (sym q ∙ type-is typed v.top s b)) }

-- a row of each, from what stands before the values inside
abbrev rowed : (Fore → Row) → Option Data → Option Found
rowed m (Some (Leaf f)) = Some (LeafRow (m f))
rowed m (Some (Holder f n)) = Some (HolderRow (m f) n)
rowed m None = None

rowed-with : (m : Fore → Row) (x : Holds) (f : Fore) (n : Nest) → rowed m (Some (data_with x f n)) ≡ Some (found_by x (m f) n)
rowed-with m nothing f n = refl
rowed-with m values f n = refl
rowed-with m couples f n = refl
rowed-with m indexes f n = refl
rowed-with m properties f n = refl
rowed-with m one f n = refl
rowed-with m (parts d) f n = refl

nest-is : (h : Head) (cs : Children) → nest_of h cs ≡ nest_by (kind_of h.ty) (kind_of h.ty).holds h cs
unfolding nest_of
nest-is h cs = refl

module _ {o : List ℕ} {form : Form} {at : ℕ} {x : Result (ℕ × ℤ) Refusal} (typed : TypedAt o form at x) {from : ℕ} {t t' : ℤ} (q : x ≡ Ok (from, t)) (e : t' ≡ t) {y : Option Data} (reads : DataOf o form t' from y) where
  end_same : (h : Head) → Stands form h → Begins o at (fore h) → from + length (data_by (kind_of h.ty) h) ≡ at + length (fore h)
  end_same h s b = let l : from ≡ at + length (identifier h) = ok-first (sym q ∙ type-is typed h s b) in omega (arith, fore-long h)

  data_is : (v : Value) → Stands form v.top → (kind_of v.top.ty).carried ≡ true → Good (kind_of v.top.ty) v.top → Dated (kind_of v.top.ty).holds v.inside
      → Begins o at (fore v.top) → Begins o (at + length (fore v.top)) (spell_children (nest_of v.top v.inside).indexed v.inside) → y ≡ Some (data_with (kind_of v.top.ty).holds (fore_of (kind_of v.top.ty) v.top from) (nest_of v.top v.inside))
  data_is v s k g d b b' =
      let h = v.top in
      let w = sym q ∙ type-is typed h s b in
      rw (nest-is h v.inside) (((subst (λ (z : ℤ). DataOf o form z from y) (e ∙ ok-second w) reads).same s.1 (of-type form h s) k).same h v.inside g d
      (moved (ok-first w) (begins-right (identifier h) (data_by (kind_of h.ty) h) (fore-is h b)))
      (moved (end_same h s b) (subst (λ (n : Nest). Begins o (at + length (fore h)) (spell_children n.indexed v.inside)) (nest-is h v.inside) b')))

  row_same : (i : ℕ) (h : Head) → Stands form h → Begins o at (fore h) → row_with t' (own_of form) i (fore_of (kind_of h.ty) h from) at ≡ front_row i h at
  row_same i h s b = let z = sym q ∙ type-is typed h s b in rw (e ∙ ok-second z, own_is form h s, end_same h s b)

  row-found : (i : ℕ) (y' : Option Data) → y ≡ y' → RowAt o form i at (rowed (λ f. row_with t' (own_of form) i f at) y')
  row-found i y' z = record {
    past = by y' (subst (PastData o from) z reads.past);
    same = λ v s k g d b b'.
        ap (rowed λ f. row_with t' (own_of form) i f at) (sym z ∙ data_is v s k g d b b') ∙ rowed-with (λ f. row_with t' (own_of form) i f at) (kind_of v.top.ty).holds _ _
        ∙ ap (λ (r : Row). Some (found_by (kind_of v.top.ty).holds r (nest_of v.top v.inside))) (row_same i v.top s b);
  }
    where
      by : (u : Option Data) → PastData o from u → PastFound o at (rowed (λ f. row_with t' (own_of form) i f at) u)
      by (Some (Leaf f)) p = let a = typed-past typed q in (omega (arith, p.0.0), p.0.1, (p.1, p.2, refl))
      by (Some (Holder f n)) p = let a = typed-past typed q in (omega arith, p.0.1, p.1)
      by None p = tt

  pub row-unread : {i : ℕ} → y ≡ None → RowAt o form i at None
  row-unread {i} z = row-found i None z

  pub row-leaf : {i own : ℕ} {f : Fore} → y ≡ Some (Leaf f) → own ≡ own_of form → {row : Row} → row ≡ row_with t' own i f at → RowAt o form i at (Some (LeafRow row))
  row-leaf {i} {f = f} z w r = rw (r, w) (row-found i (Some (Leaf f)) z)

  pub row-holder : {i own : ℕ} {f : Fore} {n : Nest} → y ≡ Some (Holder f n) → own ≡ own_of form → {row : Row} → row ≡ row_with t' own i f at → RowAt o form i at (Some (HolderRow row n))
  row-holder {i} {f = f} {n = n} z w r = rw (r, w) (row-found i (Some (Holder f n)) z)
