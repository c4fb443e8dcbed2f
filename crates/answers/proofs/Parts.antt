-- The parts of rows, one after another.
use mathlib.Core.Path.{◌≡◌, refl, sym, ap, subst, ◌∙◌}
use mathlib.Core.List.{List, [], ◌++◌, append_assoc, append-nil}
use Prim.Native.Nat.{ℕ, zero, suc, ◌+◌, ◌<◌, ◌≤◌}
use native.Mathlib.Omega.{arith}
use Rattle.format.specs.declared.Row.{Row}
use Rattle.format.specs.Writing.{Table, row_at, tabled}
use Rattle.integer.specs.Writes.{Room, Wrote}
use Rattle.text.proofs.Writes.{wrote-append, wrote_kept}
use Rattle.columns.specs.Columns.{RowOf}
use Rattle.records.proofs.Records.{last-text}
use Rattle.replies.specs.Cases.{row_part, row_parts}
use Rattle.replies.proofs.Texts.{part_length}
use Rattle.answers.specs.Replies.{PartsFit, PartsPut}

one_more : (t : Table) (k n : ℕ) → row_parts (tabled t k (n + 1)) ≡ row_parts (tabled t k n) ++ row_part (row_at t (k + n))
unfolding row_parts
one_more t k n = last-text row_part row_parts refl (λ r rs. refl) t k n

parts-of-none : (t : Table) (i : ℕ) → row_parts (tabled t i 0) ≡ []
unfolding row_parts tabled
parts-of-none t i = refl

pub parts_none : (t : Table) (k : ℕ) {at : ℕ} {l : List ℕ} → PartsPut t k 0 at l at l
unfolding row_parts tabled
parts_none t k = record { wrote = record { past = omega arith; holds = refl }; few = omega arith }

module _ {t : Table} {k i at next : ℕ} {l out : List ℕ} (w : PartsPut t k i at l next out) {r : Row} (h : RowOf t (k + i) r) where
  pub part_room : {n : ℕ} → PartsFit at n l → i < n → Room (row_part r) next out
  part_room f g = record { room = omega (arith, w.few, f.fits, g, part_length h.held, wrote_kept w.wrote) }

  pub parts_again : {end : ℕ} {after : List ℕ} → Wrote (row_part r) next out end after → PartsPut t k (i + 1) at l end after
  parts_again {end} {after} x = record {
    wrote = subst (λ (v : List ℕ). Wrote v at l end after) (ap (λ (q : Row). row_parts (tabled t k i) ++ row_part q) h.same ∙ sym (one_more t k i)) (wrote-append w.wrote x);
    few = omega (arith, w.few, x.past, part_length h.held);
  }

pub parts_all : {t : Table} {k n i at next : ℕ} {l out : List ℕ} → n ≤ i → (i ≤ n) × PartsPut t k i at l next out → PartsPut t k n at l next out
parts_all {t} {k} {n} {i} {at} {next} {l} {out} h w = let e : i ≡ n = omega (arith, h, w.0) in subst (λ (i : ℕ). PartsPut t k i at l next out) e w.1

-- the parts of some rows, and of those after them
pub parts-joined : (t : Table) (i k m : ℕ) → row_parts (tabled t i (k + m)) ≡ row_parts (tabled t i k) ++ row_parts (tabled t (i + k) m)
parts-joined t i k zero = let e : k + 0 ≡ k = omega arith in ap (λ (n : ℕ). row_parts (tabled t i n)) e ∙ sym (append-nil (row_parts (tabled t i k))) ∙ ap (λ (v : List ℕ). row_parts (tabled t i k) ++ v) (sym (parts-of-none t (i + k)))
parts-joined t i k (suc m) =
    let e : k + suc m ≡ (k + m) + 1 = omega arith in
    let f : suc m ≡ m + 1 = omega arith in
    let g : i + (k + m) ≡ (i + k) + m = omega arith in
    ap (λ (n : ℕ). row_parts (tabled t i n)) e ∙ one_more t i (k + m) ∙ ap (λ (v : List ℕ). v ++ row_part (row_at t (i + (k + m)))) (parts-joined t i k m)
    ∙ append_assoc (row_parts (tabled t i k)) (row_parts (tabled t (i + k) m)) (row_part (row_at t (i + (k + m))))
    ∙ ap (λ (j : ℕ). row_parts (tabled t i k) ++ (row_parts (tabled t (i + k) m) ++ row_part (row_at t j))) g
    ∙ ap (λ (v : List ℕ). row_parts (tabled t i k) ++ v) (sym (one_more t (i + k) m) ∙ ap (λ (n : ℕ). row_parts (tabled t (i + k) n)) (sym f))
