-- Lines one after another.
use mathlib.Core.Path.{◌≡◌, refl, sym, ap, subst, ◌∙◌}
use mathlib.Core.Bool.{Bool, true, false, cond}
use mathlib.Core.List.{List, [], ◌∷◌, ◌++◌, append_assoc, append-nil}
use mathlib.Core.Logic.{inl, inr}
use Prim.Native.Nat.{ℕ, suc, ◌+◌, ◌-◌, ◌≤◌, ◌<◌}
use native.Mathlib.Omega.{arith}
use lib.ListN.{length, get_or, take, drop, length-drop, length-append, take-append-drop}
use lib.Seq.{length-take-le, take_all, take-append_seam, get_or-append_seam, get_or-drop}
use lib.Dec.{eqb}
use borrow.Author.Tests.{eqb-true}
use Rattle.octets.specs.Octets.{slice, index_after, index_of}
use Rattle.format.specs.Values.{has}
use Rattle.format.specs.Desk.{line_text, desk_from, desk}
use Rattle.integer.specs.Writes.{Wrote}
use Rattle.text.proofs.Writes.{wrote-append}
use Rattle.listing.specs.Listing.{Listed, WholeLines, LinesListed}

never : {A : Type 0} → true ≡ false → A
never e = let z : ◌≡◌ {A = ℕ} 0 1 = cc in absurd (omega arith)

-- ---- the first line

from-line : (u acc v : List ℕ) → has 0x0A u ≡ false → desk_from acc (u ++ (0x0A ∷ v)) ≡ line_text (acc ++ u) ++ desk_from [] v
unfolding desk_from has
from-line [] acc v h = ap (λ (l : List ℕ). line_text l ++ desk_from [] v) (sym (append-nil acc))
from-line (b ∷ u) acc v h = by (from-line u (acc ++ (b ∷ [])) v) (eqb b 0x0A) h
  where
    by : (has 0x0A u ≡ false → desk_from (acc ++ (b ∷ [])) (u ++ (0x0A ∷ v)) ≡ line_text ((acc ++ (b ∷ [])) ++ u) ++ desk_from [] v) → (x : Bool) → cond x true (has 0x0A u) ≡ false → cond x (line_text acc ++ desk_from [] (u ++ (0x0A ∷ v))) (desk_from (acc ++ (b ∷ [])) (u ++ (0x0A ∷ v))) ≡ line_text (acc ++ (b ∷ u)) ++ desk_from [] v
    by more true h = never h
    by more false h = more h ∙ ap (λ (l : List ℕ). line_text l ++ desk_from [] v) (append_assoc acc (b ∷ []) u)

desk-line : (u v : List ℕ) → has 0x0A u ≡ false → desk (u ++ (0x0A ∷ v)) ≡ line_text u ++ desk v
unfolding desk
desk-line u v h = from-line u [] v h

-- ---- where a line ends

-- up to the first b there is none, and from it on stands b
found : (b : ℕ) (m : List ℕ) → index_of b m < length m → (has b (take (index_of b m) m) ≡ false) × (m ≡ take (index_of b m) m ++ (b ∷ drop (index_of b m + 1) m))
unfolding index_of index_after has
found b [] h = absurd (omega arith)
found b (x ∷ m) h = by (found b m) (eqb x b) refl h
  where
    by : (index_of b m < length m → (has b (take (index_of b m) m) ≡ false) × (m ≡ take (index_of b m) m ++ (b ∷ drop (index_of b m + 1) m))) → (y : Bool) → eqb x b ≡ y → index_after y (index_of b m) < suc (length m)
        → (has b (take (index_after y (index_of b m)) (x ∷ m)) ≡ false) × (x ∷ m ≡ take (index_after y (index_of b m)) (x ∷ m) ++ (b ∷ drop (index_after y (index_of b m) + 1) (x ∷ m)))
    by more true e h = (refl, ap (λ (a : ℕ). a ∷ m) (eqb-true x b e))
    by more false e h =
        let w = more (omega (arith, h)) in
        let k : suc (index_of b m) + 1 ≡ suc (index_of b m + 1) = omega arith in
        (ap (λ (y : Bool). cond y true (has b (take (index_of b m) m))) e ∙ w.0, rw k (ap (λ (l : List ℕ). x ∷ l) w.1))

none : (b : ℕ) (m : List ℕ) → length m ≤ index_of b m → has b m ≡ false
unfolding index_of index_after has
none b [] h = refl
none b (x ∷ m) h = by (none b m) (eqb x b) h
  where
    by : (length m ≤ index_of b m → has b m ≡ false) → (y : Bool) → suc (length m) ≤ index_after y (index_of b m) → cond y true (has b m) ≡ false
    by more true h = absurd (omega (arith, h))
    by more false h = more (omega (arith, h))

-- ---- lines listed so far

pub record Going (o l : List ℕ) (used written : ℕ) (out : List ℕ) : Type 0 where
  pub said : List ℕ
  pub goes : (v : List ℕ) → desk (take used o ++ v) ≡ said ++ desk v
  pub wrote : Wrote said 0 l written out
  pub whole : WholeLines o used
  pub within : used ≤ length o
  pub room : written ≤ length l

pub going-none : {o l : List ℕ} → Going o l 0 0 l
going-none = record { said = []; goes = λ v. refl; wrote = record { past = refl; holds = refl }; whole = inl refl; within = omega arith; room = omega arith }

module _ {o l : List ℕ} {used written : ℕ} {out : List ℕ} (g : Going o l used written out) {n end : ℕ} (all : n ≡ length o) (f : end ≡ used + index_of 0x0A (slice used n o)) where
  -- the octets after those used
  rest : slice used n o ≡ drop used o
  unfolding slice
  rest = ap (drop used) (take_all n o (omega (arith, all)))

  at : end ≡ used + index_of 0x0A (drop used o)
  at = f ∙ ap (λ (m : List ℕ). used + index_of 0x0A m) rest

  long : length (drop used o) ≡ length o - used
  long = length-drop used o

  pub no_line : end ≡ n → has 0x0A (drop used o) ≡ false
  no_line e = none 0x0A (drop used o) (omega (arith, at, e, all, long, g.within))

  module _ (h : end < n) where
    abbrev u : List ℕ
    u = take (index_of 0x0A (drop used o)) (drop used o)

    abbrev w : List ℕ
    w = drop (index_of 0x0A (drop used o) + 1) (drop used o)

    split : (has 0x0A u ≡ false) × (drop used o ≡ u ++ (0x0A ∷ w))
    split = found 0x0A (drop used o) (omega (arith, at, h, all, long))

    line : take (end - used) (drop used o) ≡ u
    line = let e : end - used ≡ index_of 0x0A (drop used o) = omega (arith, at) in ap (λ (j : ℕ). take j (drop used o)) e

    -- its line feed
    fed : get_or o (end + 1 - 1) 0 ≡ 0x0A
    fed =
        let here : length u ≡ index_of 0x0A (drop used o) = length-take-le _ (drop used o) (omega (arith, at, h, all, long)) in
        let e : end + 1 - 1 ≡ used + length u = omega (arith, at, here) in
        ap (λ (j : ℕ). get_or o j 0) e ∙ sym (get_or-drop used o (length u) 0) ∙ ap (λ (m : List ℕ). get_or m (length u) 0) split.1 ∙ get_or-append_seam u 0x0A w 0

    -- those used, with the line and its line feed
    abbrev done : List ℕ
    done = take used o ++ (u ++ (0x0A ∷ []))

    more : take (end + 1) o ≡ done
    more =
        let whole : o ≡ done ++ w = sym (take-append-drop used o) ∙ ap (λ (m : List ℕ). take used o ++ m) (split.1 ∙ sym (append_assoc u (0x0A ∷ []) w)) ∙ sym (append_assoc (take used o) (u ++ (0x0A ∷ [])) w) in
        let here : length u ≡ index_of 0x0A (drop used o) = length-take-le _ (drop used o) (omega (arith, at, h, all, long)) in
        let size : length done ≡ end + 1 = omega (arith, at, here, length-append (take used o) (u ++ (0x0A ∷ [])), length-append u (0x0A ∷ []), length-take-le used o g.within) in
        ap (take (end + 1)) whole ∙ ap (λ (j : ℕ). take j (done ++ w)) (sym size) ∙ take-append_seam done w

    went : (v : List ℕ) → desk (take (end + 1) o ++ v) ≡ (g.said ++ line_text u) ++ desk v
    went v =
        ap (λ (m : List ℕ). desk (m ++ v)) more ∙ ap desk (append_assoc (take used o) (u ++ (0x0A ∷ [])) v ∙ ap (λ (m : List ℕ). take used o ++ m) (append_assoc u (0x0A ∷ []) v))
        ∙ g.goes (u ++ (0x0A ∷ v)) ∙ ap (λ (m : List ℕ). g.said ++ m) (desk-line u v split.0) ∙ sym (append_assoc g.said (line_text u) (desk v))

    pub going-again : {next : ℕ} {after : List ℕ} → written + 32768 ≤ length l → Listed (line_text (take (end - used) (drop used o))) written out next after → Going o l (end + 1) next after
    going-again {next} {after} r x =
        let y : Listed (line_text u) written out next after = subst (λ (m : List ℕ). Listed (line_text m) written out next after) line x in
        record { said = g.said ++ line_text u; goes = went; wrote = wrote-append g.wrote y.wrote; whole = inr fed; within = omega (arith, h, all); room = omega (arith, y.wrote.past, y.short, r) }

pub listed-lines : {o l out : List ℕ} {used written : ℕ} → Going o l used written out → (written + 32768 ≤ length l → has 0x0A (drop used o) ≡ false) → LinesListed o l (record { used = used; written = written }) out
unfolding desk desk_from
listed-lines {o} {l} {out} {used} {written} g a = record {
  wrote = subst (λ (v : List ℕ). Wrote v 0 l written out) (sym (ap desk (sym (append-nil (take used o))) ∙ g.goes [] ∙ append-nil g.said)) g.wrote;
  whole = g.whole;
  within = g.within;
  room = g.room;
  all = a;
}
