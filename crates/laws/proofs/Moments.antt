-- Dates and times: the integers of one, and the values inside it that they are.
use mathlib.Core.Path.{◌≡◌, refl, sym, ap, ◌∙◌, ap₂}
use mathlib.Core.Bool.{Bool, true, false, cond}
use mathlib.Core.List.{List, [], ◌∷◌, ◌++◌, append_assoc, append-nil}
use Prim.Native.Nat.{ℕ, zero, suc}
use native.Mathlib.Omega.{arith}
use lib.ListN.{length}
use lib.IntN.{ℤ}
use Rattle.reading.specs.Reading.{Env, return, either}
use Rattle.reading.proofs.Sound.{s-here, s-require, s-ret, Leaf, s-leaf}
use Rattle.reading.proofs.Only.{Only, o-bind, o-here, o-require, o-ret, o-as}
use Rattle.reading.proofs.Does.{Does, d-bind, d-here, d-require, d-ret, d-as}
use Rattle.integer.specs.Packed.{wide32, spell_int}
use Rattle.integer.proofs.Laws.{integer-leaf, integer-only, enough32, integer-does}
use Rattle.format.specs.Types.{Parts, kind_of}
use Rattle.format.specs.Data.{integers, usual, offset, moment, spell_number, spell_element}
use Rattle.format.specs.Values.{Children, pieces, rule_of}
use Rattle.format.specs.Spelling.{fore, spell_children}
use Rattle.format.specs.Grammar.{Ints, Moment, after, Named}

-- ---- integers one after another

unfoldable pub spell_ints : List ℤ → List ℕ
spell_ints [] = []
spell_ints (z ∷ l) = spell_int z ++ spell_ints l

spell_ints-append : (l m : List ℤ) → spell_ints (l ++ m) ≡ spell_ints l ++ spell_ints m
unfolding spell_ints
spell_ints-append [] m = refl
spell_ints-append (z ∷ l) m = rw (spell_ints-append l m) (sym (append_assoc (spell_int z) (spell_ints l) (spell_ints m)))

ints-both : (l m : List ℤ) → Ints l → Ints m → Ints (l ++ m)
unfolding Ints
ints-both [] m g h = h
ints-both (z ∷ l) m g h = (g.0, ints-both l m g.1 h)

ints-left : (l m : List ℤ) → Ints (l ++ m) → Ints l
unfolding Ints
ints-left [] m g = tt
ints-left (z ∷ l) m g = (g.0, ints-left l m g.1)

ints-right : (l m : List ℤ) → Ints (l ++ m) → Ints m
unfolding Ints
ints-right [] m g = g
ints-right (z ∷ l) m g = ints-right l m g.1

pub integers-leaf : (n : ℕ) → Leaf (integers n) spell_ints (λ l. (length l ≡ n) × Ints l)
unfolding integers spell_ints Ints
integers-leaf zero s = s-ret _ (refl, (refl, tt), refl)
integers-leaf (suc n) s = s-leaf _ (integer-leaf wide32) λ z at m small. s-leaf _ (integers-leaf n) λ l at' m' q.
    s-ret _ (ap (λ (x : List ℕ). spell_int z ++ x) (append-nil (spell_ints l)), (ap suc q.0, (small, q.1)), refl)

integers-only : (n : ℕ) (l : List ℤ) → length l ≡ n → Only (integers n) (spell_ints l) l
unfolding integers spell_ints
integers-only zero [] e = o-ret []
integers-only zero (z ∷ l) e = absurd (omega arith)
integers-only (suc n) [] e = absurd (omega arith)
integers-only (suc n) (z ∷ l) e = o-bind _ (integer-only wide32 z) (o-as (append-nil (spell_ints l)) refl (o-bind _ (integers-only n l (omega arith)) (o-ret (z ∷ l))))

integers-does : (n : ℕ) (l : List ℤ) (e : Env) → length l ≡ n → Ints l → Does (integers n) e (spell_ints l) l e
unfolding integers spell_ints Ints
integers-does zero [] e q g = d-ret []
integers-does zero (z ∷ l) e q g = absurd (omega arith)
integers-does (suc n) [] e q g = absurd (omega arith)
integers-does (suc n) (z ∷ l) e q g = d-bind _ (integer-does wide32 enough32 z e g.0) (d-as (append-nil (spell_ints l)) refl refl (d-bind _ (integers-does n l e (omega arith) g.1) (d-ret (z ∷ l))))

-- ---- an offset, where there is one

pub offset-leaf : (t : Bool) → Leaf (either t (integers 2) (return [])) spell_ints (λ l. (length l ≡ cond t 2 0) × Ints l)
unfolding either spell_ints Ints
offset-leaf true s = integers-leaf 2 s
offset-leaf false s = s-ret _ (refl, (refl, tt), refl)

offset-only : (t : Bool) (l : List ℤ) → length l ≡ cond t 2 0 → Only (either t (integers 2) (return [])) (spell_ints l) l
unfolding either spell_ints
offset-only true l e = integers-only 2 l e
offset-only false [] e = o-ret []
offset-only false (z ∷ l) e = absurd (omega arith)

offset-does : (t : Bool) (l : List ℤ) (e : Env) → length l ≡ cond t 2 0 → Ints l → Does (either t (integers 2) (return [])) e (spell_ints l) l e
unfolding either spell_ints
offset-does true l e q g = integers-does 2 l e q g
offset-does false [] e q g = d-ret []
offset-does false (z ∷ l) e q g = absurd (omega arith)

-- ---- the integers of a date or time

pub moment-leaf : (d : Parts) → Leaf (moment d) spell_ints (λ l. Moment d (pieces 0 l))
unfolding moment
moment-leaf d s = s-here _ (s-leaf _ (integers-leaf (usual d)) λ l at m q. s-leaf _ (offset-leaf (offset d l)) λ o at' m' w. s-require _ _ _ _ λ h.
    s-ret _ (
      ap (λ (x : List ℕ). spell_ints l ++ x) (append-nil (spell_ints o)) ∙ sym (spell_ints-append l o),
      record { usual_parts = l; offset_parts = o; are_ints = ints-both l o q.1 w.1; usual_count = q.0; offset_count = w.0; in-range = h; are_pieces = refl },
      refl,
    ))

module _ (d : Parts) {cs : Children} (m : Moment d cs) where
  abbrev pub parts-of : List ℤ
  parts-of = m.usual_parts ++ m.offset_parts

  spelt-parts : spell_ints m.usual_parts ++ (spell_ints m.offset_parts ++ []) ≡ spell_ints parts-of
  spelt-parts = ap (λ (x : List ℕ). spell_ints m.usual_parts ++ x) (append-nil (spell_ints m.offset_parts)) ∙ sym (spell_ints-append m.usual_parts m.offset_parts)

  pub moment-only : Only (moment d) (spell_ints parts-of) parts-of
  unfolding moment
  moment-only = o-as spelt-parts refl (o-here _ λ p. o-bind _ (integers-only (usual d) m.usual_parts m.usual_count)
      (o-bind _ (offset-only (offset d m.usual_parts) m.offset_parts m.offset_count) (o-require _ _ _ _ λ _. o-ret _)))

  pub moment-does : (e : Env) → Does (moment d) e (spell_ints parts-of) parts-of e
  unfolding moment
  moment-does e = d-as spelt-parts refl refl (d-here _ λ p. d-bind _ (integers-does (usual d) m.usual_parts e m.usual_count (ints-left _ _ m.are_ints))
      (d-bind _ (offset-does (offset d m.usual_parts) m.offset_parts e m.offset_count (ints-right m.usual_parts _ m.are_ints)) (d-require _ _ _ _ m.in-range (d-ret _))))

-- ---- the values that they are

pub pieces-spelt : (i : ℕ) (l : List ℤ) → spell_children false (pieces i l) ≡ spell_ints l
unfolding pieces spell_children spell_ints fore kind_of spell_number spell_element rule_of
pieces-spelt i [] = refl
pieces-spelt i (z ∷ l) = ap₂ ◌++◌ (append-nil (spell_int z)) (pieces-spelt (suc i) l)

-- they name no identity
pub pieces-named : (i : ℕ) (l : List ℤ) (e : Env) → Named e (pieces i l)
unfolding pieces Named after kind_of
pieces-named i [] e = tt
pieces-named i (z ∷ l) e = (tt, tt, pieces-named (suc i) l e)

pub pieces-after : (i : ℕ) (l : List ℤ) (e : Env) → after e (pieces i l) ≡ e
unfolding pieces after kind_of
pieces-after i [] e = refl
pieces-after i (z ∷ l) e = pieces-after (suc i) l e
