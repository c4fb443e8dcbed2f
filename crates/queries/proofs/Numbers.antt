-- Digits, and the numbers that they say.
use mathlib.Core.Path.{◌≡◌, refl, sym, ap, ◌∙◌}
use mathlib.Core.Bool.{Bool, true, false, cond, ◌&&◌}
use mathlib.Core.List.{List, [], ◌∷◌}
use Prim.Native.Nat.{ℕ, zero, suc, ◌+◌, ◌-◌, ◌*◌, ◌^◌, ◌<◌, ◌≤◌}
use native.Mathlib.Omega.{arith}
use native.Mathlib.Numerals.{add-one}
use native.Mathlib.Nat.{pow-suc, pow-le-pow_right}
use lib.ListN.{length, get_or, take, drop, length-drop, drop_of_length-le}
use lib.Seq.{drop-cons, take_all}
use lib.Dec.{leb}
use lib.IntN.{ℤ, pos, ◌-ℤ◌}
use lib.Signed.{mag}
use mir.Syntax.{w128}
use mir.Val.{SFits}
use Rattle.std.specs.Prelude.{Some, None}
use borrow.Author.Tests.{leb-true, lt-ltb, eq-eqb, ne_eqb}
use Rattle.format.proofs.Every.{every-at}
use Rattle.queries.specs.Numerals.{is_decimal, all_decimal, digits_on, digits_of, numeral_of, signed}

-- ---- one digit

module _ (d : ℕ) where
  decimal-range : is_decimal d ≡ true → (0x30 ≤ d) × (d ≤ 0x39)
  decimal-range e = by (leb 0x30 d) refl (leb d 0x39) refl e
    where
      by : (s : Bool) → leb 0x30 d ≡ s → (t : Bool) → leb d 0x39 ≡ t → s && t ≡ true → (0x30 ≤ d) × (d ≤ 0x39)
      by true p true q e = (leb-true 0x30 d p, leb-true d 0x39 q)
      by true p false q e = let z : ◌≡◌ {A = ℕ} 0 1 = cc in absurd (omega arith)
      by false p t q e = let z : ◌≡◌ {A = ℕ} 0 1 = cc in absurd (omega arith)

-- ---- what digits say

-- the first i of at most 19 digits say n
pub record Reading (l : List ℕ) (n i : ℕ) : Type 0 where
  pub within : i ≤ length l
  pub rest : digits_on 0 l ≡ digits_on n (drop i l)
  pub small : n < 10 ^ i

pub reading-none : (l : List ℕ) → Reading l 0 0
reading-none l = record { within = omega arith; rest = refl; small = omega arith }

module _ {l : List ℕ} {n i : ℕ} (r : Reading l n i) (all : all_decimal l ≡ true) (few : length l ≤ 19) (h : i < length l) where
  pub digit-range : (0x30 ≤ get_or l i 0) × (get_or l i 0 ≤ 0x39)
  digit-range = decimal-range (get_or l i 0) (every-at is_decimal l all i h)

  pub reading_small : n < 10 ^ 18
  reading_small = let top : 10 ^ i ≤ 10 ^ 18 = pow-le-pow_right (omega arith) {i = i} {j = 18} (omega arith) in omega (arith, r.small)

  pub reading-again : Reading l (n * 10 + (get_or l i 0 - 0x30)) (i + 1)
  unfolding digits_on
  reading-again =
      let d = digit-range in
      let grows : 10 ^ (i + 1) ≡ 10 ^ i * 10 = rw add-one (pow-suc 10 i) in
      record { within = omega arith; rest = r.rest ∙ ap (digits_on n) (drop-cons l i 0 h) ∙ rw add-one; small = omega (arith, r.small, d.0, d.1) }

pub reading-all : {l : List ℕ} {n i : ℕ} → Reading l n i → length l ≤ i → n ≡ digits_on 0 l
unfolding digits_on
reading-all {l} {n} {i} r h = sym (r.rest ∙ ap (digits_on n) (drop_of_length-le l h))

-- ---- a field

-- what digits say, without a minus and with one
pub plain : (l : List ℕ) {z : ℤ} → Some z ≡ digits_of false l → z ≡ pos (mag z)
unfolding digits_of
plain l {z} e = by (leb 1 (length l) && leb (length l) 19 && all_decimal l) e
  where
    by : (t : Bool) → Some z ≡ cond t (Some (pos (digits_on 0 l))) None → z ≡ pos (mag z)
    by true e = let f : z ≡ pos (digits_on 0 l) = cc in rw f refl
    by false e = let x : ◌≡◌ {A = ℕ} 0 1 = cc in absurd (omega arith)

pub minus-none : (l : List ℕ) → None ≡ digits_of false l → None ≡ digits_of true l
unfolding digits_of
minus-none l e = by (leb 1 (length l) && leb (length l) 19 && all_decimal l) e
  where
    by : (t : Bool) → None ≡ cond t (Some (pos (digits_on 0 l))) None → None ≡ cond t (Some (signed true (digits_on 0 l))) None
    by true e = let x : ◌≡◌ {A = ℕ} 0 1 = cc in absurd (omega arith)
    by false e = refl

less : (n : ℕ) → pos 0 -ℤ pos n ≡ signed true n
less zero = refl
less (suc n) = let e : suc n - 1 ≡ n = omega arith in rw (lt-ltb 0 (suc n) (omega arith), e) refl

less-fits : (n : ℕ) → SFits w128 (pos n) → SFits w128 (signed true n)
less-fits zero f = f
less-fits (suc n) f = let g = f.sfits in record { sfits = omega arith }

pub minus-fits : (l : List ℕ) {z : ℤ} → SFits w128 z → Some z ≡ digits_of false l → SFits w128 (pos 0 -ℤ z)
minus-fits l {z} f e = let p = plain l e in rw (p, less (mag z)) (less-fits (mag z) (rw p at f))

pub minus_some : (l : List ℕ) {z : ℤ} → Some z ≡ digits_of false l → Some (pos 0 -ℤ z) ≡ digits_of true l
unfolding digits_of
minus_some l {z} e = by (leb 1 (length l) && leb (length l) 19 && all_decimal l) e
  where
    by : (t : Bool) → Some z ≡ cond t (Some (pos (digits_on 0 l))) None → Some (pos 0 -ℤ z) ≡ cond t (Some (signed true (digits_on 0 l))) None
    by true e = let f : z ≡ pos (digits_on 0 l) = cc in rw f (ap Some (less (digits_on 0 l)))
    by false e = let x : ◌≡◌ {A = ℕ} 0 1 = cc in absurd (omega arith)

module _ (l : List ℕ) where
  pub field-none : length l < 1 → numeral_of l ≡ digits_of false l
  unfolding numeral_of
  field-none h = by l h
    where
      by : (l : List ℕ) → length l < 1 → numeral_of l ≡ digits_of false l
      by [] h = refl
      by (b ∷ l) h = absurd (omega arith)

  pub field-minus : get_or l 0 0 ≡ 0x2D → numeral_of l ≡ digits_of true (take (length l - 1) (drop 1 l))
  unfolding numeral_of
  field-minus e = rw (eq-eqb (get_or l 0 0) 0x2D e) (sym (ap (digits_of true) (take_all (length l - 1) (drop 1 l) (omega (arith, length-drop 1 l)))))

  pub field_plain : (get_or l 0 0 ≡ 0x2D → ⊥) → numeral_of l ≡ digits_of false l
  unfolding numeral_of
  field_plain e = rw (ne_eqb (get_or l 0 0) 0x2D e) refl
