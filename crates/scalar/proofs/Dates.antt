-- The ranges of dates and times, as code tests them.
use mathlib.Core.Path.{◌≡◌, refl, sym, ap₂, ◌∙◌}
use mathlib.Core.Bool.{Bool, true, false, cond, ◌&&◌, ◌||◌}
use mathlib.Core.List.{[], ◌∷◌}
use mathlib.Core.Logic.{◌⊎◌, inl, inr}
use Prim.Native.Nat.{ℕ, ◌%◌, ◌≤◌}
use native.Mathlib.Omega.{arith}
use lib.Dec.{eqb, leb}
use lib.IntN.{ℤ, pos, negsuc, nat_abs}
use lib.Signed.{mag}
use borrow.Author.Tests.{eq-eqb, ne_eqb, leb-true, le-leb}
use mir.Syntax.{w32}
use mir.Val.{SFits, to_z}
use mir.ValLaws.{to_z-of_z, to_z_pos}
use Rattle.format.specs.Data.{within, leap, days, date_fits}
use Rattle.scalar.specs.Moments.{clock_fits}
use Rattle.scalar.proofs.Signed.{held}
use Rattle.reading.proofs.Tests.{no, and_split}

pub leap-not : (y : ℕ) → (y % 4 ≡ 0 → ⊥) → false ≡ leap y
leap-not y h = sym (rw (ne_eqb (y % 4) 0 h, ne_eqb (y % 400) 0 (λ e. h (omega arith))))

pub leap-plain : (y : ℕ) → y % 4 ≡ 0 → (y % 100 ≡ 0 → ⊥) → true ≡ leap y
leap-plain y h g = sym (rw (eq-eqb (y % 4) 0 h, ne_eqb (y % 100) 0 g))

pub leap-century : (y : ℕ) → y % 100 ≡ 0 → eqb (y % 400) 0 ≡ leap y
leap-century y h = sym (rw (eq-eqb (y % 100) 0 h) (by (eqb (y % 4) 0)))
  where
    by : (t : Bool) → (t && false) || eqb (y % 400) 0 ≡ eqb (y % 400) 0
    by true = refl
    by false = refl

module _ (y m : ℕ) where
  pub days-leap : m ≡ 2 → leap y ≡ true → (29 ≡ days y m) × (29 ≤ 31)
  days-leap h g = (sym (rw (eq-eqb m 2 h, g)), omega arith)

  pub days-plain : m ≡ 2 → leap y ≡ false → (28 ≡ days y m) × (28 ≤ 31)
  days-plain h g = (sym (rw (eq-eqb m 2 h, g)), omega arith)

  pub days-short : (m ≡ 4) ⊎ ((m ≡ 6) ⊎ ((m ≡ 9) ⊎ (m ≡ 11))) → (30 ≡ days y m) × (30 ≤ 31)
  days-short (inl h) = (rw h, omega arith)
  days-short (inr (inl h)) = (rw h, omega arith)
  days-short (inr (inr (inl h))) = (rw h, omega arith)
  days-short (inr (inr (inr h))) = (rw h, omega arith)

  pub days-long : (m ≡ 2 → ⊥) → ((m ≡ 4) ⊎ ((m ≡ 6) ⊎ ((m ≡ 9) ⊎ (m ≡ 11))) → ⊥) → (31 ≡ days y m) × (31 ≤ 31)
  days-long h g = (sym (rw (ne_eqb m 2 h, ne_eqb m 4 (λ e. g (inl e)), ne_eqb m 6 (λ e. g (inr (inl e))), ne_eqb m 9 (λ e. g (inr (inr (inl e)))), ne_eqb m 11 (λ e. g (inr (inr (inr e)))))), omega arith)

pub clock-is : (h m s f : ℤ) {t1 t2 t3 t4 u1 u2 u3 : Bool} → t1 ≡ within (pos 0) (pos 23) h → t2 ≡ within (pos 0) (pos 59) m → t3 ≡ within (pos 0) (pos 59) s → t4 ≡ within (negsuc 999999998) (pos 999) f
    → u1 ≡ t1 && t2 → u2 ≡ u1 && t3 → u3 ≡ u2 && t4 → u3 ≡ clock_fits h m s f
clock-is h m s f a b c d e g k = k ∙ ap₂ ◌&&◌ (g ∙ ap₂ ◌&&◌ (e ∙ ap₂ ◌&&◌ a b) c) d

-- ---- dates

pub upward : (high : ℕ) (z : ℤ) → within (pos 0) (pos high) z ≡ true → z ≡ pos (mag z)
upward high (pos n) e = refl
upward high (negsuc n) e = absurd (no e)

pub upward-one : (high : ℕ) (z : ℤ) → within (pos 1) (pos high) z ≡ true → z ≡ pos (mag z)
upward-one high (pos n) e = refl
upward-one high (negsuc n) e = absurd (no e)

-- every month has 28 days
days-least : (y m : ℕ) → 28 ≤ days y m
days-least y m = by (eqb m 2) (leap y) (eqb m 4 || eqb m 6 || eqb m 9 || eqb m 11)
  where
    by : (t u v : Bool) → 28 ≤ cond t (cond u 29 28) (cond v 30 31)
    by true true v = omega arith
    by true false v = omega arith
    by false u true = omega arith
    by false u false = omega arith

within_more : (few more : ℕ) (z : ℤ) → few ≤ more → within (pos 1) (pos few) z ≡ true → within (pos 1) (pos more) z ≡ true
within_more few more (pos n) h e = let b = and_split (leb 1 n) (leb n few) e in rw b.0 (le-leb n more (omega (arith, h, leb-true n few b.1)))
within_more few more (negsuc n) h e = absurd (no e)

module _ (y m d : ℤ) where
  pub date-year : within (pos 0) (pos 9999) y ≡ false → false ≡ date_fits (y ∷ m ∷ d ∷ [])
  date-year e = sym (rw e)

  module _ (h : within (pos 0) (pos 9999) y ≡ true) where
    pub date-month : within (pos 1) (pos 12) m ≡ false → false ≡ date_fits (y ∷ m ∷ d ∷ [])
    date-month e = sym (rw (h, e))

    pub date-early : within (pos 1) (pos 12) m ≡ true → within (pos 1) (pos 28) d ≡ true → true ≡ date_fits (y ∷ m ∷ d ∷ [])
    date-early e f = sym (rw (h, e) (within_more 28 (days (mag y) (mag m)) d (days-least (mag y) (mag m)) f))

    pub date-day : {n : ℕ} {t : Bool} → within (pos 1) (pos 12) m ≡ true → SFits w32 y → SFits w32 m → SFits w32 d
        → n ≡ days (nat_abs (held y)) (nat_abs (held m)) → n ≤ 31 → t ≡ within (pos 1) (to_z w32 n) (held d) → t ≡ date_fits (y ∷ m ∷ d ∷ [])
    date-day {n} {t} e fy fm fd q few told =
        let up : nat_abs (held y) ≡ mag y = rw (to_z-of_z w32 y fy, upward 9999 y h) in
        let right : nat_abs (held m) ≡ mag m = rw (to_z-of_z w32 m fm, upward-one 12 m e) in
        let is : n ≡ days (mag y) (mag m) = rw (up, right) at q in
        let high : to_z w32 n ≡ pos n = to_z_pos w32 n (omega arith) in
        rw (high, to_z-of_z w32 d fd, is) at told ∙ sym (rw (h, e))
