-- The rows of a type, and the sort of a row by them.
use mathlib.Core.Path.{◌≡◌, refl, sym, ◌∙◌, ap}
use mathlib.Core.Bool.{Bool, true, false, cond}
use mathlib.Core.List.{map}
use Prim.Native.Nat.{ℕ, zero, suc, ◌<◌}
use native.Mathlib.Omega.{arith}
use lib.Dec.{ltb}
use lib.ListN.{get_or, get_or-map}
use lib.IntN.{ℤ, pos, negsuc, ◌-ℤ◌}
use lib.Signed.{lt_z}
use borrow.Author.Tests.{ltb-true, ltb-false, lt-ltb, le-ltb}
use mir.Syntax.{w32, w64}
use mir.Val.{SFits}
use Rattle.std.specs.Prelude.{Option, Some, None}
use Rattle.format.specs.Data.{within}
use Rattle.format.specs.Types as types
use Rattle.format.specs.Types.{kind_of, table, uncarried}
use Rattle.format.specs.Asking.{possible}
use Rattle.ask.specs.declared.tables.Kind.{Kind}
use Rattle.ask.specs.declared.tables.Sort.{Sort}
use Rattle.ask.specs.declared.tables.Sort.TheVariants.{Integer, Other}
use Rattle.ask.specs.Sorts.{sorted, lowest, highest, numbers_of, judged}
use Rattle.ask.proofs.Ranges.{ranged}

-- the table, by one computation over all its entries
pub tabled : (n : ℕ) → get_or (map numbers_of table) n None ≡ numbers_of (get_or table n uncarried)
tabled n = get_or-map numbers_of table n uncarried

-- ---- the ranges of the type identifier

pub user : (t : ℤ) → lt_z t (pos 0) ≡ false → Some (record { 0 = Other; 1 = pos 0; 2 = pos 2147483647 }) ≡ numbers_of (kind_of t)
unfolding kind_of
user (pos n) h = refl
user (negsuc n) h = let x : ◌≡◌ {A = ℕ} 0 1 = cc in absurd (omega arith)

pub plain : {t : ℤ} {n : ℕ} → t ≡ negsuc n → n < 40 → numbers_of (get_or table n uncarried) ≡ numbers_of (kind_of t)
unfolding kind_of
plain {n = n} p h = rw (p, lt-ltb n 40 h)

pub few : (n : ℕ) → lt_z (negsuc n) (negsuc 39) ≡ false → n < 40
few n h = omega (arith, ltb-false 39 n h)

pub compact-fits : (t : ℤ) → SFits w32 t → SFits w64 (negsuc 41 -ℤ t)
compact-fits (pos zero) f = record { sfits = omega arith }
compact-fits (pos (suc n)) f = let l = f.sfits in record { sfits = omega arith }
compact-fits (negsuc n) f = by (ltb (suc n) 42) refl
  where
    by : (t : Bool) → ltb (suc n) 42 ≡ t → SFits w64 (negsuc 41 -ℤ negsuc n)
    by true h = rw h (record { sfits = omega arith })
    by false h = let l = f.sfits in rw h (record { sfits = omega arith })

pub compacted : (t : ℤ) {y : ℤ} → y ≡ negsuc 41 -ℤ t → lt_z t (negsuc 63) ≡ false → lt_z t (negsuc 39) ≡ true → Some (record { 0 = Integer; 1 = y; 2 = y }) ≡ numbers_of (kind_of t)
unfolding kind_of
compacted (pos n) e g h = let x : ◌≡◌ {A = ℕ} 0 1 = cc in absurd (omega arith)
compacted (negsuc n) e g h =
    let a = ltb-false 63 n g in let b = ltb-true 39 n h in
    rw (le-ltb n 40 (omega arith), lt-ltb n 64 (omega arith), e) refl

pub unknown : (t : ℤ) → lt_z t (negsuc 63) ≡ true → None ≡ numbers_of (kind_of t)
unfolding kind_of
unknown (pos n) h = let x : ◌≡◌ {A = ℕ} 0 1 = cc in absurd (omega arith)
unknown (negsuc n) h = let a = ltb-true 63 n h in rw (le-ltb n 40 (omega arith), le-ltb n 64 (omega arith)) refl

-- ---- a type's range and sort are what the row is judged by

in_range : Option Kind → ℤ → Option Sort
in_range (Some k) z = cond (within k.1 k.2 z) (Some k.0) None
in_range None z = None

ranges : (k : types.Kind) (z : ℤ) → in_range (numbers_of k) z ≡ judged k z
unfolding in_range
ranges k z = by k.carried
  where
    by : (c : Bool) → in_range (cond c (Some (record { 0 = sorted k.sort; 1 = lowest k.datum; 2 = highest k.datum })) None) z ≡ cond c (cond (possible k.datum z) (Some (sorted k.sort)) None) None
    by true = rw (ranged k.datum z) refl
    by false = refl

-- by what `kind` answers of the type, as the code holds it, and whether the number is in range
pub in-range : (t z : ℤ) {u : ℤ} {o : Option Kind} {l : Kind} → u ≡ t → o ≡ numbers_of (kind_of u) → o ≡ Some l → (b : Bool) → within l.1 l.2 z ≡ b → cond b (Some l.0) None ≡ judged (kind_of t) z
unfolding in_range
in-range t z {u} {o} {l} e f g b h = rw (sym h) (ap (λ o. in_range o z) (sym g ∙ f) ∙ rw e (ranges (kind_of t) z))
