-- Columns whose first rows are cleared.
use mathlib.Core.Path.{◌≡◌, refl, ap, ◌∙◌}
use mathlib.Core.Bool.{Bool, true, false, cond}
use mathlib.Core.List.{List, ◌∷◌, ◌++◌, map}
use Prim.Native.Nat.{ℕ, zero, suc, ◌+◌, ◌<◌}
use native.Mathlib.Omega.{arith}
use lib.ListN.{length, set, drop, replicate, length-map, length-replicate}
use lib.Seq.{drop_at}
use lib.Dec.{T, ltb, ltb→lt}
use lib.IntN.{pos}
use Rattle.format.specs.declared.Row.{Row}
use Rattle.format.specs.Writing.{Table}
use Rattle.columns.specs.Columns.{put, cleared, Blank, over, Filled}
use Rattle.columns.specs.Lent.{Cleared}

module _ {A : Type 0} where
  same-there : (n i : ℕ) (l : List A) (z : A) → i < n → set (replicate n z ++ l) i z ≡ replicate n z ++ l
  same-there zero i l z h = absurd (omega arith)
  same-there (suc n) zero l z h = refl
  same-there (suc n) (suc i) l z h = ap (λ (m : List A). z ∷ m) (same-there n i l z (omega arith))

  cleared-same : (n i : ℕ) (l : List A) (z : A) → put n (cleared n z l) i z ≡ cleared n z l
  cleared-same n i l z = by (ltb i n) (λ t. same-there n i (drop n l) z (ltb→lt i n t))
    where
      by : (b : Bool) → (T b → set (cleared n z l) i z ≡ cleared n z l) → cond b (set (cleared n z l) i z) (cleared n z l) ≡ cleared n z l
      by true f = f tt
      by false f = refl

  over-cleared : (n : ℕ) (l vs : List A) (z : A) → length vs ≡ n → over 0 (cleared n z l) vs ≡ over 0 l vs
  over-cleared n l vs z e =
      let long : length (replicate n z) ≡ 0 + length vs = omega (arith, length-replicate n z) in
      let same : n ≡ 0 + length vs = omega arith in
      ap (λ (m : List A). vs ++ m) (drop_at (replicate n z) (drop n l) (0 + length vs) long ∙ ap (λ (i : ℕ). drop i l) same)

module _ {lim : ℕ} {t u : Table} (c : Cleared lim t u) where
  pub cleared-blank : Blank lim 0 u
  cleared-blank = rw c.now_cleared record {
    first_blank = λ i l. cleared-same lim i t.first (pos 0);
    second_blank = λ i l. cleared-same lim i t.second (pos 0);
    below_blank = λ i l. cleared-same lim i t.below 0;
  }

  -- of rows that fill what was cleared: nothing of the clearing is left
  pub filled-cleared : {t' : Table} (rs : List Row) → length rs ≡ lim → Filled 0 rs u t' → Filled 0 rs t t'
  filled-cleared {t'} rs e h = let f : Filled 0 rs (record t { first = cleared lim (pos 0) t.first; second = cleared lim (pos 0) t.second; below = cleared lim 0 t.below }) t' = rw c.now_cleared at h in record {
    ty_filled = f.ty_filled;
    own_filled = f.own_filled;
    label_filled = f.label_filled;
    number_filled = f.number_filled;
    first_filled = f.first_filled ∙ over-cleared lim t.first (map (λ (r : Row). r.first) rs) (pos 0) (length-map rs (λ (r : Row). r.first) ∙ e);
    second_filled = f.second_filled ∙ over-cleared lim t.second (map (λ (r : Row). r.second) rs) (pos 0) (length-map rs (λ (r : Row). r.second) ∙ e);
    place_filled = f.place_filled;
    below_filled = f.below_filled ∙ over-cleared lim t.below (map (λ (r : Row). r.below) rs) 0 (length-map rs (λ (r : Row). r.below) ∙ e);
    start_filled = f.start_filled;
    end_filled = f.end_filled;
  }
