-- Levels, counted; and a valid value by its parts.
use mathlib.Core.Bool.{false}
use mathlib.Core.Logic.{◌↔◌}
use Prim.Native.Nat.{ℕ, zero, suc, ◌≤◌}
use native.Mathlib.Omega.{arith}
use Rattle.format.specs.Values.{Children, empty, child, child_of, Value, Rule, counted, rising, moments, rule_of}
use Rattle.format.specs.Grammar.{Whole, Shaped, Leveled, Deep, Named, Valid}
use Rattle.laws.specs.Words.{leveled, levels_in, levels_of, fresh}

deep-levels : (lv : ℕ) (cs : Children) → Deep lv cs → levels_in cs ≤ lv
unfolding Deep levels_in
deep-levels lv empty d = omega arith
deep-levels zero (child i h cs more) d = absurd d
deep-levels (suc lv) (child i h cs more) d = let own = by (rule_of h) (deep-levels lv cs) d.0 in let rest = deep-levels (suc lv) more d.1 in omega arith
  where
    by : (r : Rule) → (Deep lv cs → levels_in cs ≤ lv) → Leveled r (Deep lv cs) → leveled r (levels_in cs) ≤ lv
    by (counted paired f g n j) k x = k x
    by (rising f top low) k x = k x
    by (moments m) k x = omega arith

levels-deep : (lv : ℕ) (cs : Children) → levels_in cs ≤ lv → Deep lv cs
unfolding Deep levels_in
levels-deep lv empty b = tt
levels-deep zero (child i h cs more) b = absurd (omega arith)
levels-deep (suc lv) (child i h cs more) b = (by (rule_of h) (levels-deep lv cs) (omega arith), levels-deep (suc lv) more (omega arith))
  where
    by : (r : Rule) → (levels_in cs ≤ lv → Deep lv cs) → leveled r (levels_in cs) ≤ lv → Leveled r (Deep lv cs)
    by (counted paired f g n j) k x = k x
    by (rising f top low) k x = k x
    by (moments m) k x = tt

pub valid-exactly : (v : Value) → Valid v ↔ (Whole false v.top × Shaped v × (levels_of v ≤ 16) × Named fresh (child_of 0 v empty))
valid-exactly v = (
  λ a. (a.outermost, a.shaped, deep-levels 16 (child_of 0 v empty) a.deep, a.named),
  λ h. record { outermost = h.0; shaped = h.1; deep = levels-deep 16 (child_of 0 v empty) h.2; named = h.3 },
)
