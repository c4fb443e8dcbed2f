-- Values of a container that are alike.
use Rattle.std.specs.Prelude.{Option, Some, None}
use mathlib.Core.Path.{◌≡◌, refl, sym, ap, subst, ◌∙◌}
use mathlib.Core.Bool.{Bool, true, false, cond}
use Prim.Native.Nat.{ℕ, ◌%◌}
use native.Mathlib.Omega.{arith}
use lib.Dec.{eqb}
use lib.IntN.{ℤ}
use borrow.Author.Tests.{eqb-true, eq-eqb, ne_eqb}
use Rattle.scalar.specs.declared.Bits.{Bits}
use Rattle.scalar.specs.declared.Bits.TheVariants.{Bits16, Bits32, Bits64}
use Rattle.scalar.specs.Answers.{most_of}
use Rattle.decide.specs.declared.Form.{Form}
use Rattle.decide.specs.declared.Form.TheVariants.{Packed}
use Rattle.decide.specs.Forms.{turn}
use Rattle.decide.specs.Runs.{integers_of, Like, RunOf, RunIn}

-- the number that tells which integers fit tells their width
same_width : (w v : Bits) → most_of w ≡ most_of v → w ≡ v
same_width Bits16 Bits16 h = refl
same_width Bits16 Bits32 h = absurd (omega arith)
same_width Bits16 Bits64 h = absurd (omega arith)
same_width Bits32 Bits16 h = absurd (omega arith)
same_width Bits32 Bits32 h = refl
same_width Bits32 Bits64 h = absurd (omega arith)
same_width Bits64 Bits16 h = absurd (omega arith)
same_width Bits64 Bits32 h = absurd (omega arith)
same_width Bits64 Bits64 h = refl

module _ (w v : Bits) {m n : ℕ} (first : m ≡ most_of w) (second : n ≡ most_of v) where
  pub widths-same : m ≡ n → Some (w, m) ≡ integers_of w v
  widths-same h = rw (first, eq-eqb (most_of w) (most_of v) (sym first ∙ h ∙ second))

  pub widths-other : (m ≡ n → ⊥) → None ≡ integers_of w v
  widths-other h = rw (ne_eqb (most_of w) (most_of v) (λ e. h (first ∙ e ∙ sym second)))

pub run-mixed : {f g : Form} → RunOf f g None
run-mixed = record { first = tt; second = tt }

module _ {f g : Form} {t u : ℤ} {r : Option (Bits × ℕ)} where
  pub run-integers : {w v : Bits} → f ≡ Packed w t → g ≡ Packed v u → r ≡ integers_of w v → RunOf f g r
  run-integers {w} {v} e h q = rw q (by (eqb (most_of w) (most_of v)) refl)
    where
      by : (b : Bool) → eqb (most_of w) (most_of v) ≡ b → RunOf f g (cond b (Some (w, most_of w)) None)
      by true p = record { first = (refl, (t, e)); second = (refl, (u, h ∙ ap (λ (k : Bits). Packed k u) (sym (same_width w v (eqb-true _ _ p))))) }
      by false p = run-mixed

-- so is the value at any position
pub like-turn : {f g : Form} {r : Option (Bits × ℕ)} (i : ℕ) → RunOf f g r → Like r (turn f g i)
like-turn {f} {g} {r} i h = by (eqb (i % 2) 0)
  where
    by : (b : Bool) → Like r (cond b f g)
    by true = h.first
    by false = h.second

pub run-listed : {x : Bool} {f g : Form} {r : Option (Bits × ℕ)} → x ≡ false → RunOf f g r → RunIn x f g r
run-listed e h = record { run = h; mixed = λ i. absurd (subst (λ (b : Bool). cond b ⊥ (Unit {0})) (sym e ∙ i) tt) }
