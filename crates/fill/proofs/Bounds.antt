-- Bounds at the calls of the filling cycle.
use mathlib.Core.Path.{◌≡◌, subst}
use mathlib.Core.List.{List}
use Prim.Native.Nat.{ℕ, ◌+◌, ◌-◌, ◌*◌, ◌^◌, ◌<◌, ◌≤◌}
use native.Mathlib.Omega.{arith}
use Rattle.std.specs.Prelude.{Option, Some, Result, Ok}
use Rattle.reading.specs.declared.Refusal.{Refusal}
use Rattle.format.specs.declared.Row.{Row}
use Rattle.format.specs.Writing.{Table}
use Rattle.decide.specs.declared.Form.{Form}
use Rattle.decide.specs.declared.Nest.{Nest}
use Rattle.decide.specs.declared.Next.{Next}
use Rattle.decide.specs.declared.Next.TheVariants.{Value, End}
use Rattle.decide.specs.Coming.{PastNext, NextAt}
use Rattle.fill.specs.declared.Found.{Found}
use Rattle.fill.specs.declared.Found.TheVariants.{Leaf, Holder}
use Rattle.columns.specs.Columns.{Kept, Stored}
use Rattle.fill.specs.Rows.{CountedNest, PastFound, RowAt}
use Rattle.fill.specs.Filling.{Ready, FilledValue}
use Rattle.columns.proofs.Storing.{roomy}
use Rattle.fill.proofs.Elements.{Turn}

pub rises : (d : ℕ) {t : ℕ} → 2 * d + 1 ≡ t → 2 * d < t
rises d h = omega arith

pub sinks : (d : ℕ) {t : ℕ} → 2 * d ≡ t → (d ≡ 0 → ⊥) → 2 * (d - 1) + 1 < t
sinks d h n = omega arith

pub take-one : {d : ℕ} → (d ≡ 0 → ⊥) → 1 ≤ d
take-one h = omega arith

pub one-row : {o : List ℕ} {lim at k : ℕ} {t : Table} → Ready o lim at k t → k + 1 < 2 ^ 64
one-row r = omega (arith, r.below, r.few)

pub ready-kept : {o : List ℕ} {lim at k : ℕ} {t u : Table} → Kept u t → Ready o lim at k t → Ready o lim at k u
ready-kept ks r = record { room = roomy ks r.room; short = r.short; few = r.few; inside = r.inside; below = r.below }

pub holder-ready : {o : List ℕ} {form : Form} {i at : ℕ} {x : Option Found} {lim k : ℕ} {t : Table} {row : Row} {n : Nest} → RowAt o form i at x → x ≡ Some (Holder row n) → k < lim → Ready o lim at k t → Ready o lim row.end (k + 1) t × CountedNest n
holder-ready {o} {at = at} x q l r = let p = subst (PastFound o at) q x.past in (record { room = r.room; short = r.short; few = r.few; inside = p.1; below = omega arith }, p.2)

pub stored-as : {lim k : ℕ} {y z : Row} {t t' : Table} → y ≡ z → Stored lim k y t t' → Stored lim k z t t'
stored-as {lim} {k} {t = t} {t' = t'} e s = subst (λ (x : Row). Stored lim k x t t') e s

pub turned : {o : List ℕ} {lim : ℕ} {f g : Form} {i at k d : ℕ} {t : Table} {r : Option (ℕ × ℕ)} {t' : Table} → f ≡ g → FilledValue o lim f i at k d t r t' → FilledValue o lim g i at k d t r t'
turned {o} {lim} {i = i} {at = at} {k = k} {d = d} {t = t} {r = r} {t' = t'} e v = subst (λ (x : Form). FilledValue o lim x i at k d t r t') e v

module _ {o : List ℕ} {lim d : ℕ} {n : Nest} {from base : ℕ} {t₀ : Table} {at low rows : ℕ} {t : Table} (tn : Turn o lim d n from base t₀ at low rows t) (ready : Ready o lim from base t₀) where
  module _ {g : Result Next Refusal} (follow : NextAt o n.indexed n.paired n.count low at g) where
    pub turn-ends : {next : ℕ} → g ≡ Ok (End next) → (rows - base < 2 ^ 32) × (next < 2 ^ 32)
    turn-ends q = let p = subst (PastNext o n.indexed n.count low at) q follow.past in (omega (arith, tn.room, ready.few), omega (arith, p.1, ready.short))

    pub turn-ready : {next j low' : ℕ} → g ≡ Ok (Value next j low') → Ready o lim next rows t
    turn-ready q = let p = subst (PastNext o n.indexed n.count low at) q follow.past in record { room = roomy tn.kept ready.room; short = ready.short; few = ready.few; inside = p.1; below = tn.room }

pub turn_more : {o : List ℕ} {lim d : ℕ} {n : Nest} {from base : ℕ} {t₀ : Table} {at low rows : ℕ} {t : Table} → Turn o lim d n from base t₀ at low rows t → base ≤ rows
turn_more tn = tn.steps

pub leaf-end : {o : List ℕ} {form : Form} {i at : ℕ} {x : Option Found} {lim k : ℕ} {t : Table} {row : Row} → RowAt o form i at x → x ≡ Some (Leaf row) → Ready o lim at k t → row.end < 2 ^ 64
leaf-end {o} {at = at} x q r = let p = subst (PastFound o at) q x.past in omega (arith, p.1, r.short)
