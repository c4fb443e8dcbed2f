-- The keys of a `match` on a number: what is known in its last arm.
use mathlib.Core.Path.{◌≡◌, refl, ◌∙◌}
use mathlib.Core.Logic.{inl, inr}
use mathlib.Core.Bool.{Bool, true, false, ◌&&◌, ◌||◌}
use mathlib.Core.List.{List, [], ◌∷◌}
use Prim.Native.Nat.{ℕ, zero, suc, ◌<◌}
use native.Mathlib.Omega.{arith}
use lib.Dec.{eqb}
use borrow.Author.Tests.{eqb-true, eqb-false}
use types.Run.{OneOf}

abbrev pub has : List ℕ → ℕ → Bool
has [] x = false
has (k ∷ ks) x = eqb x k || has ks x

has_one : (ks : List ℕ) (x : ℕ) → has ks x ≡ true → OneOf ks x
has_one [] x e = let z : ◌≡◌ {A = ℕ} 0 1 = cc in absurd (omega arith)
has_one (k ∷ []) x e = by (eqb x k) refl e
  where
    by : (t : Bool) → eqb x k ≡ t → t || false ≡ true → x ≡ k
    by true q h = eqb-true x k q
    by false q h = let z : ◌≡◌ {A = ℕ} 0 1 = cc in absurd (omega arith)
has_one (k ∷ j ∷ ks) x e = by (eqb x k) refl (has_one (j ∷ ks) x) e
  where
    by : (t : Bool) → eqb x k ≡ t → (has (j ∷ ks) x ≡ true → OneOf (j ∷ ks) x) → t || has (j ∷ ks) x ≡ true → OneOf (k ∷ j ∷ ks) x
    by true q again h = inl (eqb-true x k q)
    by false q again h = inr (again h)

-- no arm's keys have x
abbrev pub Missed : List (List ℕ) → ℕ → Type 0 → Type 0
Missed [] x N = N
Missed (ks ∷ kss) x N = Missed kss x (N × (OneOf ks x → ⊥))

abbrev pub any : List (List ℕ) → ℕ → Bool
any [] x = false
any (ks ∷ kss) x = has ks x || any kss x

missed-both : (kss : List (List ℕ)) (x : ℕ) (N : Type 0) → Missed kss x N → N × (any kss x ≡ false)
missed-both [] x N m = (m, refl)
missed-both (ks ∷ kss) x N m = by (missed-both kss x (N × (OneOf ks x → ⊥)) m) (has ks x) refl
  where
    by : (N × (OneOf ks x → ⊥)) × (any kss x ≡ false) → (t : Bool) → has ks x ≡ t → N × (t || any kss x ≡ false)
    by w true e = absurd (w.0.1 (has_one ks x e))
    by w false e = (w.0.0, w.1)

pub missed : (kss : List (List ℕ)) (x : ℕ) → Missed kss x (Unit {0}) → any kss x ≡ false
missed kss x m = (missed-both kss x (Unit {0}) m).1

-- ---- a test that holds of each number below k

abbrev pub below : (ℕ → Bool) → ℕ → Bool
below p zero = true
below p (suc k) = p k && below p k

pub below_at : (p : ℕ → Bool) (k : ℕ) → below p k ≡ true → (n : ℕ) → n < k → p n ≡ true
below_at p zero e n h = absurd (omega arith)
below_at p (suc k) e n h = by (p k) refl (below p k) refl e (below_at p k) (eqb n k) refl
  where
    by : (a : Bool) → p k ≡ a → (b : Bool) → below p k ≡ b → a && b ≡ true → (below p k ≡ true → (n : ℕ) → n < k → p n ≡ true) → (t : Bool) → eqb n k ≡ t → p n ≡ true
    by true u b v w again true q = rw (eqb-true n k q) u
    by true u b v w again false q = again (v ∙ w) n (omega (arith, eqb-false n k q))
    by false u b v w again t q = let z : ◌≡◌ {A = ℕ} 0 1 = cc in absurd (omega arith)
