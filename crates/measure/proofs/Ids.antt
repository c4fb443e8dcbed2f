-- The identities of a message.
use mathlib.Core.Path.{◌≡◌, refl, sym, ap, ap₂, ◌∙◌}
use mathlib.Core.Bool.{Bool, true, false, cond, ◌||◌}
use mathlib.Core.List.{List, ◌∷◌}
use Prim.Native.Nat.{ℕ, zero, suc, ◌+◌, ◌<◌, ◌≤◌}
use native.Mathlib.Omega.{arith}
use native.Mathlib.Numerals.{add-one}
use lib.Dec.{eqb}
use lib.ListN.{length, get_or, set, take}
use lib.Seq.{get_or-set_same, get_or-set_other}
use Rattle.std.specs.Prelude.{Option, Some}
use Rattle.std.specs.List.{fold}
use Rattle.std.proofs.lemmas.List.Sums.{fold_more}
use Rattle.reading.specs.Reading.{Env}
use Rattle.format.specs.Values.{has}
use Rattle.measure.specs.declared.identities.Identities.{Identities}
use Rattle.measure.specs.Identities.{listed, env_of, Begun, Closed}

-- whether a number is among the first n
pub has-listed : (l : List ℕ) (x n : ℕ) → n ≤ length l → fold (λ found y. found || eqb y x) false (take n l) ≡ has x (listed l n)
unfolding has listed
has-listed l x zero h = refl
has-listed l x (suc n) h =
    sym (ap (λ (k : ℕ). fold (λ found y. found || eqb y x) false (take k l)) (add-one n))
    ∙ fold_more (λ found y. found || eqb y x) false l n 0 (omega arith)
    ∙ ap (λ (b : Bool). b || eqb (get_or l n 0) x) (has-listed l x n (omega arith))
    ∙ either (has x (listed l n)) (eqb (get_or l n 0) x)
  where
    either : (a b : Bool) → (a || b) ≡ cond b true a
    either true true = refl
    either true false = refl
    either false true = refl
    either false false = refl

-- a store after the first n, and one more
listed-other : (l : List ℕ) (i v n : ℕ) → n ≤ i → listed (set l i v) n ≡ listed l n
unfolding listed
listed-other l i v zero h = refl
listed-other l i v (suc n) h = ap₂ (λ (x : ℕ) (m : List ℕ). x ∷ m) (get_or-set_other l i n v 0 (λ e. omega arith)) (listed-other l i v n (omega arith))

listed-more : (l : List ℕ) (n x : ℕ) → n < length l → listed (set l n x) (n + 1) ≡ x ∷ listed l n
unfolding listed
listed-more l n x h = ap (listed (set l n x)) (add-one n) ∙ ap₂ (λ (y : ℕ) (m : List ℕ). y ∷ m) (get_or-set_same l n x 0 h) (listed-other l n x n (omega arith))

pub listed-length : (l : List ℕ) (n : ℕ) → length (listed l n) ≡ n
unfolding listed
listed-length l zero = refl
listed-length l (suc n) = ap suc (listed-length l n)

-- ---- an identity x given, and ended

same-env : {a b c d : List ℕ} → a ≡ b → c ≡ d → ◌≡◌ {A = Env} (record { opened = a; ended = c }) (record { opened = b; ended = d })
same-env e f = cc

pub opened : (l after : Identities) {id : Option ℕ} {x : ℕ} → id ≡ Some x → l.given_count < length l.given → after.given ≡ set l.given l.given_count x → after.given_count ≡ l.given_count + 1 → after.ended ≡ l.ended
    → after.ended_count ≡ l.ended_count → Begun l id after
unfolding env_of
opened l after {id} {x} i h a b c d = rw i (record { env_is = same-env (rw (a, b) (listed-more l.given l.given_count x h)) (rw (c, d)); more = b; as_many = d })

pub over : (l after : Identities) {id : Option ℕ} {x : ℕ} → id ≡ Some x → l.ended_count < length l.ended → after.ended ≡ set l.ended l.ended_count x → after.ended_count ≡ l.ended_count + 1 → after.given ≡ l.given
    → after.given_count ≡ l.given_count → Closed l id after
unfolding env_of
over l after {id} {x} i h a b c d = rw i (record { env_is = same-env (rw (c, d)) (rw (a, b) (listed-more l.ended l.ended_count x h)); as_many = d; more = b })
