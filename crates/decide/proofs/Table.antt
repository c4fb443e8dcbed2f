-- The types by their classes.
use mathlib.Core.Path.{◌≡◌, refl, sym, ap, subst, ◌∙◌}
use mathlib.Core.Bool.{Bool, true, false, ◌&&◌, ◌||◌, not}
use mathlib.Core.List.{List, [], ◌∷◌, map}
use mathlib.Core.Logic.{◌⊎◌, inl, inr}
use Prim.Native.Nat.{ℕ, zero, suc, ◌+◌, ◌-◌, ◌<◌, ◌≤◌}
use native.Mathlib.Omega.{arith}
use lib.Dec.{ltb, lit<}
use lib.IntN.{ℤ, pos, negsuc}
use lib.Signed.{lt_z}
use borrow.Author.Tests.{ltb-true, ltb-false, lt-ltb, le-ltb, not-true}
use mir.Syntax.{w32}
use mir.Val.{SFits, to_z, of_z}
use Rattle.integer.proofs.Signs.{held}
use Rattle.format.specs.Types.{kind_of}
use Rattle.decide.specs.declared.Class.{Class}
use Rattle.decide.specs.declared.Class.TheVariants.{Refused, Small, Holder}
use Rattle.decide.specs.declared.Inside.TheVariants.{User}
use Rattle.decide.specs.Classes.{Is, may_be_element, least_of, elementary, ClassOf}
use Rattle.decide.proofs.Keys.{any, below, below_at, Missed, missed}

pub clash : {A : Type 0} {t : Bool} → t ≡ true → t ≡ false → A
clash e f = let z : ◌≡◌ {A = ℕ} 0 1 = cc in absurd (omega arith)

-- ---- the keys of a `match` on a type, as the code holds it

module _ {t : ℤ} (f : SFits w32 t) where
  key : {k : ℕ} → of_z w32 t ≡ k → t ≡ to_z w32 k
  key e = sym (held f) ∙ ap (to_z w32) e

  -- a class known at a key
  pub is_at : {r : Class} {k : ℕ} → of_z w32 t ≡ k → ClassOf (to_z w32 k) r → ClassOf t r
  is_at {r} e h = subst (λ (z : ℤ). ClassOf z r) (sym (key e)) h

  -- at one of two keys
  pub is-either : {r : Class} {k j : ℕ} → (of_z w32 t ≡ k) ⊎ (of_z w32 t ≡ j) → ClassOf (to_z w32 k) r → ClassOf (to_z w32 j) r → ClassOf t r
  is-either (inl e) h g = is_at e h
  is-either (inr e) h g = is_at e g

-- a class of element types, and another
pub as-element : {t : ℤ} {r : Class} → Is r t → may_be_element r ≡ elementary t → 0 < least_of r → ClassOf t r
as-element i s l = record { is = i; element = s; least = λ _. l }

pub no-element : {t : ℤ} {r : Class} → Is r t → may_be_element r ≡ false → false ≡ elementary t → ClassOf t r
no-element i n s = record { is = i; element = n ∙ s; least = λ e. clash e n }

refused : {t : ℤ} → (kind_of t).carried ≡ false → ClassOf t Refused
refused e = no-element e refl (rw e)

-- as a call made it
pub made : {t : ℤ} {r q : Class} → r ≡ q → ClassOf t q → ClassOf t r
made {t} e h = subst (ClassOf t) (sym e) h

-- ---- the ranges

-- below -64 nothing is known
unknown : (n : ℕ) → 64 ≤ n → (kind_of (negsuc n)).carried ≡ false
unfolding kind_of
unknown n h = rw (le-ltb n 40 (omega arith), le-ltb n 64 h)

pub is_below : (t : ℤ) → lt_z t (negsuc 63) ≡ true → ClassOf t Refused
is_below (pos n) h = clash h refl
is_below (negsuc n) h = refused (unknown n (omega (arith, ltb-true 63 n h)))

-- -33 to -64: eight of the table, and the integers
some : (m : ℕ) → m < 8 → Is Small (negsuc (32 + m))
unfolding kind_of
some zero h = (_, _, refl)
some (suc zero) h = (_, _, refl)
some (suc (suc zero)) h = (_, _, refl)
some (suc (suc (suc zero))) h = (_, _, refl)
some (suc (suc (suc (suc zero)))) h = (_, _, refl)
some (suc (suc (suc (suc (suc zero))))) h = (_, _, refl)
some (suc (suc (suc (suc (suc (suc zero)))))) h = (_, _, refl)
some (suc (suc (suc (suc (suc (suc (suc zero))))))) h = (_, _, refl)
some (suc (suc (suc (suc (suc (suc (suc (suc m)))))))) h = absurd (omega arith)

small : (n : ℕ) → 32 ≤ n → n < 64 → Is Small (negsuc n)
unfolding kind_of
small n h g = by (ltb n 40) refl
  where
    by : (b : Bool) → ltb n 40 ≡ b → Is Small (negsuc n)
    by true e = let p = ltb-true n 40 e in let d : n ≡ 32 + (n - 32) = omega arith in rw d (some (n - 32) (omega arith))
    by false e = rw (le-ltb n 40 (ltb-false n 40 e), lt-ltb n 64 g) (_, _, refl)

too-low : (n : ℕ) → 30 ≤ n → false ≡ elementary (negsuc n)
too-low n h = rw (le-ltb n 30 h) (by (kind_of (negsuc n)).carried)
  where
    by : (a : Bool) → false ≡ a && false
    by true = refl
    by false = refl

pub is-small : (t : ℤ) → lt_z t (negsuc 63) ≡ false → lt_z t (negsuc 31) ≡ true → ClassOf t Small
is-small (pos n) h g = clash g refl
is-small (negsuc n) h g = let p = ltb-false 63 n h in let q = ltb-true 31 n g in no-element (small n (omega arith) (omega arith)) refl (too-low n (omega arith))

-- the keys between -1 and -32, by n of the type -1 - n
abbrev keys : List (List ℕ)
keys = map (map (λ n. of_z w32 (negsuc n)))
    ((0 ∷ []) ∷ (10 ∷ 1 ∷ []) ∷ (2 ∷ []) ∷ (4 ∷ []) ∷ (5 ∷ []) ∷ (11 ∷ []) ∷ (12 ∷ []) ∷ (13 ∷ []) ∷ (14 ∷ []) ∷ (15 ∷ []) ∷ (17 ∷ []) ∷ (19 ∷ [])
    ∷ (23 ∷ 21 ∷ []) ∷ (24 ∷ 22 ∷ []) ∷ (25 ∷ []) ∷ (26 ∷ []) ∷ (27 ∷ []) ∷ (28 ∷ []) ∷ (29 ∷ []) ∷ (30 ∷ []) ∷ (31 ∷ []) ∷ [])

-- and the others between them are not carried: one test over all
listed : ℕ → Bool
listed n = any keys (of_z w32 (negsuc n)) || not (kind_of (negsuc n)).carried

all_listed : below listed 32 ≡ true
unfolding kind_of listed
all_listed = refl

pub is-rest : (t : ℤ) → lt_z t (negsuc 31) ≡ false → lt_z t (negsuc 2) ≡ true → Missed keys (of_z w32 t) (Unit {0}) → ClassOf t Refused
unfolding listed
is-rest (pos n) h g m = clash g refl
is-rest (negsuc n) h g m =
    refused
    (by (any keys (of_z w32 (negsuc n))) (kind_of (negsuc n)).carried (missed keys (of_z w32 (negsuc n)) m) (below_at listed 32 all_listed n (omega (arith, ltb-false 31 n h))))
  where
    by : (a c : Bool) → a ≡ false → a || not c ≡ true → c ≡ false
    by true c e t = clash refl e
    by false c e t = not-true c t

-- -1 to -3 are keys, so what is left from -3 up is a user type
pub is-user : (t : ℤ) → lt_z t (negsuc 2) ≡ false → Missed keys (of_z w32 t) (Unit {0}) → ClassOf t (Holder (record { first = false; second = false; inside = User }))
unfolding kind_of
is-user (pos n) h m = as-element refl refl (lit< tt)
is-user (negsuc n) h m = clash (below_at (λ k. any keys (of_z w32 (negsuc k))) 3 refl n (omega (arith, ltb-false 2 n h))) (missed keys (of_z w32 (negsuc n)) m)
