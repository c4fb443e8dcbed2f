-- A judgement on readings: `Listed among p`, where p refuses, its number is among some. One rule for each step that a reading can have.
use mathlib.Core.Path.{◌≡◌, refl, sym, subst}
use mathlib.Core.Bool.{Bool, true, false}
use mathlib.Core.List.{List, [], ◌∷◌}
use Prim.Native.Nat.{ℕ}
use Rattle.reading.specs.declared.Refusal.{Refusal}
use Rattle.reading.specs.Reading.{number_of, reason_of, Env, State, Out, got, stop, Reader, follow, refusal, ◌>>=◌, return, refuse, require, either, here, ahead, names, rename, octet, octet_of}
use Rattle.reading.proofs.Sound.{never}

pub record Listed (among : ℕ → Bool) {A : Type 0} (p : Reader A) : Type 0 where
  pub listed : (s : State) (r : Refusal) → p s ≡ stop r → among (number_of r.reason) ≡ true

-- among more numbers
pub l-more : {among more : ℕ → Bool} {A : Type 0} {p : Reader A} → ((n : ℕ) → among n ≡ true → more n ≡ true) → Listed among p → Listed more p
l-more k h = record { listed = λ s r e. k (number_of r.reason) (h.listed s r e) }

stopped : (among : ℕ → Bool) {A : Type 0} (n p : ℕ) (r : Refusal) → among (number_of (reason_of n)) ≡ true → ◌≡◌ {A = Out A} (stop (refusal n p)) (stop r) → among (number_of r.reason) ≡ true
stopped among n p r g e = let q : refusal n p ≡ r = cc in subst (λ (x : Refusal). among (number_of x.reason) ≡ true) q g

module _ {among : ℕ → Bool} where
  pub l-bind : {A B : Type 0} {p : Reader A} {f : A → Reader B} → Listed among p → ((a : A) → Listed among (f a)) → Listed among (p >>= f)
  unfolding ◌>>=◌
  l-bind {A} {B} {p} {f} h k = record { listed = λ s r e. by s (p s) refl r e }
    where
      by : (s : State) (o : Out A) → p s ≡ o → (r : Refusal) → follow o f ≡ stop r → among (number_of r.reason) ≡ true
      by s (stop x) e r z = let q : x ≡ r = cc in subst (λ (y : Refusal). among (number_of y.reason) ≡ true) q (h.listed s x e)
      by s (got a s₁) e r z = (k a).listed s₁ r z

  pub l-ret : {A : Type 0} (a : A) → Listed among (return a)
  unfolding return
  l-ret a = record { listed = λ s r e. absurd (never (sym e)) }

  pub l-refuse : {A : Type 0} (n p : ℕ) → among (number_of (reason_of n)) ≡ true → Listed among {A = A} (refuse n p)
  unfolding refuse
  l-refuse n p g = record { listed = λ s r e. stopped among n p r g e }

  pub l-either : {A : Type 0} (t : Bool) {p q : Reader A} → Listed among p → Listed among q → Listed among (either t p q)
  unfolding either
  l-either true h k = h
  l-either false h k = k

  pub l-require : (t : Bool) (n p : ℕ) → among (number_of (reason_of n)) ≡ true → Listed among (require t n p)
  unfolding require
  l-require true n p g = record { listed = λ s r e. absurd (never (sym e)) }
  l-require false n p g = record { listed = λ s r e. stopped among n p r g e }

  pub l-octet : among 1 ≡ true → Listed among octet
  unfolding octet
  l-octet g = record { listed = λ s r e. by s s.left r e }
    where
      by : (s : State) (l : List ℕ) (r : Refusal) → octet_of s l ≡ stop r → among (number_of r.reason) ≡ true
      by s [] r e = stopped among 1 s.at r g e
      by s (b ∷ l) r e = absurd (never (sym e))

  pub l-here : Listed among here
  unfolding here
  l-here = record { listed = λ s r e. absurd (never (sym e)) }

  pub l-ahead : Listed among ahead
  unfolding ahead
  l-ahead = record { listed = λ s r e. absurd (never (sym e)) }

  pub l-names : Listed among names
  unfolding names
  l-names = record { listed = λ s r e. absurd (never (sym e)) }

  pub l-rename : (n : Env) → Listed among (rename n)
  unfolding rename
  l-rename n = record { listed = λ s r e. absurd (never (sym e)) }
