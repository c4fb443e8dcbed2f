-- A logic of readings, second judgement: nothing else is read. `Only p u a`: where octets begin with u and p accepts, it gives a and takes just u.
use mathlib.Core.Path.{◌≡◌, refl, sym, ap, ◌∙◌}
use mathlib.Core.Bool.{Bool, true, false}
use mathlib.Core.List.{List, [], ◌∷◌, ◌++◌, append_assoc}
use Prim.Native.Nat.{ℕ}
use native.Mathlib.Omega.{arith}
use Rattle.reading.specs.Reading.{Env, State, Out, got, stop, Reader, follow, ◌>>=◌, return, refuse, require, either, here, names, rename, octet, octet_of}
use Rattle.reading.proofs.Sound.{never}

pub record Only {A : Type 0} (p : Reader A) (u : List ℕ) (a : A) : Type 0 where
  pub only : (s : State) (r : List ℕ) → s.left ≡ u ++ r → (b : A) (s' : State) → p s ≡ got b s' → (b ≡ a) × (s'.left ≡ r)

module _ {A B : Type 0} {p : Reader A} {u v : List ℕ} {a : A} {b : B} where
  pub o-bind : (f : A → Reader B) → Only p u a → Only (f a) v b → Only (p >>= f) (u ++ v) b
  unfolding ◌>>=◌
  o-bind f h k = record { only = λ s r l c s₂ e. by s r l (p s) refl c s₂ e }
    where
      by : (s : State) (r : List ℕ) → s.left ≡ (u ++ v) ++ r → (o : Out A) → p s ≡ o → (c : B) (s₂ : State) → follow o f ≡ got c s₂ → (c ≡ b) × (s₂.left ≡ r)
      by s r l (stop x) e c s₂ z = absurd (never z)
      by s r l (got a' s₁) e c s₂ z =
          let w = h.only s (v ++ r) (l ∙ append_assoc u v r) a' s₁ e in
          k.only s₁ r w.1 c s₂ (rw w.0 at z)

module _ {A : Type 0} {u : List ℕ} {a : A} where
  pub o-stop : (n p : ℕ) → Only (refuse n p) u a
  unfolding refuse
  o-stop n p = record { only = λ s r l b s' e. absurd (never e) }

  pub o-either : (t : Bool) (p q : Reader A) → (t ≡ true → Only p u a) → (t ≡ false → Only q u a) → Only (either t p q) u a
  unfolding either
  o-either true p q h k = h refl
  o-either false p q h k = k refl

  pub o-here : (f : ℕ → Reader A) → ((n : ℕ) → Only (f n) u a) → Only (here >>= f) u a
  unfolding ◌>>=◌ here
  o-here f h = record { only = λ s r l b s' e. (h s.at).only s r l b s' e }

  pub o-names : (f : Env → Reader A) → ((e : Env) → Only (f e) u a) → Only (names >>= f) u a
  unfolding ◌>>=◌ names
  o-names f h = record { only = λ s r l b s' e. (h s.env).only s r l b s' e }

  pub o-require : (t : Bool) (n p : ℕ) (f : Unit {0} → Reader A) → (t ≡ true → Only (f tt) u a) → Only (require t n p >>= f) u a
  unfolding ◌>>=◌ require
  o-require true n p f h = record { only = λ s r l b s' e. (h refl).only s r l b s' e }
  o-require false n p f h = record { only = λ s r l b s' e. absurd (never e) }

  pub o-alike : {p q : Reader A} → ((x : State) → q x ≡ p x) → Only p u a → Only q u a
  o-alike g h = record { only = λ s r l b s' e. h.only s r l b s' (sym (g s) ∙ e) }

  pub o-octet : (x : ℕ) (f : ℕ → Reader A) → Only (f x) u a → Only (octet >>= f) (x ∷ u) a
  unfolding octet ◌>>=◌
  o-octet x f h = record { only = λ s r l b s' e. by s r s.left l b s' e }
    where
      by : (s : State) (r m : List ℕ) → m ≡ x ∷ (u ++ r) → (b : A) (s' : State) → follow (octet_of s m) f ≡ got b s' → (b ≡ a) × (s'.left ≡ r)
      by s r [] l b s' e = let z : ◌≡◌ {A = ℕ} 0 1 = cc in absurd (omega arith)
      by s r (y ∷ m) l b s' e =
          let xy : y ≡ x = cc in
          let mm : m ≡ u ++ r = cc in
          h.only _ r mm b s' (rw xy at e)

pub o-ret : {A : Type 0} (a : A) → Only (return a) [] a
unfolding return
o-ret {A} a = record { only = λ s r l b s' e. by s r l b s' e }
  where
    by : (s : State) (r : List ℕ) → s.left ≡ r → (b : A) (s' : State) → got a s ≡ got b s' → (b ≡ a) × (s'.left ≡ r)
    by s r l b s' e = let ab : b ≡ a = cc in let ss : s' ≡ s = cc in (ab, rw ss l)

-- the octets, or what was read, said another way
pub o-as : {A : Type 0} {p : Reader A} {u u' : List ℕ} {a a' : A} → u ≡ u' → a ≡ a' → Only p u a → Only p u' a'
o-as {p} e g h = record { only = λ s r l b s' q. let w = h.only s r (l ∙ ap (λ (x : List ℕ). x ++ r) (sym e)) b s' q in (w.0 ∙ g, w.1) }

pub o-rename : (n : Env) → Only (rename n) [] tt
unfolding rename
o-rename n = record { only = λ s r l b s' e. by s r l b s' e }
  where
    by : (s : State) (r : List ℕ) → s.left ≡ r → (b : Unit {0}) (s' : State) → got tt (record { at = s.at; left = s.left; env = n }) ≡ got b s' → (b ≡ tt) × (s'.left ≡ r)
    by s r l b s' e = let ss : s' ≡ record { at = s.at; left = s.left; env = n } = cc in (refl, rw ss l)

pub o-must : (t : Bool) (n p : ℕ) → Only (require t n p) [] tt
unfolding require refuse return
o-must true n p = o-alike (λ s. refl) (o-ret tt)
o-must false n p = o-alike (λ s. refl) (o-stop n p)
