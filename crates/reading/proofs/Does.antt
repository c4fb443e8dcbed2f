-- A logic of readings, third judgement: it is read. `Does p e u a e'`: with the identities e, from octets that begin with u, p gives a, takes u and leaves e'.
use mathlib.Core.Path.{◌≡◌, refl, sym, ap, ◌∙◌, subst₃}
use mathlib.Core.Bool.{Bool, true, false}
use mathlib.Core.List.{List, [], ◌∷◌, ◌++◌, append_assoc}
use Prim.Native.Nat.{ℕ, ◌+◌}
use native.Mathlib.Omega.{arith}
use native.Mathlib.Nat.{add-zero}
use lib.ListN.{length, length-append}
use Rattle.reading.specs.Reading.{Env, State, got, Reader, ◌>>=◌, return, require, either, here, names, rename, octet}

pub record Does {A : Type 0} (p : Reader A) (e : Env) (u : List ℕ) (a : A) (e' : Env) : Type 0 where
  pub does : (at : ℕ) (r : List ℕ) → p (record { at = at; left = u ++ r; env = e }) ≡ got a (record { at = at + length u; left = r; env = e' })

pub d-bind : {A B : Type 0} {p : Reader A} {u v : List ℕ} {a : A} {b : B} {e e₁ e₂ : Env} (f : A → Reader B) → Does p e u a e₁ → Does (f a) e₁ v b e₂ → Does (p >>= f) e (u ++ v) b e₂
unfolding ◌>>=◌
d-bind {u} {v} {b} {e₂} f h k = record { does = λ at r. rw (append_assoc u v r, h.does at (v ++ r), ◌>>=◌) (k.does (at + length u) r ∙ ap (λ (n : ℕ). got b (record { at = n; left = r; env = e₂ })) (rw (length-append u v) (omega arith))) }

module _ {A : Type 0} {u : List ℕ} {a : A} {e e' : Env} where
  pub d-here : (f : ℕ → Reader A) → ((n : ℕ) → Does (f n) e u a e') → Does (here >>= f) e u a e'
  unfolding ◌>>=◌ here
  d-here f h = record { does = λ at r. (h at).does at r }

  pub d-names : (f : Env → Reader A) → Does (f e) e u a e' → Does (names >>= f) e u a e'
  unfolding ◌>>=◌ names
  d-names f h = record { does = h.does }

  pub d-require : (t : Bool) (n p : ℕ) (f : Unit {0} → Reader A) → t ≡ true → Does (f tt) e u a e' → Does (require t n p >>= f) e u a e'
  unfolding ◌>>=◌ require
  d-require true n p f q h = record { does = h.does }
  d-require false n p f q h = let z : ◌≡◌ {A = ℕ} 0 1 = cc in absurd (omega arith)

  pub d-alike : {p q : Reader A} → ((x : State) → q x ≡ p x) → Does p e u a e' → Does q e u a e'
  d-alike g h = record { does = λ at r. g _ ∙ h.does at r }

  pub d-octet : (x : ℕ) (f : ℕ → Reader A) → Does (f x) e u a e' → Does (octet >>= f) e (x ∷ u) a e'
  unfolding ◌>>=◌ octet
  d-octet x f h = record { does = λ at r. h.does (at + 1) r ∙ ap (λ (n : ℕ). got a (record { at = n; left = r; env = e' })) (omega arith) }

pub d-ret : {A : Type 0} {e : Env} (a : A) → Does (return a) e [] a e
unfolding return
d-ret {e} a = record { does = λ at r. ap (λ (n : ℕ). got a (record { at = n; left = r; env = e })) (sym (add-zero at)) }

pub d-rename : {e : Env} (n : Env) → Does (rename n) e [] tt n
unfolding rename
d-rename n = record { does = λ at r. ap (λ (m : ℕ). got tt (record { at = m; left = r; env = n })) (sym (add-zero at)) }

pub d-must : {e : Env} (t : Bool) (n p : ℕ) → t ≡ true → Does (require t n p) e [] tt e
unfolding require return
d-must true n p q = d-alike (λ s. refl) (d-ret tt)
d-must false n p q = let z : ◌≡◌ {A = ℕ} 0 1 = cc in absurd (omega arith)

pub d-as : {A : Type 0} {p : Reader A} {u u' : List ℕ} {a a' : A} {e e' f : Env} → u ≡ u' → a ≡ a' → e' ≡ f → Does p e u a e' → Does p e u' a' f
d-as {A} {p} {e} h g k d = subst₃ (λ (u : List ℕ) (a : A) (f : Env). Does p e u a f) h g k d

pub d-either-true : {A : Type 0} {u : List ℕ} {a : A} {e e' : Env} (t : Bool) (p q : Reader A) → t ≡ true → Does p e u a e' → Does (either t p q) e u a e'
unfolding either
d-either-true true p q z h = h
d-either-true false p q z h = let z : ◌≡◌ {A = ℕ} 0 1 = cc in absurd (omega arith)

pub d-either-false : {A : Type 0} {u : List ℕ} {a : A} {e e' : Env} (t : Bool) (p q : Reader A) → t ≡ false → Does q e u a e' → Does (either t p q) e u a e'
unfolding either
d-either-false true p q z h = let z : ◌≡◌ {A = ℕ} 0 1 = cc in absurd (omega arith)
d-either-false false p q z h = h
