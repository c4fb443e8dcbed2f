-- Readings of octets that begin with a spelling.
use mathlib.Core.Path.{◌≡◌, refl, sym, ap, subst, ◌∙◌}
use mathlib.Core.List.{List, [], ◌++◌, append_assoc}
use Prim.Native.Nat.{ℕ, ◌+◌}
use lib.ListN.{length, drop}
use lib.Seq.{drop-drop, drop_at}
use Rattle.std.specs.Prelude.{Option, Some, None, Result, Ok, Err}
use Rattle.std.specs.Result.{result_ok}
use Rattle.reading.specs.declared.Refusal.{Refusal}
use Rattle.reading.specs.Reading.{Env, State, Out, got, stop, Reader, stand}
use Rattle.reading.proofs.Sound.{never}
use Rattle.reading.proofs.Does.{Does}
use Rattle.fill.specs.Numbers.{Begins}

pub begins-left : {o : List ℕ} {at : ℕ} (u v : List ℕ) → Begins o at (u ++ v) → Begins o at u
begins-left u v b = record { after = v ++ b.after; begins = b.begins ∙ append_assoc u v b.after }

pub begins-right : {o : List ℕ} {at : ℕ} (u v : List ℕ) → Begins o at (u ++ v) → Begins o (at + length u) v
begins-right {o} {at} u v b = record { after = b.after; begins = sym (drop-drop (length u) at o) ∙ ap (drop (length u)) (b.begins ∙ append_assoc u v b.after) ∙ drop_at u (v ++ b.after) (length u) refl }

pub moved : {o : List ℕ} {at to : ℕ} {u : List ℕ} → to ≡ at → Begins o at u → Begins o to u
moved {o} {u = u} e b = subst (λ (n : ℕ). Begins o n u) (sym e) b

-- what a result was that is taken as an option
pub ok-was : {A E : Type 0} (x : Result A E) {y : Option A} {a : A} → y ≡ result_ok x → y ≡ Some a → x ≡ Ok a
ok-was {A} (Ok b) {a = a} p q = let e : ◌≡◌ {A = Option A} (Some b) (Some a) = sym p ∙ q in cc
ok-was {A} (Err e) {a = a} p q = let n : ◌≡◌ {A = Option A} None (Some a) = sym p ∙ q in cc

pub err-was : {A E : Type 0} (x : Result A E) {y : Option A} → y ≡ result_ok x → y ≡ None → (e : E) × (x ≡ Err e)
err-was {A} (Ok b) p q = let n : ◌≡◌ {A = Option A} (Some b) None = sym p ∙ q in cc
err-was (Err e) p q = (e, refl)

-- what is there, by the case of it
pub some-as : {A : Type 0} {x : Option A} {a b : A} → x ≡ Some a → a ≡ b → x ≡ Some b
some-as q e = q ∙ ap Some e

-- two places that are given with something are one, and so is what is given
module _ {A B : Type 0} {a b : A} {x y : B} (e : ◌≡◌ {A = Option (A × B)} (Some (a, x)) (Some (b, y))) where
  pair-same : ◌≡◌ {A = A × B} (a, x) (b, y)
  pair-same = cc

  pub some-first : a ≡ b
  some-first = ap (λ (p : A × B). p.0) pair-same

  pub some-second : x ≡ y
  some-second = ap (λ (p : A × B). p.1) pair-same

module _ {A B E : Type 0} {a b : A} {x y : B} (e : ◌≡◌ {A = Result (A × B) E} (Ok (a, x)) (Ok (b, y))) where
  same-pair : ◌≡◌ {A = A × B} (a, x) (b, y)
  same-pair = cc

  pub ok-first : a ≡ b
  ok-first = ap (λ (p : A × B). p.0) same-pair

  pub ok-second : x ≡ y
  ok-second = ap (λ (p : A × B). p.1) same-pair

-- no identities: what is read here does not ask for them
abbrev pub unnamed : Env
unnamed = record { opened = []; ended = [] }

placed : {A : Type 0} → Out A → ℕ
placed (got a s) = s.at
placed (stop r) = 0

pub same_place : {A : Type 0} {a b : A} {s s' : State} → ◌≡◌ {A = Out A} (got a s) (got b s') → s.at ≡ s'.at
unfolding placed
same_place e = ap placed e

pub same-value : {A : Type 0} {a b : A} {s s' : State} → ◌≡◌ {A = Out A} (got a s) (got b s') → a ≡ b
same-value e = cc

module _ {A : Type 0} {p : Reader A} {u : List ℕ} {a : A} {e : Env} {o : List ℕ} {at : ℕ} (does : Does p unnamed u a e) (b : Begins o at u) where
  pub read_is : p (stand o at unnamed) ≡ got a (record { at = at + length u; left = b.after; env = e })
  unfolding stand
  read_is = rw b.begins (does.does at b.after)

  pub found : {x : A} {next : ℕ} → got x (stand o next unnamed) ≡ p (stand o at unnamed) → (x ≡ a) × (next ≡ at + length u)
  unfolding stand
  found h = (same-value (h ∙ read_is), same_place (h ∙ read_is))

  pub not-refused : {r : Refusal} → stop r ≡ p (stand o at unnamed) → ⊥
  not-refused h = never (h ∙ read_is)
