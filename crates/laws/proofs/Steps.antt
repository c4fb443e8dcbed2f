-- What the steps of a block did, and what an entry did, where they ended well.
use mathlib.Core.Path.{◌≡◌, refl}
use mathlib.Core.Bool.{Bool, true, false}
use mathlib.Core.List.{List, [], ◌∷◌, ◌++◌}
use Prim.Native.Nat.{ℕ, zero, suc, ◌+◌, ◌≤◌}
use native.Mathlib.Omega.{arith}
use lib.ListN.{length}
use lib.Dec.{leb}
use borrow.Author.Tests.{leb-true, le-leb}
use Rattle.reading.specs.declared.Refusal.{Refusal}
use Rattle.reading.specs.Reading.{State, Out, got, stop, Reader, follow, ◌>>=◌, require, here, ahead, start}
use Rattle.reading.proofs.Sound.{Octets, octets-rest, never, Sound}
use Rattle.format.specs.Message.{Answer, ok, refused, unless, answer, most_octets, reading}

-- a first step and those after it
pub record Steps {A B : Type 0} (p : Reader A) (f : A → Reader B) (s : State) (b : B) (s' : State) : Type 0 where
  pub result : A
  pub state : State
  pub did : p s ≡ got result state
  pub then : f result state ≡ got b s'

pub steps : {A B : Type 0} (p : Reader A) (f : A → Reader B) (s : State) (b : B) (s' : State) → (p >>= f) s ≡ got b s' → Steps p f s b s'
unfolding ◌>>=◌
steps {A} {B} p f s b s' e = by (p s) refl e
  where
    by : (o : Out A) → p s ≡ o → follow o f ≡ got b s' → Steps p f s b s'
    by (got a s₁) d z = record { result = a; state = s₁; did = d; then = z }
    by (stop r) d z = absurd (never z)

pub required : {B : Type 0} (t : Bool) (n p : ℕ) (f : Unit {0} → Reader B) (s : State) (b : B) (s' : State) → (require t n p >>= f) s ≡ got b s' → (t ≡ true) × (f tt s ≡ got b s')
unfolding ◌>>=◌ require
required true n p f s b s' e = (refl, e)
required false n p f s b s' e = absurd (never e)

pub same-result : {A : Type 0} {a b : A} {s s' : State} → ◌≡◌ {A = Out A} (got a s) (got b s') → a ≡ b
same-result e = cc

pub past-here : {B : Type 0} (f : ℕ → Reader B) (s : State) (b : B) (s' : State) → (here >>= f) s ≡ got b s' → f s.at s ≡ got b s'
unfolding ◌>>=◌ here
past-here f s b s' e = e

pub past-ahead : {B : Type 0} (f : List ℕ → Reader B) (s : State) (b : B) (s' : State) → (ahead >>= f) s ≡ got b s' → f s.left s ≡ got b s'
unfolding ◌>>=◌ ahead
past-ahead f s b s' e = e

-- a plain thing that was read
pub record Took {A : Type 0} (w : A → List ℕ) (P : A → Type 0) (s : State) (a : A) (s' : State) : Type 0 where
  pub split : s.left ≡ w a ++ s'.left
  pub moved : s'.at ≡ s.at + length (w a)
  pub has : P a
  pub env_same : s'.env ≡ s.env
  pub rest_octets : Octets s'.left

pub took : {A : Type 0} {p : Reader A} {w : A → List ℕ} {P : A → Type 0} → ((s : State) → Sound p s (λ a s' u. (u ≡ w a) × P a × (s'.env ≡ s.env))) → (s : State) → Octets s.left → (a : A) (s' : State) → p s ≡ got a s' → Took w P s a s'
took {A} {p} {w} {P} leaf s x a s' e =
    let t = (leaf s).sound x a s' e in
    by t.0 t.2.0 t.1.split t.1.moved t.2.1 t.2.2
  where
    by : (u : List ℕ) → u ≡ w a → s.left ≡ u ++ s'.left → s'.at ≡ s.at + length u → P a → s'.env ≡ s.env → Took w P s a s'
    by u q d m h v = record { split = rw (← q) d; moved = rw (← q) m; has = h; env_same = v; rest_octets = octets-rest u s'.left s.left d x }

pub not-ok : {A : Type 0} {r : Refusal} {a : A} → ◌≡◌ {A = Answer A} (refused r) (ok a) → ⊥
not-ok e = let z : ◌≡◌ {A = ℕ} 0 1 = cc in omega arith

-- an entry that reads
pub record Reads {A : Type 0} (p : Reader A) (o : List ℕ) (a : A) : Type 0 where
  pub short : length o ≤ most_octets
  pub state : State
  pub read : p (start o) ≡ got a state

pub reads : {A : Type 0} (p : Reader A) (o : List ℕ) (a : A) → reading p o ≡ ok a → Reads p o a
reads {A} p o a e = by (leb (length o) most_octets) refl (p (start o)) refl e
  where
    by : (t : Bool) → leb (length o) most_octets ≡ t → (x : Out A) → p (start o) ≡ x → unless t 2 (answer x) ≡ ok a → Reads p o a
    by true h (got b s) d z = let ba : b ≡ a = cc in record { short = leb-true (length o) most_octets h; state = s; read = rw (← ba) d }
    by true h (stop r) d z = absurd (not-ok z)
    by false h x d z = absurd (not-ok z)

pub reads_so : {A : Type 0} (p : Reader A) (o : List ℕ) (a : A) → Reads p o a → reading p o ≡ ok a
reads_so p o a r = rw (le-leb (length o) most_octets r.short, r.read)

pub octets-part : (u l : List ℕ) → Octets (u ++ l) → Octets u
octets-part [] l o i = omega arith
octets-part (b ∷ u) l o zero = o 0
octets-part (b ∷ u) l o (suc i) = octets-part u l (λ j. o (suc j)) i
