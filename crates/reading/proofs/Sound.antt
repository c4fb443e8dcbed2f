-- A logic of readings, first judgement: what is read. `Sound p s Q`: where p accepts from s, it takes some octets u off the front, would take
-- them again whatever follows, and Q holds of the result, the state after and u. One rule for each step that a reading can have.
use mathlib.Core.Path.{◌≡◌, refl, sym, ap, ◌∙◌, subst₂}
use mathlib.Core.Bool.{Bool, true, false}
use mathlib.Core.List.{List, [], ◌∷◌, ◌++◌, append_assoc}
use Prim.Native.Nat.{ℕ, ◌+◌, ◌<◌}
use native.Mathlib.Omega.{arith}
use lib.ListN.{length, length-append, get_or}
use lib.Seq.{get_or-append-add}
use Rattle.reading.specs.declared.Refusal.{Refusal}
use Rattle.reading.specs.Reading.{Env, State, Out, got, stop, Reader, follow, ◌>>=◌, return, refuse, require, either, here, names, rename, octet, octet_of}

-- the state with other octets left
abbrev pub on : State → List ℕ → State
on s l = record { at = s.at; left = l; env = s.env }

-- every element is an octet
abbrev pub Octets : List ℕ → Type 0
Octets l = (i : ℕ) → get_or l i 0 < 256

pub octets-rest : (u l m : List ℕ) → m ≡ u ++ l → Octets m → Octets l
octets-rest u l m e o i = rw (← get_or-append-add u l i 0, ← e) (o (length u + i))

-- a refusal is no result
pub never : {A : Type 0} {r : Refusal} {a : A} {s : State} → ◌≡◌ {A = Out A} (stop r) (got a s) → ⊥
never e = let x : ◌≡◌ {A = ℕ} 0 1 = cc in omega arith

pub record Takes {A : Type 0} (p : Reader A) (s : State) (a : A) (s' : State) (u : List ℕ) : Type 0 where
  pub split : s.left ≡ u ++ s'.left
  pub moved : s'.at ≡ s.at + length u
  pub again : (r : List ℕ) → p (on s (u ++ r)) ≡ got a (on s' r)

pub record Sound {A : Type 0} (p : Reader A) (s : State) (Q : A → State → List ℕ → Type 0) : Type 0 where
  pub sound : Octets s.left → (a : A) (s' : State) → p s ≡ got a s' → (u : List ℕ) × Takes p s a s' u × Q a s' u

module _ {A B : Type 0} {p : Reader A} {f : A → Reader B} {s : State} {R : A → State → List ℕ → Type 0} {Q : B → State → List ℕ → Type 0} where
  pub s-bind : Sound p s R → ((a : A) (s₁ : State) (u : List ℕ) → R a s₁ u → Sound (f a) s₁ (λ b s₂ v. Q b s₂ (u ++ v))) → Sound (p >>= f) s Q
  unfolding ◌>>=◌
  s-bind h k = record { sound = λ o b s₂ e. by o (p s) refl b s₂ e }
    where
      by : Octets s.left → (o : Out A) → p s ≡ o → (b : B) (s₂ : State) → follow o f ≡ got b s₂ → (u : List ℕ) × Takes (p >>= f) s b s₂ u × Q b s₂ u
      by x (stop r) e b s₂ z = absurd (never z)
      by x (got a s₁) e b s₂ z =
          let t = h.sound x a s₁ e in
          let w = (k a s₁ t.0 t.2).sound (octets-rest t.0 s₁.left s.left t.1.split x) b s₂ z in (
            t.0 ++ w.0,
            record {
              split = t.1.split ∙ ap (λ (l : List ℕ). t.0 ++ l) w.1.split ∙ sym (append_assoc t.0 w.0 s₂.left);
              moved = omega (arith, t.1.moved, w.1.moved, length-append t.0 w.0);
              again = λ r. rw (append_assoc t.0 w.0 r, t.1.again (w.0 ++ r), ◌>>=◌) (w.1.again r);
            },
            w.2,
          )

module _ {A : Type 0} {s : State} {Q : A → State → List ℕ → Type 0} where
  pub s-stop : (n p : ℕ) → Sound (refuse n p) s Q
  unfolding refuse
  s-stop n p = record { sound = λ o b s' e. absurd (never e) }

  pub s-either : (t : Bool) (p q : Reader A) → (t ≡ true → Sound p s Q) → (t ≡ false → Sound q s Q) → Sound (either t p q) s Q
  unfolding either
  s-either true p q h k = h refl
  s-either false p q h k = k refl

  -- where Q is said another way
  pub s-weaken : {R : A → State → List ℕ → Type 0} {p : Reader A} → ((a : A) (s' : State) (u : List ℕ) → R a s' u → Q a s' u) → Sound p s R → Sound p s Q
  s-weaken k h = record { sound = λ o a s' e. let t = h.sound o a s' e in (t.0, t.1, k a s' t.0 t.2) }

-- readers that do the same
pub s-alike : {A : Type 0} {s : State} {Q : A → State → List ℕ → Type 0} {p q : Reader A} → ((x : State) → q x ≡ p x) → Sound p s Q → Sound q s Q
s-alike {s} g h = record { sound = λ o a s' e. let t = h.sound o a s' (sym (g s) ∙ e) in (t.0, record { split = t.1.split; moved = t.1.moved; again = λ r. g (on s (t.0 ++ r)) ∙ t.1.again r }, t.2) }

-- a step that takes no octets, whatever they are: Q of what it goes on with is Q of the whole
s-still : {A : Type 0} {s : State} {Q : A → State → List ℕ → Type 0} {p q : Reader A} → ((l : List ℕ) → q (on s l) ≡ p (on s l)) → Sound p s Q → Sound q s Q
s-still {s} g h = record { sound = λ o a s' e. let t = h.sound o a s' (sym (g s.left) ∙ e) in (t.0, record { split = t.1.split; moved = t.1.moved; again = λ r. g (t.0 ++ r) ∙ t.1.again r }, t.2) }

module _ {B : Type 0} {s : State} {Q : B → State → List ℕ → Type 0} where
  pub s-here : (f : ℕ → Reader B) → Sound (f s.at) s Q → Sound (here >>= f) s Q
  unfolding ◌>>=◌ here
  s-here f h = s-still (λ l. refl) h

  pub s-names : (f : Env → Reader B) → Sound (f s.env) s Q → Sound (names >>= f) s Q
  unfolding ◌>>=◌ names
  s-names f h = s-still (λ l. refl) h

  pub s-require : (t : Bool) (n p : ℕ) (f : Unit {0} → Reader B) → (t ≡ true → Sound (f tt) s Q) → Sound (require t n p >>= f) s Q
  unfolding ◌>>=◌ require
  s-require true n p f h = s-still (λ l. refl) (h refl)
  s-require false n p f h = record { sound = λ o b s' e. absurd (never e) }

pub regroup : {A B C : Type 0} (p : Reader A) (g : A → Reader B) (f : B → Reader C) (x : State) → ((p >>= g) >>= f) x ≡ (p >>= λ a. g a >>= f) x
unfolding ◌>>=◌
regroup {A} {B} {C} p g f x = by (p x)
  where
    by : (o : Out A) → follow (follow o g) f ≡ follow o (λ a s. follow (g a s) f)
    by (got a s) = refl
    by (stop r) = refl

-- a last step that takes no octets
pub s-quiet : {A : Type 0} {s : State} {Q : A → State → List ℕ → Type 0} (p : Reader A) (a : A) (n : Env)
    → ((l : List ℕ) → p (on s l) ≡ got a (record { at = s.at; left = l; env = n })) → Q a (record { at = s.at; left = s.left; env = n }) [] → Sound p s Q
s-quiet {A} {s} {Q} p a n g q = record { sound = λ o b s' e. by b s' (sym (g s.left) ∙ e) }
  where
    by : (b : A) (s' : State) → got a (record { at = s.at; left = s.left; env = n }) ≡ got b s' → (u : List ℕ) × Takes p s b s' u × Q b s' u
    by b s' e =
        let ab : a ≡ b = cc in
        let ss : record { at = s.at; left = s.left; env = n } ≡ s' = cc in
        ([], record { split = ap (λ (x : State). x.left) ss; moved = omega (arith, ap (λ (x : State). x.at) ss); again = λ r. rw (← ab, ← ss) (g r) }, rw (← ab, ← ss) q)

pub s-ret : {A : Type 0} {s : State} {Q : A → State → List ℕ → Type 0} (a : A) → Q a s [] → Sound (return a) s Q
unfolding return
s-ret {s} a q = s-quiet (return a) a s.env (λ l. refl) q

module _ {s : State} {Q : Unit {0} → State → List ℕ → Type 0} where
  pub s-rename : (n : Env) → Q tt (record { at = s.at; left = s.left; env = n }) [] → Sound (rename n) s Q
  unfolding rename
  s-rename n q = s-quiet (rename n) tt n (λ l. refl) q

  pub s-must : (t : Bool) (n p : ℕ) → (t ≡ true → Q tt s []) → Sound (require t n p) s Q
  unfolding require
  s-must true n p q = s-quiet (require true n p) tt s.env (λ l. refl) (q refl)
  s-must false n p q = record { sound = λ o b s' e. absurd (never e) }

-- a reader of a plain thing: it takes what w spells, its value has P, and the identities stay
abbrev pub Leaf : {A : Type 0} → Reader A → (A → List ℕ) → (A → Type 0) → Type 0
Leaf p w P = (s : State) → Sound p s (λ a s' u. (u ≡ w a) × P a × (s'.env ≡ s.env))

-- a plain thing, then the rest
pub s-leaf : {A B : Type 0} {s : State} {Q : B → State → List ℕ → Type 0} {p : Reader A} {w : A → List ℕ} {P : A → Type 0} (f : A → Reader B)
    → ((s : State) → Sound p s (λ a s' u. (u ≡ w a) × P a × (s'.env ≡ s.env)))
    → ((a : A) (n : ℕ) (l : List ℕ) → P a → Sound (f a) (record { at = n; left = l; env = s.env }) (λ b s' v. Q b s' (w a ++ v))) → Sound (p >>= f) s Q
s-leaf {A} {B} {s} {Q} {p} {w} {P} f h k = s-bind (h s) (λ a s₁ u q. subst₂ (λ (e : Env) (x : List ℕ). Sound (f a) (record { at = s₁.at; left = s₁.left; env = e }) (λ b s' v. Q b s' (x ++ v))) (sym q.2) (sym q.0) (k a s₁.at s₁.left q.1))

pub octet-leaf : Leaf octet (λ b. b ∷ []) (λ b. b < 256)
unfolding octet
octet-leaf s = record { sound = λ o b s' e. by s.left refl o b s' e }
  where
    by : (l : List ℕ) → s.left ≡ l → Octets l → (b : ℕ) (s' : State) → octet_of s l ≡ got b s' → (u : List ℕ) × Takes octet s b s' u × ((u ≡ b ∷ []) × (b < 256) × (s'.env ≡ s.env))
    by [] h o b s' e = absurd (never e)
    by (c ∷ l) h o b s' e =
        let cb : c ≡ b = cc in
        let ss : record { at = s.at + 1; left = l; env = s.env } ≡ s' = cc in
        let small : c < 256 = o 0 in
        (b ∷ [], record { split = h ∙ rw (← ss, cb); moved = rw (← ss); again = λ r. rw (← ss) }, (refl, omega arith, rw (← ss)))
