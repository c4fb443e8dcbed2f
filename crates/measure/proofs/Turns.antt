-- The values inside a container, one turn of a loop at a time: what is still expected is the loop's state, and no fuel is left.
use mathlib.Core.Path.{◌≡◌, refl, sym, ap, ◌∙◌}
use mathlib.Core.Bool.{Bool, true, false, cond}
use Prim.Native.Nat.{ℕ, zero, suc, ◌+◌, ◌<◌, ◌≤◌}
use native.Mathlib.Omega.{arith}
use lib.Dec.{ltb, leb}
use lib.IntN.{ℤ, negsuc}
use lib.Signed.{mag, non_neg}
use borrow.Author.Tests.{ltb-true, leb-true}
use Rattle.reading.specs.Reading.{State, Out, got, stop, refusal, Reader, follow, ◌>>=◌, return, require, either, here}
use Rattle.integer.specs.Packed.{wide32, integer}
use Rattle.format.specs.Data.{eq_z}
use Rattle.decide.specs.Coming.{Coming, halt, ends, go, coming_by_index}
use Rattle.format.specs.Values.{Value, Children, empty, child_of, Form, counted, rising, label, Inner, each, turns, pairs, children}

-- what a loop does at what comes next: a value, and then `again`, the rest of the loop
abbrev pub on_coming : Reader Value → (ℕ → Reader Children) → Coming → Out Children
on_coming one again (halt r) = stop r
on_coming one again (ends s) = got empty s
on_coming one again (go i s) = (one >>= λ v. again i >>= λ cs. return (child_of i v cs)) s

-- ---- counted values

module _ (inner : Inner) (p : Bool) (f g : Form) where
  pub turns-none : (i : ℕ) (s : State) → children inner (counted p f g 0 i) s ≡ got empty s
  unfolding children turns return
  turns-none i s = refl

  pub turns_more : (n i : ℕ) (s : State) → children inner (counted p f g (suc n) i) s ≡ on_coming (each inner f) (λ _. children inner (counted p g f n (suc i))) (go (label p i) s)
  unfolding children turns
  turns_more n i s = refl

-- ---- pairs of index and value

module _ (inner : Inner) (f : Form) where
  -- one turn, whatever the fuel
  turn : (k top low : ℕ) (s : State) → pairs inner f (suc k) top low s ≡ on_coming (each inner f) (λ i. pairs inner f k top (suc i)) (coming_by_index s.at top low (integer wide32 s))
  unfolding pairs ◌>>=◌ here either require return
  turn k top low s = by (integer wide32 s)
    where
      then : ℕ → Reader Children
      then i = each inner f >>= λ v. pairs inner f k top (suc i) >>= λ cs. return (child_of i v cs)

      tests : (i : ℕ) (t : State) (a b c : Bool) → (require a 5 s.at >>= λ _. require b 5 s.at >>= λ _. require c 5 s.at >>= λ _. then i) t
          ≡ on_coming (each inner f) (λ i. pairs inner f k top (suc i)) (cond a (cond b (cond c (go i t) (halt (refusal 5 s.at))) (halt (refusal 5 s.at))) (halt (refusal 5 s.at)))
      tests i t true true true = refl
      tests i t true true false = refl
      tests i t true false c = refl
      tests i t false b c = refl

      ended : (z : ℤ) (t : State) (e : Bool) → either e (return empty) (require (non_neg z) 5 s.at >>= λ _. require (leb low (mag z)) 5 s.at >>= λ _. require (ltb (mag z) top) 5 s.at >>= λ _. then (mag z)) t
          ≡ on_coming (each inner f) (λ i. pairs inner f k top (suc i)) (cond e (ends t) (cond (non_neg z) (cond (leb low (mag z)) (cond (ltb (mag z) top) (go (mag z) t) (halt (refusal 5 s.at))) (halt (refusal 5 s.at))) (halt (refusal 5 s.at))))
      ended z t true = refl
      ended z t false = tests (mag z) t (non_neg z) (leb low (mag z)) (ltb (mag z) top)

      by : (o : Out ℤ) → follow o (λ z. either (eq_z z (negsuc 0)) (return empty) (require (non_neg z) 5 s.at >>= λ _. require (leb low (mag z)) 5 s.at >>= λ _. require (ltb (mag z) top) 5 s.at >>= λ _. then (mag z)))
          ≡ on_coming (each inner f) (λ i. pairs inner f k top (suc i)) (coming_by_index s.at top low o)
      by (stop r) = refl
      by (got z t) = ended z t (eq_z z (negsuc 0))

-- the rest of the loop, said another way where a value follows
same-again : (one : Reader Value) (a b : ℕ → Reader Children) (g : Coming) → ((i : ℕ) (s : State) → g ≡ go i s → (t : State) → a i t ≡ b i t) → on_coming one a g ≡ on_coming one b g
unfolding ◌>>=◌
same-again one a b (halt r) h = refl
same-again one a b (ends s) h = refl
same-again one a b (go i s) h = by (one s)
  where
    by : (o : Out Value) → follow o (λ v t. follow (a i t) (λ cs. return (child_of i v cs))) ≡ follow o (λ v t. follow (b i t) (λ cs. return (child_of i v cs)))
    by (got v t) = ap (λ (x : Out Children). follow x (λ cs. return (child_of i v cs))) (h i s refl t)
    by (stop r) = refl

-- an index that follows is in its bounds
pub index_in : (p top low : ℕ) (o : Out ℤ) (i : ℕ) (s : State) → coming_by_index p top low o ≡ go i s → (low ≤ i) × (i < top)
index_in p top low (stop r) i s e = let z : ◌≡◌ {A = ℕ} 0 1 = cc in absurd (omega arith)
index_in p top low (got z t) i s e = by (eq_z z (negsuc 0)) (non_neg z) (leb low (mag z)) refl (ltb (mag z) top) refl e
  where
    by : (a n b : Bool) → leb low (mag z) ≡ b → (c : Bool) → ltb (mag z) top ≡ c
        → cond a (ends t) (cond n (cond b (cond c (go (mag z) t) (halt (refusal 5 p))) (halt (refusal 5 p))) (halt (refusal 5 p))) ≡ go i s → (low ≤ i) × (i < top)
    by true n b q c r x = let y : ◌≡◌ {A = ℕ} 0 1 = cc in absurd (omega arith)
    by false false b q c r x = let y : ◌≡◌ {A = ℕ} 0 1 = cc in absurd (omega arith)
    by false true true q true r x = let y : mag z ≡ i = cc in (omega (arith, leb-true low (mag z) q), omega (arith, ltb-true (mag z) top r))
    by false true true q false r x = let y : ◌≡◌ {A = ℕ} 0 1 = cc in absurd (omega arith)
    by false true false q c r x = let y : ◌≡◌ {A = ℕ} 0 1 = cc in absurd (omega arith)

module _ (inner : Inner) (f : Form) where
  -- the fuel does not matter where it is enough
  enough : (k j top low : ℕ) (s : State) → low ≤ top → top < low + k → top < low + j → pairs inner f k top low s ≡ pairs inner f j top low s
  enough zero j top low s a b c = absurd (omega arith)
  enough (suc k) zero top low s a b c = absurd (omega arith)
  enough (suc k) (suc j) top low s a b c =
      turn inner f k top low s
      ∙ same-again (each inner f) (λ i. pairs inner f k top (suc i)) (λ i. pairs inner f j top (suc i)) (coming_by_index s.at top low (integer wide32 s))
      (λ i s₁ e t. let w = index_in s.at top low (integer wide32 s) i s₁ e in enough k j top (suc i) t w.1 (omega (arith, w.0)) (omega (arith, w.0)))
      ∙ sym (turn inner f j top low s)

  pub pairs-turn : (top low : ℕ) (s : State) → low ≤ top
      → children inner (rising f top low) s ≡ on_coming (each inner f) (λ i. children inner (rising f top (suc i))) (coming_by_index s.at top low (integer wide32 s))
  unfolding children
  pairs-turn top low s a =
      turn inner f top top low s
      ∙ same-again (each inner f) (λ i. pairs inner f top top (suc i)) (λ i. pairs inner f (suc top) top (suc i)) (coming_by_index s.at top low (integer wide32 s))
      (λ i s₁ e t. let w = index_in s.at top low (integer wide32 s) i s₁ e in enough top (suc top) top (suc i) t w.1 (omega arith) (omega arith))
