-- A slash for each line feed of a text that is written.
use mathlib.Core.Path.{◌≡◌, refl, sym, ap, ◌∙◌}
use mathlib.Core.List.{List, [], ◌∷◌, ◌++◌, map, append_assoc, append-nil}
use Prim.Native.Nat.{ℕ, suc, ◌+◌, ◌<◌, ◌≤◌}
use native.Mathlib.Omega.{arith}
use lib.ListN.{length, get_or, set, length-append, length-map, length-set}
use lib.Seq.{sets, set-set, get_or-set_same, get_or-set_other, length-sets}
use Rattle.integer.specs.Writes.{Wrote}
use Rattle.text.proofs.Writes.{set-sets, sets-append, wrote_kept}
use Rattle.replies.specs.Cases.{slash}
use Rattle.replies.specs.Slashes.{SlashesPut}

-- ---- slashes

-- an octet within a text that is written
module _ (l : List ℕ) (at : ℕ) (u : List ℕ) (b : ℕ) (rest : List ℕ) where
  here : sets l at (u ++ (b ∷ rest)) ≡ sets (set (sets l at u) (at + length u) b) (suc (at + length u)) rest
  here = sets-append u (b ∷ rest) l at

  there : (x : ℕ) → set (sets l at (u ++ (b ∷ rest))) (at + length u) x ≡ sets l at (u ++ (x ∷ rest))
  there x =
      ap (λ (m : List ℕ). set m (at + length u) x) here ∙ set-sets rest (set (sets l at u) (at + length u) b) (at + length u) (suc (at + length u)) x (omega arith)
      ∙ ap (λ (m : List ℕ). sets m (suc (at + length u)) rest) (set-set (sets l at u) (at + length u) b x) ∙ sym (sets-append u (x ∷ rest) l at)

before-sets : (vs m : List ℕ) (i j : ℕ) → i < j → get_or (sets m j vs) i 0 ≡ get_or m i 0
before-sets [] m i j h = refl
before-sets (v ∷ vs) m i j h = before-sets vs (set m j v) i (suc j) (omega arith) ∙ get_or-set_other m j i v 0 (λ e. omega arith)

read-there : (l : List ℕ) (at : ℕ) (u : List ℕ) (b : ℕ) (rest : List ℕ) → at + length u < length l → get_or (sets l at (u ++ (b ∷ rest))) (at + length u) 0 ≡ b
read-there l at u b rest h =
    ap (λ (m : List ℕ). get_or m (at + length u) 0) (here l at u b rest) ∙ before-sets rest (set (sets l at u) (at + length u) b) (at + length u) (suc (at + length u)) (omega arith)
    ∙ get_or-set_same (sets l at u) (at + length u) b 0 (omega (arith, length-sets l at u))

map_last : (f : ℕ → ℕ) (u : List ℕ) (b : ℕ) → map f (u ++ (b ∷ [])) ≡ map f u ++ (f b ∷ [])
map_last f [] b = refl
map_last f (a ∷ u) b = ap (λ (m : List ℕ). f a ∷ m) (map_last f u b)

-- up to i each line feed of v is a slash
pub record Slashed (v : List ℕ) (at : ℕ) (l : List ℕ) (i : ℕ) (out : List ℕ) : Type 0 where
  pub done : List ℕ
  pub left : List ℕ
  pub parts : v ≡ done ++ left
  pub place : i ≡ at + length done
  pub holds : out ≡ sets l at (map slash done ++ left)

pub slashed-first : {v : List ℕ} {at next : ℕ} {l out : List ℕ} → Wrote v at l next out → Slashed v at l at out
slashed-first {v} w = record { done = []; left = v; parts = refl; place = omega arith; holds = w.holds }

module _ {v : List ℕ} {at : ℕ} {l : List ℕ} {i : ℕ} {out : List ℕ} (k : Slashed v at l i out) where
  pub slashed-all : {next : ℕ} → next ≡ at + length v → next ≤ i → Wrote (map slash v) at l next out
  slashed-all {next} e h = by k.left refl
    where
      size : length v ≡ length k.done + length k.left
      size = ap length k.parts ∙ length-append k.done k.left

      by : (r : List ℕ) → k.left ≡ r → Wrote (map slash v) at l next out
      by [] q =
          let all : v ≡ k.done = k.parts ∙ ap (λ (r : List ℕ). k.done ++ r) q ∙ append-nil k.done in
          record {
            past = e ∙ ap (λ (n : ℕ). at + n) (sym (length-map v slash));
            holds = k.holds ∙ ap (λ (r : List ℕ). sets l at (map slash k.done ++ r)) q ∙ ap (sets l at) (append-nil (map slash k.done) ∙ ap (map slash) (sym all));
          }
      by (b ∷ r) q = absurd (omega (arith, size, ap length q, k.place))

  module _ (h : i < at + length v) (room : at + length v ≤ length l) where
    size : length v ≡ length k.done + length k.left
    size = ap length k.parts ∙ length-append k.done k.left

    -- the octet at i
    next-there : (b : ℕ) × (r : List ℕ) × (k.left ≡ b ∷ r)
    next-there = by k.left refl
      where
        by : (r : List ℕ) → k.left ≡ r → (b : ℕ) × (s : List ℕ) × (k.left ≡ b ∷ s)
        by [] q = absurd (omega (arith, size, ap length q, k.place))
        by (b ∷ r) q = (b, r, q)

    spot : at + length (map slash k.done) ≡ i
    spot = ap (λ (n : ℕ). at + n) (length-map k.done slash) ∙ sym k.place

    stands : out ≡ sets l at (map slash k.done ++ (next-there.0 ∷ next-there.1))
    stands = k.holds ∙ ap (λ (r : List ℕ). sets l at (map slash k.done ++ r)) next-there.2

    read : get_or out i 0 ≡ next-there.0
    read =
        ap (λ (m : List ℕ). get_or m i 0) stands ∙ ap (λ (j : ℕ). get_or (sets l at (map slash k.done ++ (next-there.0 ∷ next-there.1))) j 0) (sym spot)
        ∙ read-there l at (map slash k.done) next-there.0 next-there.1 (omega (arith, spot))

    pub slashed-again : Slashed v at l (i + 1) (set out i (slash (get_or out i 0)))
    slashed-again = record {
      done = k.done ++ (next-there.0 ∷ []);
      left = next-there.1;
      parts = k.parts ∙ ap (λ (r : List ℕ). k.done ++ r) next-there.2 ∙ sym (append_assoc k.done (next-there.0 ∷ []) next-there.1);
      place = omega (arith, k.place, length-append k.done (next-there.0 ∷ []));
      holds = ap (λ (b : ℕ). set out i (slash b)) read ∙ ap (λ (m : List ℕ). set m i (slash next-there.0)) stands
          ∙ ap (λ (j : ℕ). set (sets l at (map slash k.done ++ (next-there.0 ∷ next-there.1))) j (slash next-there.0)) (sym spot)
          ∙ there l at (map slash k.done) next-there.0 next-there.1 (slash next-there.0)
          ∙ ap (sets l at) (sym (append_assoc (map slash k.done) (slash next-there.0 ∷ []) next-there.1) ∙ ap (λ (m : List ℕ). m ++ next-there.1) (sym (map_last slash k.done next-there.0)));
    }

-- ---- all of a text, whichever was written

abbrev pub Slashing : ℕ → ℕ → List ℕ → ℕ → List ℕ → Type 0
Slashing at end before i out = (i ≤ end) × (at ≤ i) × (end ≤ length before) × (length out ≡ length before) × ((v l : List ℕ) → Wrote v at l end before → Slashed v at l i out)

pub slashing-first : {at end : ℕ} {out : List ℕ} → at ≤ end → end ≤ length out → Slashing at end out at out
slashing-first h g = (h, omega arith, g, refl, λ v l w. slashed-first w)

pub slashing-again : {at end i : ℕ} {before out : List ℕ} → Slashing at end before i out → i < end → Slashing at end before (i + 1) (set out i (slash (get_or out i 0)))
slashing-again {at} {end} {i} {before} {out} k h = (
  omega arith,
  omega (arith, k.1),
  k.2,
  length-set out i (slash (get_or out i 0)) ∙ k.3,
  λ v l w. slashed-again (k.4 v l w) (omega (arith, w.past)) (omega (arith, w.past, k.2, wrote_kept w)),
)

pub slashing-all : {at end i : ℕ} {before out : List ℕ} → Slashing at end before i out → end ≤ i → SlashesPut at end before out
slashing-all k h = record { put = λ v l w. slashed-all (k.4 v l w) w.past h }
