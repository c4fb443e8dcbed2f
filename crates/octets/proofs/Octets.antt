-- What a search says, as a number.
use Rattle.std.proofs.Common.{◌≡◌, ℕ, zero, suc, ◌+◌, ◌-◌, ◌<◌, ◌≤◌, Bool, true, false, ◌==◌, List, [], ◌∷◌, length, take, drop, refl, ap, ◌∙◌, arith}
use Rattle.std.proofs.lemmas.List.{drop-take}
use Rattle.std.proofs.Math.Seq.{length-take-le}
use Rattle.std.proofs.Math.ListN.{length-drop}
use Rattle.std.specs.Prelude.{Option, Some, None}
use Rattle.memchr.specs.Find.{Passes, Nowhere, IsFirstByte, is_byte}
use Rattle.octets.specs.Octets.{slice, index_after, index_of}

index-none : (b : ℕ) (l : List ℕ) → Nowhere (Passes (is_byte b) l) 0 (length l) → index_of b l ≡ length l
unfolding index_of index_after
index-none b [] h = refl
index-none b (x ∷ l) h = by (index-none b l (λ k i j p. h (suc k) (omega arith) (omega arith) p)) (x == b) refl
  where
    by : index_of b l ≡ length l → (t : Bool) → (x == b) ≡ t → index_after t (index_of b l) ≡ suc (length l)
    by more true e = absurd (h 0 (omega arith) (omega arith) e)
    by more false e = ap suc more

index-some : (b : ℕ) (l : List ℕ) (k : ℕ) → k < length l → Nowhere (Passes (is_byte b) l) 0 k → Passes (is_byte b) l k → index_of b l ≡ k
unfolding index_of index_after
index-some b [] k i h p = absurd (omega arith)
index-some b (x ∷ l) zero i h p = ap (λ (t : Bool). index_after t (index_of b l)) p
index-some b (x ∷ l) (suc k) i h p = by (index-some b l k (omega arith) (λ j m n q. h (suc j) (omega arith) (omega arith) q) p) (x == b) refl
  where
    by : index_of b l ≡ k → (t : Bool) → (x == b) ≡ t → index_after t (index_of b l) ≡ suc k
    by more true e = absurd (h 0 (omega arith) (omega arith) e)
    by more false e = ap suc more

module _ (b from to : ℕ) (l : List ℕ) (f : from ≤ to) (t : to ≤ length l) where
  part : slice from to l ≡ take (to - from) (drop from l)
  unfolding slice
  part = let e : to ≡ from + (to - from) = omega arith in ap (λ (n : ℕ). drop from (take n l)) e ∙ drop-take from (to - from) l

  long : length (take (to - from) (drop from l)) ≡ to - from
  long = length-take-le (to - from) (drop from l) (omega (arith, length-drop from l))

  -- by what `memchr` answers
  pub none : {r : Option ℕ} → IsFirstByte (is_byte b) (take (to - from) (drop from l)) r → r ≡ None → to ≡ from + index_of b (slice from to l)
  none h e = omega (arith, ap (index_of b) part, index-none b (take (to - from) (drop from l)) (rw e at h), long)

  pub some : {r : Option ℕ} (k : ℕ) → IsFirstByte (is_byte b) (take (to - from) (drop from l)) r → r ≡ Some k → (from + k ≡ from + index_of b (slice from to l)) × (from + k < to)
  some {r} k h e =
      let g : IsFirstByte (is_byte b) (take (to - from) (drop from l)) (Some k) = rw e at h in
      let i : index_of b (slice from to l) ≡ k = ap (index_of b) part ∙ index-some b (take (to - from) (drop from l)) k g.0.high g.0.before g.1 in
      (omega arith, omega (arith, g.0.high, long))
