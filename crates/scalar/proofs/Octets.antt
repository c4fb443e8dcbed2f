-- Runs of octets at a place.
use mathlib.Core.Path.{◌≡◌, refl}
use mathlib.Core.Bool.{Bool, true, false}
use mathlib.Core.List.{List, [], ◌∷◌}
use Prim.Native.Nat.{ℕ, zero, suc, ◌+◌, ◌-◌, ◌<◌, ◌≤◌}
use native.Mathlib.Omega.{arith}
use native.Mathlib.Nat.{add-zero, sub_self}
use native.Mathlib.Numerals.{add-one}
use lib.ListN.{length, get_or, take, drop}
use lib.Seq.{drop-cons}
use lib.Dec.{ltb}
use borrow.Author.Tests.{ltb-true, ltb-false}
use Rattle.reading.specs.Reading.{Env, got, stop, refusal, stand, ◌>>=◌, return}
use Rattle.reading.proofs.Places.{octet-at, octet-end}
use Rattle.format.specs.Data.{run}
use Rattle.std.specs.Prelude.{Ok, Err}
use Rattle.scalar.specs.Answers.{Passes}
use Rattle.scalar.specs.Parts.{part}
use Rattle.scalar.proofs.Passing.{passes-got, passes-stop}

module _ (o : List ℕ) (e : Env) where
  pub run_at : (n at : ℕ) → at + n ≤ length o → run n (stand o at e) ≡ got (take n (drop at o)) (stand o (at + n) e)
  unfolding run ◌>>=◌ return
  run_at zero at h = rw (add-zero at)
  run_at (suc n) at h =
      let next : at + 1 + n ≡ at + suc n = omega arith in
      rw (octet-at o at e (omega arith), run_at n (at + 1) (omega arith), drop-cons o at 0 (omega arith), next, add-one)

  pub run_end : (n at : ℕ) → at ≤ length o → length o < at + n → run n (stand o at e) ≡ stop (refusal 1 (length o))
  unfolding run ◌>>=◌
  run_end zero at h g = absurd (omega arith)
  run_end (suc n) at h g = by (run_end n (at + 1)) (ltb at (length o)) refl
    where
      by : (at + 1 ≤ length o → length o < at + 1 + n → run n (stand o (at + 1) e) ≡ stop (refusal 1 (length o))) → (t : Bool) → ltb at (length o) ≡ t
          → run (suc n) (stand o at e) ≡ stop (refusal 1 (length o))
      by again true q = let l : at < length o = ltb-true at (length o) q in rw (octet-at o at e l, again (omega arith) (omega arith))
      by again false q = let z : at ≡ length o = omega (arith, ltb-false at (length o) q) in rw (octet-end o at e (ltb-false at (length o) q), z)

module _ {o : List ℕ} {at n : ℕ} where
  pub octets-there : at + n ≤ length o → Passes n o at (run n) (Ok (at + n))
  octets-there h = passes-got _ (λ e. run_at o e n at h) (omega arith) h

  pub octets-short : at ≤ length o → length o < at + n → Passes n o at (run n) (Err (refusal 1 (length o)))
  octets-short h g = passes-stop λ e. run_end o e n at h g

-- ---- the octets from a place to another

module _ (o : List ℕ) (end : ℕ) (h : end ≤ length o) where
  pub part-more : (at : ℕ) → at < end → part o at end ≡ get_or o at 0 ∷ part o (at + 1) end
  part-more at g =
      let k : end - at ≡ suc (end - (at + 1)) = omega arith in
      rw (k, drop-cons o at 0 (omega arith), add-one)

  pub part-drop : (k at : ℕ) → at + k ≤ end → drop k (part o at end) ≡ part o (at + k) end
  part-drop zero at g = rw (add-zero at)
  part-drop (suc k) at g =
      let next : at + 1 + k ≡ at + suc k = omega arith in
      rw (part-more at (omega arith), ← next) (part-drop k (at + 1) (omega arith))

pub part_none : (o : List ℕ) (at : ℕ) → part o at at ≡ []
part_none o at = rw (sub_self at)
