-- The next value of a container, as the code decides it.
use Rattle.std.specs.Prelude.{Ok, Err, Result}
use mathlib.Core.Path.{◌≡◌, refl, sym, ap, subst, ◌∙◌}
use mathlib.Core.Bool.{Bool, true, false, cond}
use mathlib.Core.List.{List}
use Prim.Native.Nat.{ℕ, ◌+◌, ◌^◌, ◌<◌, ◌≤◌}
use native.Mathlib.Omega.{arith}
use native.Mathlib.Numerals.{add-one}
use lib.ListN.{length}
use lib.Dec.{leb}
use borrow.Author.Tests.{leb-true, leb-false, le-leb, lt-leb, le-ltb, lt-ltb}
use Rattle.reading.specs.declared.Refusal.{Refusal}
use Rattle.reading.specs.Reading.{Env, refusal, stand}
use Rattle.integer.specs.declared.Signed.{Signed}
use Rattle.integer.specs.declared.Signed.TheVariants.{Positive, Negative}
use Rattle.integer.specs.Answers.{out, signed, PastSigned, ReadsSigned}
use Rattle.format.specs.Values.{label}
use Rattle.decide.specs.declared.Next.{Next}
use Rattle.decide.specs.declared.Next.TheVariants.{Value, End}
use Rattle.decide.specs.Coming.{coming_by_index, coming, NextAt, IndexNext}
use Rattle.std.specs.Result.{OkIff, result_unwrap_or}
use Rattle.decide.specs.Forms.{listed_in}

module _ {o : List ℕ} {at : ℕ} {x : Result (ℕ × Signed) Refusal} (reads : ReadsSigned o at x) where
  -- by the index that was read
  by_index : (top low : ℕ) (paired : Bool) (e : Env) → coming true paired top low (stand o at e) ≡ coming_by_index at top low (out signed o e x)
  unfolding stand
  by_index top low paired e = ap (coming_by_index at top low) (sym (reads.same e))

module _ {o : List ℕ} {top low at : ℕ} {x : Result (ℕ × Signed) Refusal} (reads : ReadsSigned o at x) where
  pub index-faulty : {r : Refusal} → x ≡ Err r → IndexNext o top low at (Err r)
  index-faulty h = record { next = λ paired. record { same = λ e. sym (by_index reads top low paired e ∙ rw h); past = tt } }

  pub index-end : {next n : ℕ} → x ≡ Ok (next, Negative n) → n ≡ 0 → IndexNext o top low at (Ok (End next))
  index-end h z = let q = subst (PastSigned o at) h reads.past in
      record { next = λ paired. record { same = λ e. sym (by_index reads top low paired e ∙ rw (h, z)); past = (omega arith, q.1) } }

  pub index_below : {next n : ℕ} → x ≡ Ok (next, Negative n) → (n ≡ 0 → ⊥) → IndexNext o top low at (Err (refusal 5 at))
  index_below {next} {n} h z =
      record { next = λ paired. record { same = λ e. sym (by_index reads top low paired e ∙ rw (h, le-leb 0 n (omega arith), lt-leb n 0 (omega arith))); past = tt } }

  pub index-low : {next n : ℕ} → x ≡ Ok (next, Positive n) → n < low → IndexNext o top low at (Err (refusal 5 at))
  index-low {next} {n} h l = record { next = λ paired. record { same = λ e. sym (by_index reads top low paired e ∙ rw (h, lt-leb low n l)); past = tt } }

  pub index-high : {next n : ℕ} → x ≡ Ok (next, Positive n) → low ≤ n → top ≤ n → IndexNext o top low at (Err (refusal 5 at))
  index-high {next} {n} h l k = record { next = λ paired. record { same = λ e. sym (by_index reads top low paired e ∙ rw (h, le-leb low n l, le-ltb n top k)); past = tt } }

  pub index-value : {next n : ℕ} → x ≡ Ok (next, Positive n) → low ≤ n → n < top → IndexNext o top low at (Ok (Value next n (n + 1)))
  index-value {next} {n} h l k = let q = subst (PastSigned o at) h reads.past in
      record { next = λ paired. record { same = λ e. sym (by_index reads top low paired e ∙ rw (h, le-leb low n l, lt-ltb n top k)); past = (omega arith, q.1, omega arith, omega arith, add-one n) } }

-- how many values stand by position, as 32 bits hold the count
pub listed-is : {E : Type 0} (count : ℕ) (r : Result ℕ E) → OkIff r (count < 4294967296) count → result_unwrap_or r 0 ≡ listed_in false count
listed-is count (Ok n) h = h.1 ∙ sym (rw (le-leb count 4294967295 (omega (arith, h.0))))
listed-is count (Err e) h = sym (rw (lt-leb count 4294967295 (omega (arith, by (leb 4294967296 count) refl))))
  where
    by : (t : Bool) → leb 4294967296 count ≡ t → 4294967295 < count
    by true q = omega (arith, leb-true 4294967296 count q)
    by false q = absurd (h (leb-false 4294967296 count q))

module _ {o : List ℕ} {x paired : Bool} {count low at : ℕ} where
  pub next-index : x ≡ true → {r : Result Next Refusal} → IndexNext o count low at r → NextAt o x paired count low at r
  next-index e h = rw e (h.next paired)

  next-value : x ≡ false → at ≤ length o → low < count → {j : ℕ} → j ≡ label paired low → NextAt o x paired count low at (Ok (Value at j (low + 1)))
  next-value e h l q = rw (e, q) record { same = λ _. rw (lt-ltb low count l); past = (omega arith, h, omega arith, omega arith, add-one low) }

  pub next-listed : {n : ℕ} → n ≡ listed_in x count → at ≤ length o → low < n → {j : ℕ} → j ≡ label paired low → NextAt o x paired count low at (Ok (Value at j (low + 1)))
  next-listed {n} e h l {j} q = by x refl (leb count 4294967295) (subst (λ (k : ℕ). low < k) e l)
    where
      by : (b : Bool) → x ≡ b → (t : Bool) → low < cond b 0 (cond t count 0) → NextAt o x paired count low at (Ok (Value at j (low + 1)))
      by true i t k = absurd (omega arith)
      by false i true k = next-value i h k q
      by false i false k = absurd (omega arith)

  pub next-end : {n : ℕ} → n ≡ listed_in x count → count < 2 ^ 32 → at ≤ length o → x ≡ false → n ≤ low → NextAt o x paired count low at (Ok (End at))
  next-end {n} e few h i l = rw i record { same = λ _. rw (le-ltb low count (subst (λ (k : ℕ). k ≤ low) all l)); past = (omega arith, h) }
    where
      all : n ≡ count
      all = e ∙ rw (i, le-leb count 4294967295 (omega arith))
