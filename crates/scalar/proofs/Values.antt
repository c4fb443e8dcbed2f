-- Octets as a number, most significant first.
use mathlib.Core.Path.{◌≡◌, refl, sym, ap, ◌∙◌}
use mathlib.Core.List.{List, [], ◌∷◌, ◌++◌}
use mathlib.Core.Logic.{inl, inr}
use Prim.Native.Nat.{ℕ, suc, ◌+◌, ◌-◌, ◌*◌, ◌^◌, ◌<◌, ◌≤◌}
use native.Mathlib.Omega.{arith}
use native.Mathlib.Numerals.{add-one}
use lib.Dec.{ltb}
use lib.IntN.{ℤ, pos}
use mathlib.Core.Bool.{Bool, true, false}
use mir.Syntax.{w64}
use mir.Val.{to_z}
use mir.ValLaws.{to_z_pos}
use borrow.Author.Tests.{ltb-true, ltb-false, lt-ltb}
use Rattle.integer.proofs.Signs.{flipped}
use lib.ListN.{length, get_or, take, drop}
use lib.Seq.{drop-cons, drop-drop, take-add}
use Rattle.format.specs.Data.{big, bits}
use Rattle.scalar.specs.Answers.{Size, big_at}

pub size-last : {n : ℕ} → Size n → (n ≡ 1 → ⊥) → (n ≡ 4 → ⊥) → n ≡ 8
size-last (inl e) h g = absurd (h e)
size-last (inr (inl e)) h g = absurd (g e)
size-last (inr (inr e)) h g = e

big-append : (n : ℕ) (l m : List ℕ) → big n (l ++ m) ≡ big (big n l) m
unfolding big
big-append n [] m = refl
big-append n (b ∷ l) m = big-append (n * 256 + b) l m

big-shift : (n a b c d : ℕ) → big n (a ∷ b ∷ c ∷ d ∷ []) ≡ n * 4294967296 + big 0 (a ∷ b ∷ c ∷ d ∷ [])
unfolding big
big-shift n a b c d = omega arith

module _ (o : List ℕ) where
  pub take_more : (k at : ℕ) → at < length o → take (suc k) (drop at o) ≡ get_or o at 0 ∷ take k (drop (at + 1) o)
  take_more k at h = rw (drop-cons o at 0 h, add-one)

  take-four : (at : ℕ) → at + 4 ≤ length o → take 4 (drop at o) ≡ get_or o at 0 ∷ get_or o (at + 1) 0 ∷ get_or o (at + 2) 0 ∷ get_or o (at + 3) 0 ∷ []
  take-four at h =
      let two : at + 1 + 1 ≡ at + 2 = omega arith in
      let three : at + 2 + 1 ≡ at + 3 = omega arith in
      rw (take_more 3 at (omega arith), take_more 2 (at + 1) (omega arith), two, take_more 1 (at + 2) (omega arith), three, take_more 0 (at + 3) (omega arith))

  pub big-one : (at : ℕ) → at < length o → big_at o at 1 ≡ get_or o at 0
  unfolding big
  big-one at h = rw (take_more 0 at h) (omega arith)

  big-four : (at : ℕ) → at + 4 ≤ length o → big_at o at 4 ≡ get_or o at 0 * 256 ^ 3 + get_or o (at + 1) 0 * 256 ^ 2 + get_or o (at + 2) 0 * 256 ^ 1 + get_or o (at + 3) 0
  unfolding big
  big-four at h = rw (take-four at h) (omega arith)

  big-join : (at : ℕ) → at + 8 ≤ length o → big_at o at 8 ≡ big_at o at 4 * 4294967296 + big_at o (at + 4) 4
  big-join at h = ap (big 0) (take-add 4 4 (drop at o)) ∙ big-append 0 (take 4 (drop at o)) (take 4 (drop 4 (drop at o))) ∙ rw (drop-drop 4 at o) (by (big_at o at 4))
    where
      by : (n : ℕ) → big n (take 4 (drop (at + 4) o)) ≡ n * 4294967296 + big 0 (take 4 (drop (at + 4) o))
      by n = rw (take-four (at + 4) (omega arith)) (big-shift n _ _ _ _)

  pub big-eight : (at : ℕ) → at + 8 ≤ length o
      → get_or o at 0 * 256 ^ 7 + get_or o (at + 1) 0 * 256 ^ 6 + get_or o (at + 2) 0 * 256 ^ 5 + get_or o (at + 3) 0 * 256 ^ 4 + get_or o (at + 4) 0 * 256 ^ 3 + get_or o (at + 5) 0 * 256 ^ 2 + get_or o (at + 6) 0 * 256 ^ 1 + get_or o (at + 7) 0
      ≡ big_at o at 8
  big-eight at h =
      let five : at + 4 + 1 ≡ at + 5 = omega arith in
      let six : at + 4 + 2 ≡ at + 6 = omega arith in
      let seven : at + 4 + 3 ≡ at + 7 = omega arith in
      let low = rw (five, six, seven) at (big-four (at + 4) (omega arith)) in
      omega (arith, big-four at (omega arith), low, big-join at h)

-- a number in a signed type
low-bits : (x : ℕ) → x < 2 ^ 63 → to_z w64 x ≡ bits x
low-bits x h = to_z_pos w64 x h ∙ sym (by (lt-ltb x (2 ^ 63) h))
  where
    by : ltb x (2 ^ 63) ≡ true → bits x ≡ pos x
    by e = rw e

all-bits : (x : ℕ) → x < 2 ^ 64 → to_z w64 x ≡ bits x
all-bits x h = by (ltb x (2 ^ 63)) refl
  where
    by : (t : Bool) → ltb x (2 ^ 63) ≡ t → to_z w64 x ≡ bits x
    by true e = low-bits x (ltb-true x (2 ^ 63) e)
    by false e =
        let high : 2 ^ 63 ≤ x = ltb-false x (2 ^ 63) e in
        let back : 2 ^ 64 - 1 - (2 ^ 64 - 1 - x) ≡ x = omega arith in
        rw back at (flipped w64 (2 ^ 64 - 1 - x) (omega arith)) ∙ sym (rw e)

-- of n octets, as code finds them
module _ (o : List ℕ) (at n : ℕ) (w : at + n ≤ length o) where
  pub bits-of-one : n ≡ 1 → get_or o at 0 < 256 → to_z w64 (get_or o at 0) ≡ bits (big_at o at n)
  bits-of-one e f = rw (e, big-one o at (omega arith)) (low-bits (get_or o at 0) (omega arith))

  pub bits-of-four : {x : ℕ} → n ≡ 4 → x < 2 ^ 32 → x ≡ get_or o at 0 * 256 ^ 3 + get_or o (at + 1) 0 * 256 ^ 2 + get_or o (at + 2) 0 * 256 ^ 1 + get_or o (at + 3) 0 → to_z w64 x ≡ bits (big_at o at n)
  bits-of-four {x} e f q = rw (e, big-four o at (omega arith), ← q) (low-bits x (omega arith))

  -- 64 bits at once
  pub bits-of-eight : {y : ℤ} → n ≡ 8 → y ≡ bits (big_at o at 8) → y ≡ bits (big_at o at n)
  bits-of-eight e q = rw e q

pub eight-bits : (o : List ℕ) (at : ℕ) {y : ℤ} → ((i : ℕ) → get_or o i 0 < 256) → at + 8 ≤ length o
    → y ≡ to_z w64 (get_or o at 0 * 256 ^ 7 + get_or o (at + 1) 0 * 256 ^ 6 + get_or o (at + 2) 0 * 256 ^ 5 + get_or o (at + 3) 0 * 256 ^ 4 + get_or o (at + 4) 0 * 256 ^ 3 + get_or o (at + 5) 0 * 256 ^ 2 + get_or o (at + 6) 0 * 256 ^ 1 + get_or o (at + 7) 0)
    → y ≡ bits (big_at o at 8)
eight-bits o at small h q = q ∙ all-bits _ (omega (arith, small at, small (at + 1), small (at + 2), small (at + 3), small (at + 4), small (at + 5), small (at + 6), small (at + 7))) ∙ ap bits (big-eight o at h)
