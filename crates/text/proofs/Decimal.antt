-- Numbers in decimal: without the fuel of their definition, and how long they are.
use mathlib.Core.Path.{◌≡◌, refl, sym, ap, ◌∙◌}
use mathlib.Core.Bool.{Bool, true, false}
use mathlib.Core.List.{List, [], ◌∷◌, ◌++◌}
use Prim.Native.Nat.{ℕ, zero, suc, ◌+◌, ◌*◌, ◌/◌, ◌%◌, ◌^◌, ◌<◌, ◌≤◌}
use native.Mathlib.Omega.{arith}
use native.Mathlib.Nat.{pow-suc}
use lib.ListN.{length, length-append}
use lib.Dec.{ltb}
use lib.IntN.{ℤ, pos, negsuc}
use lib.Signed.{mag}
use borrow.Author.Tests.{ltb-true, ltb-false, lt-ltb, le-ltb}
use Rattle.std.specs.Fmt as spelling
use Rattle.std.proofs.lemmas.Fmt.{decimal_by_steps}
use Rattle.format.specs.Desk.{digits_by, decimal}

digits_by-one : (k n : ℕ) → n < 10 → digits_by (suc k) n ≡ (0x30 + n) ∷ []
unfolding digits_by
digits_by-one k n h = rw (lt-ltb n 10 h, digits_by)

digits_by-more : (k n : ℕ) → 10 ≤ n → digits_by (suc k) n ≡ digits_by k (n / 10) ++ ((0x30 + n % 10) ∷ [])
unfolding digits_by
digits_by-more k n h = rw (le-ltb n 10 h, digits_by)

enough : (j k n : ℕ) → n < j → n < k → digits_by j n ≡ digits_by k n
enough zero k n h g = absurd (omega arith)
enough (suc j) zero n h g = absurd (omega arith)
enough (suc j) (suc k) n h g = by (enough j k (n / 10)) (ltb n 10) refl
  where
    by : (n / 10 < j → n / 10 < k → digits_by j (n / 10) ≡ digits_by k (n / 10)) → (t : Bool) → ltb n 10 ≡ t → digits_by (suc j) n ≡ digits_by (suc k) n
    by again true e = digits_by-one j n (ltb-true n 10 e) ∙ sym (digits_by-one k n (ltb-true n 10 e))
    by again false e =
        let m : 10 ≤ n = ltb-false n 10 e in
        digits_by-more j n m ∙ ap (λ (l : List ℕ). l ++ ((0x30 + n % 10) ∷ [])) (again (omega arith) (omega arith)) ∙ sym (digits_by-more k n m)

pub decimal-one : (n : ℕ) → n < 10 → decimal (pos n) ≡ (0x30 + n) ∷ []
unfolding decimal
decimal-one n h = digits_by-one n n h

pub decimal-more : (n : ℕ) → 10 ≤ n → decimal (pos n) ≡ decimal (pos (n / 10)) ++ ((0x30 + n % 10) ∷ [])
unfolding decimal
decimal-more n h = digits_by-more n n h ∙ ap (λ (l : List ℕ). l ++ ((0x30 + n % 10) ∷ [])) (enough n (suc (n / 10)) (n / 10) (omega arith) (omega arith))

pub decimal-two : (n : ℕ) → 10 ≤ n → n < 100 → decimal (pos n) ≡ (0x30 + n / 10) ∷ (0x30 + n % 10) ∷ []
decimal-two n h g = decimal-more n h ∙ rw (decimal-one (n / 10) (omega arith))

pub decimal-minus : (n : ℕ) → decimal (negsuc n) ≡ 0x2D ∷ decimal (pos (suc n))
unfolding decimal
decimal-minus n = refl

-- ---- lengths

more-length : (n : ℕ) → 10 ≤ n → length (decimal (pos n)) ≡ length (decimal (pos (n / 10))) + 1
more-length n h = rw (decimal-more n h, length-append)

-- k + 1 digits hold what is below 10 to that power
pub digits-few : (k n : ℕ) → n < 10 ^ suc k → length (decimal (pos n)) ≤ suc k
digits-few zero n h = rw (decimal-one n (omega arith)) (omega arith)
digits-few (suc k) n h = by (digits-few k (n / 10)) (ltb n 10) refl
  where
    grows : 10 ^ suc (suc k) ≡ 10 ^ suc k * 10
    grows = pow-suc 10 (suc k)

    by : (n / 10 < 10 ^ suc k → length (decimal (pos (n / 10))) ≤ suc k) → (t : Bool) → ltb n 10 ≡ t → length (decimal (pos n)) ≤ suc (suc k)
    by rest true e = rw (decimal-one n (ltb-true n 10 e)) (omega arith)
    by rest false e =
        let few : length (decimal (pos (n / 10))) ≤ suc k = rest (omega (arith, grows)) in
        omega (arith, more-length n (ltb-false n 10 e))

-- an unsigned number of 64 bits
pub count-length : (n : ℕ) → n < 2 ^ 64 → length (decimal (pos n)) ≤ 20
count-length n h = digits-few 19 n (omega arith)

-- a sign, and a number of at most k + 1 digits
pub signed-length : (k : ℕ) (v : ℤ) → suc (mag v) < 10 ^ suc k → length (decimal v) ≤ suc (suc k)
signed-length k (pos n) h = omega (arith, digits-few k n (omega arith))
signed-length k (negsuc n) h = rw (decimal-minus n) (omega (arith, digits-few k (suc n) h))

pub decimal-length : (v : ℤ) → mag v < 2 ^ 63 → length (decimal v) ≤ 20
decimal-length v h = signed-length 18 v (omega arith)

-- ---- as std spells a number

pub spelt : (n : ℕ) → n < 2 ^ 64 → decimal (pos n) ≡ spelling.decimal n
spelt n h = decimal_by_steps (λ n ds. decimal (pos n) ≡ ds) decimal-one (λ n ds m e. decimal-more n m ∙ ap (λ (l : List ℕ). l ++ ((0x30 + n % 10) ∷ [])) e) n h
