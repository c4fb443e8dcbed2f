-- The spelling of an integer: without the fuel of its definition, and by its first octet.
use mathlib.Core.Path.{◌≡◌, refl, sym, ap, ◌∙◌, ap₂}
use mathlib.Core.Bool.{Bool, true, false}
use mathlib.Core.List.{List, [], ◌∷◌}
use Prim.Native.Nat.{ℕ, zero, suc, ◌+◌, ◌-◌, ◌*◌, ◌/◌, ◌%◌, ◌^◌, ◌<◌, ◌≤◌}
use native.Mathlib.Omega.{arith}
use native.Mathlib.Nat.{pow-suc}
use lib.ListN.{length}
use lib.Dec.{ltb, lit<, lit≤}
use lib.IntN.{ℤ, pos, negsuc}
use lib.Signed.{mag}
use borrow.Author.Tests.{ltb-true, ltb-false, lt-ltb, le-ltb}
use Rattle.integer.specs.Packed.{sign, positive, groups_by, groups, spell_with, sign_bit, spell_int}

groups_by-last : (k n : ℕ) → n < 128 → groups_by (suc k) n ≡ n ∷ []
unfolding groups_by
groups_by-last k n h = rw (lt-ltb n 128 h, groups_by)

groups_by-more : (k n : ℕ) → 128 ≤ n → groups_by (suc k) n ≡ (n % 128 + 128) ∷ groups_by k (n / 128)
unfolding groups_by
groups_by-more k n h = rw (le-ltb n 128 h, groups_by)

enough : (j k n : ℕ) → n < j → n < k → groups_by j n ≡ groups_by k n
enough zero k n h g = absurd (omega arith)
enough (suc j) zero n h g = absurd (omega arith)
enough (suc j) (suc k) n h g = by (enough j k (n / 128)) (ltb n 128) refl
  where
    by : (n / 128 < j → n / 128 < k → groups_by j (n / 128) ≡ groups_by k (n / 128)) → (t : Bool) → ltb n 128 ≡ t → groups_by (suc j) n ≡ groups_by (suc k) n
    by again true e = groups_by-last j n (ltb-true n 128 e) ∙ sym (groups_by-last k n (ltb-true n 128 e))
    by again false e =
        let m : 128 ≤ n = ltb-false n 128 e in
        groups_by-more j n m ∙ ap (λ (l : List ℕ). (n % 128 + 128) ∷ l) (again (omega arith) (omega arith)) ∙ sym (groups_by-more k n m)

pub groups-last : (n : ℕ) → n < 128 → groups n ≡ n ∷ []
unfolding groups
groups-last n h = groups_by-last n n h

pub groups-more : (n : ℕ) → 128 ≤ n → groups n ≡ (n % 128 + 128) ∷ groups (n / 128)
unfolding groups
groups-more n h = groups_by-more n n h ∙ ap (λ (l : List ℕ). (n % 128 + 128) ∷ l) (enough n (suc (n / 128)) (n / 128) (omega arith) (omega arith))

-- k + 1 groups hold what is below 128 to that power
pub groups-few : (k n : ℕ) → n < 128 ^ suc k → length (groups n) ≤ suc k
groups-few zero n h = rw (groups-last n (omega arith)) (omega arith)
groups-few (suc k) n h = by (groups-few k (n / 128)) (ltb n 128) refl
  where
    grows : 128 ^ suc (suc k) ≡ 128 ^ suc k * 128
    grows = pow-suc 128 (suc k)

    by : (n / 128 < 128 ^ suc k → length (groups (n / 128)) ≤ suc k) → (t : Bool) → ltb n 128 ≡ t → length (groups n) ≤ suc (suc k)
    by rest true e = rw (groups-last n (ltb-true n 128 e)) (omega arith)
    by rest false e =
        let few : length (groups (n / 128)) ≤ suc k = rest (omega (arith, grows)) in
        rw (groups-more n (ltb-false n 128 e)) (omega arith)

pub spell_with-one : (f n : ℕ) → n < 64 → spell_with f n ≡ (f + n) ∷ []
unfolding spell_with
spell_with-one f n h = rw (lt-ltb n 64 h, spell_with)

pub spell_with-more : (f n : ℕ) → 64 ≤ n → spell_with f n ≡ (f + 128 + n % 64) ∷ groups (n / 64)
unfolding spell_with
spell_with-more f n h = rw (le-ltb n 64 h, spell_with)

-- ---- by the first octet

-- the sign that a first octet says
pub sign-yes : (b n : ℕ) → b % 128 < 64 → sign (positive b) n ≡ pos n
sign-yes b n h = rw (lt-ltb (b % 128) 64 h)

pub sign-no : (b n : ℕ) → 64 ≤ b % 128 → sign (positive b) n ≡ negsuc n
sign-no b n h = rw (le-ltb (b % 128) 64 h)

pub mag-sign : (t : Bool) (n : ℕ) → mag (sign t n) ≡ n
mag-sign true n = refl
mag-sign false n = refl

-- the spelling of what the first octet b and n say
module _ (b n : ℕ) where
  abbrev bit : ℕ
  bit = sign_bit (sign (positive b) n)

  bit_is : b < 256 → (bit + b % 64 ≡ b % 128) × (bit ≤ 64)
  bit_is h = by (ltb (b % 128) 64) refl
    where
      by : (t : Bool) → ltb (b % 128) 64 ≡ t → (sign_bit (sign t n) + b % 64 ≡ b % 128) × (sign_bit (sign t n) ≤ 64)
      by true e = let q : b % 128 < 64 = ltb-true _ 64 e in omega arith
      by false e = let q : 64 ≤ b % 128 = ltb-false _ 64 e in omega arith

pub spelt-one : (b : ℕ) → b < 128 → spell_int (sign (positive b) (b % 64)) ≡ b ∷ []
unfolding spell_int
spelt-one b h =
    let q = bit_is b (b % 64) (omega arith) in
    rw (mag-sign (positive b) (b % 64)) (spell_with-one _ (b % 64) (omega arith) ∙ ap (λ (x : ℕ). x ∷ []) (omega arith))

pub spelt-more : (b m : ℕ) → 128 ≤ b → b < 256 → 0 < m → spell_int (sign (positive b) (b % 64 + 64 * m)) ≡ b ∷ groups m
unfolding spell_int
spelt-more b m h g p =
    let q = bit_is b (b % 64 + 64 * m) g in
    rw (mag-sign (positive b) (b % 64 + 64 * m)) (spell_with-more _ (b % 64 + 64 * m) (omega arith) ∙ ap₂ (λ (x y : ℕ). x ∷ groups y) (omega arith) (omega arith))

-- every integer is spelt by one octet, or by a first octet and groups
pub data Spelt (z : ℤ) : Type 0 where
  one : (b : ℕ) → spell_int z ≡ b ∷ [] → b < 128 → b % 64 ≡ mag z → sign (positive b) (mag z) ≡ z → Spelt z
  more : (b m : ℕ) → spell_int z ≡ b ∷ groups m → 128 ≤ b → 0 < m → b % 64 + 64 * m ≡ mag z → sign (positive b) (mag z) ≡ z → Spelt z

signed_back : (b : ℕ) (z : ℤ) → b % 128 / 64 ≡ sign_bit z / 64 → sign (positive b) (mag z) ≡ z
signed_back b (pos n) h = sign-yes b n (omega arith)
signed_back b (negsuc n) h = sign-no b n (omega arith)

bit-of : (z : ℤ) → (sign_bit z % 64 ≡ 0) × (sign_bit z < 128)
bit-of (pos n) = (refl, lit< tt)
bit-of (negsuc n) = (refl, lit< tt)

same_bit : (f x : ℕ) → f % 64 ≡ 0 → f < 128 → x < 64 → (f + 128 + x) % 128 / 64 ≡ f / 64
same_bit f x a b c = omega arith

pub spelt : (z : ℤ) → Spelt z
unfolding spell_int
spelt z = by (sign_bit z) (mag z) (bit-of z).0 (bit-of z).1 refl refl (λ b. signed_back b z) (ltb (mag z) 64) refl
  where
    by : (f n : ℕ) → f % 64 ≡ 0 → f < 128 → spell_int z ≡ spell_with f n → n ≡ mag z → ((b : ℕ) → b % 128 / 64 ≡ f / 64 → sign (positive b) (mag z) ≡ z) → (t : Bool) → ltb n 64 ≡ t → Spelt z
    by f n d c u m s true e =
        let q : n < 64 = ltb-true n 64 e in
        one (f + n) (u ∙ spell_with-one f n q) (omega arith) (omega arith) (s (f + n) (omega arith))
    by f n d c u m s false e =
        let q : 64 ≤ n = ltb-false n 64 e in
        more (f + 128 + n % 64) (n / 64) (u ∙ spell_with-more f n q) (omega arith) (omega arith) (omega arith) (s (f + 128 + n % 64) (same_bit f (n % 64) d c (omega arith)))

-- ---- how long a spelling is

pub length-one : (f n : ℕ) → n < 64 → length (spell_with f n) ≡ 1
length-one f n h = ap length (spell_with-one f n h)

pub length_more : (f n : ℕ) → 64 ≤ n → length (spell_with f n) ≡ length (groups (n / 64)) + 1
length_more f n h = rw (spell_with-more f n h) (omega arith)

-- the groups left to count
pub record Counted (m₀ m count : ℕ) : Type 0 where
  pub total : length (groups m) + count ≡ length (groups m₀) + 2
  pub few : length (groups m₀) ≤ 9

pub counted-first : (n : ℕ) → n < 2 ^ 64 → Counted (n / 64) (n / 64) 2
counted-first n h = record { total = refl; few = groups-few 8 (n / 64) (omega arith) }

pub counted-again : {m₀ m count : ℕ} → Counted m₀ m count → 128 ≤ m → Counted m₀ (m / 128) (count + 1)
counted-again {m₀} {m} {count} k h = record { total = omega (arith, ap length (groups-more m h), k.total); few = k.few }

pub counted-last : {m₀ m count : ℕ} → Counted m₀ m count → m < 128 → count ≡ length (groups m₀) + 1
counted-last {m₀} {m} {count} k h = omega (arith, ap length (groups-last m h), k.total)

pub sign_bit-le : (z : ℤ) → sign_bit z ≤ 64
sign_bit-le (pos n) = lit≤ tt
sign_bit-le (negsuc n) = lit≤ tt

-- an integer of one octet, by its sign
pub one-positive : (b : ℕ) → b < 64 → pos b ≡ sign (positive b) (b % 64)
one-positive b h = ap pos (omega arith) ∙ sym (sign-yes b (b % 64) (omega arith))

pub one-negative : (b : ℕ) → 64 ≤ b → b < 128 → negsuc (b - 64) ≡ sign (positive b) (b % 64)
one-negative b h g = ap negsuc (omega arith) ∙ sym (sign-no b (b % 64) (omega arith))

-- and one of several
pub more-positive : (b n : ℕ) → 128 ≤ b → b < 192 → pos n ≡ sign (positive b) n
more-positive b n h g = sym (sign-yes b n (omega arith))

pub more-negative : (b n : ℕ) → 192 ≤ b → b < 256 → negsuc n ≡ sign (positive b) n
more-negative b n h g = sym (sign-no b n (omega arith))
