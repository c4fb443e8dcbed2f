-- Eight octets at once: where the first octet that isn't continued stands, and the bits up to it, as the code finds them by operations on bits.
use mathlib.Core.Path.{◌≡◌, refl, sym, ap, ap₂, subst, ◌∙◌}
use mathlib.Core.Bool.{Bool, true, false, cond}
use mathlib.Core.List.{List}
use Prim.Native.Nat.{ℕ, zero, suc, ◌+◌, ◌-◌, ◌*◌, ◌/◌, ◌%◌, ◌^◌, ◌<◌, ◌≤◌}
use native.Mathlib.Omega.{arith}
use lib.ListN.{get_or}
use lib.Dec.{ltb, lit<, lit≤}
use lib.Bits.{bit_and, bit_xor, and_le_l, and_block, and_mask, and_high, xor_block, xor_self, and_zero_r, shifted_half, shifted_even}
use lib.Pow.{pow-add, pow_pos, pow_mono, mod-pow-add, mod-mod-pow, shr-shr, shr_lt, shl-shr, high, low}
use native.Mathlib.Nat.{add-sub_cancel_left, mul-div_cancel_left, div-add-mod', mod-lt, lt_of_lt_of_le, mul_comm, mul_assoc, suc-mul, mul-mod_left, mul-le-mul_right, pow-suc, div-le_self, pos_of_ne-zero}
use lib.Count.{count_trailing_zeros, under}
use borrow.Author.Tests.{ltb-true, ltb-false}
use Rattle.integer.specs.Windows.{little, ends, lead, folded, sevens, sevens_at, Ending}

-- ---- the word

-- m and j more
abbrev pub up : ℕ → ℕ → ℕ
up zero m = m
up (suc j) m = suc (up j m)

-- n octets, and then m
little-join : (n m : ℕ) (o : List ℕ) (at : ℕ) → little (up n m) o at ≡ little n o at + 256 ^ n * little m o (at + n)
unfolding little
little-join zero m o at = let here : at + 0 ≡ at = omega arith in rw here (omega arith)
little-join (suc n) m o at =
    let there : at + 1 + n ≡ at + suc n = omega arith in
    rw (little-join n m o (at + 1), there, pow-suc 256 n, mul_comm (256 ^ n) 256, mul_assoc 256 (256 ^ n) (little m o (at + suc n))) (omega arith)

little-four : (o : List ℕ) (at : ℕ) → get_or o at 0 + 256 * get_or o (at + 1) 0 + 65536 * get_or o (at + 2) 0 + 16777216 * get_or o (at + 3) 0 ≡ little 4 o at
unfolding little
little-four o at =
    let two : at + 1 + 1 ≡ at + 2 = omega arith in
    let three : at + 2 + 1 ≡ at + 3 = omega arith in
    rw (two, three) (omega arith)

-- octet by octet, as from_le_bytes adds them
pub little-eight : (o : List ℕ) (at : ℕ)
    → get_or o at 0 + get_or o (at + 1) 0 * 256 ^ 1 + get_or o (at + 2) 0 * 256 ^ 2 + get_or o (at + 3) 0 * 256 ^ 3 + get_or o (at + 4) 0 * 256 ^ 4 + get_or o (at + 5) 0 * 256 ^ 5 + get_or o (at + 6) 0 * 256 ^ 6 + get_or o (at + 7) 0 * 256 ^ 7 ≡ little 8 o at
little-eight o at =
    let five : at + 4 + 1 ≡ at + 5 = omega arith in
    let six : at + 4 + 2 ≡ at + 6 = omega arith in
    let seven : at + 4 + 3 ≡ at + 7 = omega arith in
    let f = little-four o at in
    let g = rw (five, six, seven) at (little-four o (at + 4)) in
    let whole : little 4 o at + 4294967296 * little 4 o (at + 4) ≡ little 8 o at = sym (little-join 4 4 o at) in
    omega (arith, f, g, whole)

-- ---- the ends

octet-apart : (w : ℕ) → w ≡ w / 256 * 2 ^ 8 + w % 256
octet-apart w = omega arith

-- 128 in the place of each of n octets
abbrev pub marks : ℕ → ℕ
marks zero = 0
marks (suc n) = marks n * 2 ^ 8 + 128

mark : (r : ℕ) → r < 256 → bit_and r 128 + cond (ltb r 128) 128 0 ≡ 128
mark r h = by (ltb r 128) refl
  where
    is : bit_and r 128 ≡ r / 128 % 2 * 128
    is = and_high r 1 7

    by : (t : Bool) → ltb r 128 ≡ t → bit_and r 128 + cond t 128 0 ≡ 128
    by true e = omega (arith, is, ltb-true r 128 e)
    by false e = omega (arith, is, ltb-false r 128 e)

pub marks-ends : (n w : ℕ) → bit_and w (marks n) + ends n w ≡ marks n
unfolding ends
marks-ends zero w = rw (and_zero_r w)
marks-ends (suc n) w =
    let high = marks-ends n (w / 256) in
    let low = mark (w % 256) (omega arith) in
    let apart : bit_and w (marks n * 2 ^ 8 + 128) ≡ bit_and (w / 256) (marks n) * 2 ^ 8 + bit_and (w % 256) 128
    = ap (λ (x : ℕ). bit_and x (marks n * 2 ^ 8 + 128)) (octet-apart w) ∙ and_block 8 (w / 256) (marks n) (w % 256) 128 (omega arith) (lit< tt) in
    omega (arith, high, low, apart)

-- ---- the first of them

-- the bits of n octets
abbrev pub wide : ℕ → ℕ
wide zero = 0
wide (suc n) = up 8 (wide n)

-- zeros below a number that is shifted
shifted-zeros : (j m x : ℕ) → count_trailing_zeros (up j m) (x * 2 ^ j) ≡ count_trailing_zeros m x + j
unfolding count_trailing_zeros
shifted-zeros zero m x = let z : x * 2 ^ 0 ≡ x = omega arith in ap (count_trailing_zeros m) z ∙ omega arith
shifted-zeros (suc j) m x = rw (shifted_even x j, shifted_half x j, shifted-zeros j m x) (omega arith)

odd-none : (m x : ℕ) → count_trailing_zeros (suc m) (x * 2 + 1) ≡ 0
unfolding count_trailing_zeros
odd-none m x = let z : (x * 2 + 1) % 2 ≡ 1 = omega arith in rw z

first-is : (n w : ℕ) → count_trailing_zeros (wide n) (ends n w) / 8 ≡ lead n w
unfolding ends lead count_trailing_zeros
first-is zero w = refl
first-is (suc n) w = by (ltb (w % 256) 128) (ends n (w / 256)) (lead n (w / 256)) (first-is n (w / 256))
  where
    by : (t : Bool) (e k : ℕ) → count_trailing_zeros (wide n) e / 8 ≡ k → count_trailing_zeros (up 8 (wide n)) (cond t 128 0 + 256 * e) / 8 ≡ cond t 0 (suc k)
    by true e k h =
        let is : 128 + 256 * e ≡ (e * 2 + 1) * 2 ^ 7 = omega arith in
        rw (is, shifted-zeros 7 (suc (wide n)) (e * 2 + 1), odd-none (wide n) e)
    by false e k h =
        let is : 0 + 256 * e ≡ e * 2 ^ 8 = omega arith in
        rw (is, shifted-zeros 8 (wide n) e) (omega (arith, h))

-- a number has fewer zeros below than digits
pub zeros-lt : (k n : ℕ) → 0 < n → n < 2 ^ k → count_trailing_zeros k n < k
unfolding count_trailing_zeros
zeros-lt zero n h g = absurd (omega arith)
zeros-lt (suc k) n h g = by (n % 2) refl (zeros-lt k (n / 2))
  where
    by : (d : ℕ) → n % 2 ≡ d → (0 < n / 2 → n / 2 < 2 ^ k → count_trailing_zeros k (n / 2) < k) → under d (count_trailing_zeros k (n / 2)) < suc k
    by zero e f = omega (arith, f (omega arith) (omega (arith, pow-suc 2 k)))
    by (suc d) e f = omega arith

-- one of the octets isn't continued where there is an end
ends-lead : (n w : ℕ) → 0 < ends n w → lead n w < n
unfolding ends lead
ends-lead zero w h = absurd (omega arith)
ends-lead (suc n) w h = by (ltb (w % 256) 128) (ends n (w / 256)) (lead n (w / 256)) (ends-lead n (w / 256)) h
  where
    by : (t : Bool) (e k : ℕ) → (0 < e → k < n) → 0 < cond t 128 0 + 256 * e → cond t 0 (suc k) < suc n
    by true e k f h = omega arith
    by false e k f h = omega (arith, f (omega arith))

-- the first octet has its mark, so it isn't continued
one_only : (n w : ℕ) → ends (suc n) w % 256 ≡ 128 → w % 256 < 128
unfolding ends
one_only n w h = by (ltb (w % 256) 128) refl h
  where
    by : (t : Bool) → ltb (w % 256) 128 ≡ t → (cond t 128 0 + 256 * ends n (w / 256)) % 256 ≡ 128 → w % 256 < 128
    by true e h = ltb-true (w % 256) 128 e
    by false e h = absurd (omega arith)

-- ---- the octets up to it

up_is : (j m : ℕ) → up j m ≡ m + j
up_is zero m = omega arith
up_is (suc j) m = omega (arith, up_is j m)

power : (m : ℕ) → 2 ^ up 8 m ≡ 2 ^ m * 256
power m = ap (λ (x : ℕ). 2 ^ x) (up_is 8 m) ∙ pow-add 2 m 8

-- the lowest set bit and all below it
up_to : (n w : ℕ) → 0 < ends n w → bit_xor (ends n w) (ends n w - 1) ≡ 2 ^ wide (suc (lead n w)) - 1
unfolding ends lead
up_to zero w h = absurd (omega arith)
up_to (suc n) w h = by (ltb (w % 256) 128) (ends n (w / 256)) (lead n (w / 256)) (up_to n (w / 256)) h
  where
    by : (t : Bool) (e k : ℕ) → (0 < e → bit_xor e (e - 1) ≡ 2 ^ wide (suc k) - 1) → 0 < cond t 128 0 + 256 * e
        → bit_xor (cond t 128 0 + 256 * e) (cond t 128 0 + 256 * e - 1) ≡ 2 ^ wide (suc (cond t 0 (suc k))) - 1
    by true e k f h =
        let a : 128 + 256 * e ≡ e * 2 ^ 8 + 128 = omega arith in
        let b : 128 + 256 * e - 1 ≡ e * 2 ^ 8 + 127 = omega arith in
        ap₂ bit_xor a b ∙ xor_block 8 e e 128 127 (lit< tt) (lit< tt) ∙ omega (arith, xor_self e)
    by false e k f h =
        let a : 0 + 256 * e ≡ e * 2 ^ 8 + 0 = omega arith in
        let b : 0 + 256 * e - 1 ≡ (e - 1) * 2 ^ 8 + 255 = omega arith in
        ap₂ bit_xor a b ∙ xor_block 8 e (e - 1) 0 255 (lit< tt) (lit< tt) ∙ omega (arith, f (omega arith), power (wide (suc k)), pow_pos (wide (suc k)))

-- the first k octets of a word, and no other
sevens-none : (n : ℕ) → sevens n 0 ≡ 0
unfolding sevens
sevens-none zero = refl
sevens-none (suc n) = omega (arith, sevens-none n)

cut : (n k w : ℕ) → k ≤ n → sevens n (w % 2 ^ wide k) ≡ sevens k w
unfolding sevens
cut n zero w h = let z : w % 2 ^ 0 ≡ 0 = omega arith in ap (sevens n) z ∙ sevens-none n
cut zero (suc k) w h = absurd (omega arith)
cut (suc n) (suc k) w h =
    let rest = w / 256 % 2 ^ wide k in
    let c : w % 2 ^ up 8 (wide k) ≡ rest * 256 + w % 256 = ap (λ (x : ℕ). w % 2 ^ x) (up_is 8 (wide k)) ∙ mod-pow-add w (wide k) 8 in
    let low : (rest * 256 + w % 256) % 128 ≡ w % 128 = omega arith in
    let high : (rest * 256 + w % 256) / 256 ≡ rest = omega arith in
    rw (c, low, high, cut n k (w / 256) (omega arith))

-- ---- digits that a mask keeps

pub folded-le : (mask by x : ℕ) → folded mask by x ≤ x
folded-le mask by x = omega (arith, and_le_l x mask, div-le_self (x - bit_and x mask) by)

-- of n digits of b bits each, the a low bits of each set
abbrev pub mask : ℕ → ℕ → ℕ → ℕ
mask b a zero = 0
mask b a (suc n) = mask b a n * 2 ^ b + (2 ^ a - 1)

-- those bits of a number
abbrev pub pick : ℕ → ℕ → ℕ → ℕ → ℕ
pick b a zero x = 0
pick b a (suc n) x = x % 2 ^ a + 2 ^ b * pick b a n (x / 2 ^ b)

picked : (b a n x : ℕ) → a ≤ b → bit_and x (mask b a n) ≡ pick b a n x
picked b a zero x h = and_zero_r x
picked b a (suc n) x h =
    let whole : x ≡ x / 2 ^ b * 2 ^ b + x % 2 ^ b = sym (div-add-mod' x (2 ^ b)) in
    let small : 2 ^ a - 1 < 2 ^ b = lt_of_lt_of_le (omega (arith, pow_pos a)) (pow_mono h) in
    ap (λ (y : ℕ). bit_and y (mask b a n * 2 ^ b + (2 ^ a - 1))) whole
    ∙ and_block b (x / 2 ^ b) (mask b a n) (x % 2 ^ b) (2 ^ a - 1) (mod-lt x (pow_pos b)) small
    ∙ rw (picked b a n (x / 2 ^ b) h, and_mask (x % 2 ^ b) a, low) (rw (mul_comm (pick b a n (x / 2 ^ b)) (2 ^ b)) (omega arith))
  where
    low : x % 2 ^ b % 2 ^ a ≡ x % 2 ^ a
    low = let z : b - a + a ≡ b = omega arith in ap (λ (k : ℕ). x % 2 ^ k % 2 ^ a) (sym z) ∙ mod-mod-pow x (b - a) a

-- ---- seven bits of each octet, next to each other

-- a pair of octets, and a pair of pairs, of which the mask keeps the lower
kept16 : (n d m x : ℕ) → d < 128 → m < 128 → pick 16 7 (suc n) (d + 256 * (m + 256 * x)) ≡ d + 65536 * pick 16 7 n x
kept16 n d m x h g =
    let low : (d + 256 * (m + 256 * x)) % 128 ≡ d = omega arith in
    let high : (d + 256 * (m + 256 * x)) / 65536 ≡ x = omega arith in
    rw (low, high)

kept32 : (n d m x : ℕ) → d < 16384 → m < 16384 → pick 32 14 (suc n) (d + 65536 * (m + 65536 * x)) ≡ d + 4294967296 * pick 32 14 n x
kept32 n d m x h g =
    let low : (d + 65536 * (m + 65536 * x)) % 16384 ≡ d = omega arith in
    let high : (d + 65536 * (m + 65536 * x)) / 4294967296 ≡ x = omega arith in
    rw (low, high)

-- what a mask doesn't keep moved down
moved : (m a b : ℕ) {p x : ℕ} → 0 < m → p ≡ a → x ≡ a + m * b → p + (x - p) / m ≡ a + b
moved m a b {p} {x} h e f = rw (e, f, add-sub_cancel_left a (m * b), mul-div_cancel_left b h)

pairs : (d0 d1 d2 d3 d4 d5 d6 d7 : ℕ) → d0 < 128 → d1 < 128 → d2 < 128 → d3 < 128 → d4 < 128 → d5 < 128 → d6 < 128 → d7 < 128
    → (x : ℕ) → x ≡ d0 + 256 * (d1 + 256 * (d2 + 256 * (d3 + 256 * (d4 + 256 * (d5 + 256 * (d6 + 256 * (d7 + 256 * 0)))))))
    → pick 16 7 4 x + (x - pick 16 7 4 x) / 2 ≡ d0 + 128 * d1 + 65536 * (d2 + 128 * d3 + 65536 * (d4 + 128 * d5 + 65536 * (d6 + 128 * d7 + 65536 * 0)))
pairs d0 d1 d2 d3 d4 d5 d6 d7 h0 h1 h2 h3 h4 h5 h6 h7 x e = moved 2 (d0 + 65536 * (d2 + 65536 * (d4 + 65536 * (d6 + 65536 * 0)))) (128 * (d1 + 65536 * (d3 + 65536 * (d5 + 65536 * d7)))) (lit< tt) kept (e ∙ omega arith) ∙ omega arith
  where
    kept : pick 16 7 4 x ≡ d0 + 65536 * (d2 + 65536 * (d4 + 65536 * (d6 + 65536 * 0)))
    kept = ap (pick 16 7 4) e ∙ rw (kept16 3 d0 d1 _ h0 h1, kept16 2 d2 d3 _ h2 h3, kept16 1 d4 d5 _ h4 h5, kept16 0 d6 d7 0 h6 h7)

fours : (e0 e1 e2 e3 : ℕ) → e0 < 16384 → e1 < 16384 → e2 < 16384 → e3 < 16384
    → (y : ℕ) → y ≡ e0 + 65536 * (e1 + 65536 * (e2 + 65536 * (e3 + 65536 * 0)))
    → pick 32 14 2 y + (y - pick 32 14 2 y) / 4 ≡ e0 + 16384 * e1 + 4294967296 * (e2 + 16384 * e3)
fours e0 e1 e2 e3 h0 h1 h2 h3 y e = moved 4 (e0 + 4294967296 * (e2 + 4294967296 * 0)) (16384 * (e1 + 4294967296 * e3)) (lit< tt) kept (e ∙ omega arith) ∙ omega arith
  where
    kept : pick 32 14 2 y ≡ e0 + 4294967296 * (e2 + 4294967296 * 0)
    kept = ap (pick 32 14 2) e ∙ rw (kept32 1 e0 e1 _ h0 h1, kept32 0 e2 e3 0 h2 h3)

halves-joined : (f0 f1 z : ℕ) → f0 < 268435456 → z ≡ f0 + 4294967296 * f1 → z % 268435456 + (z - z % 268435456) / 16 ≡ f0 + 268435456 * f1
halves-joined f0 f1 z h e = moved 16 f0 (268435456 * f1) (lit< tt) (omega arith) (e ∙ omega arith)

-- pairs of octets, pairs of these, and the two halves
folded-is : (c x y z : ℕ) → x ≡ pick 8 7 8 c → y ≡ pick 16 7 4 x + (x - pick 16 7 4 x) / 2 → z ≡ pick 32 14 2 y + (y - pick 32 14 2 y) / 4
    → z % 268435456 + (z - z % 268435456) / 16 ≡ sevens 8 c
unfolding sevens
folded-is c x y z ex ey ez = by (c % 128) (c / 256 % 128) (c / 256 / 256 % 128) (c / 256 / 256 / 256 % 128) (c / 256 / 256 / 256 / 256 % 128)
    (c / 256 / 256 / 256 / 256 / 256 % 128) (c / 256 / 256 / 256 / 256 / 256 / 256 % 128) (c / 256 / 256 / 256 / 256 / 256 / 256 / 256 % 128)
    (omega arith) (omega arith) (omega arith) (omega arith) (omega arith) (omega arith) (omega arith) (omega arith) ex
  where
    small : (a b : ℕ) → a < 128 → b < 128 → a + 128 * b < 16384
    small a b h g = omega arith

    by : (d0 d1 d2 d3 d4 d5 d6 d7 : ℕ) → d0 < 128 → d1 < 128 → d2 < 128 → d3 < 128 → d4 < 128 → d5 < 128 → d6 < 128 → d7 < 128
        → x ≡ d0 + 256 * (d1 + 256 * (d2 + 256 * (d3 + 256 * (d4 + 256 * (d5 + 256 * (d6 + 256 * (d7 + 256 * 0)))))))
        → z % 268435456 + (z - z % 268435456) / 16 ≡ d0 + 128 * (d1 + 128 * (d2 + 128 * (d3 + 128 * (d4 + 128 * (d5 + 128 * (d6 + 128 * (d7 + 128 * 0)))))))
    by d0 d1 d2 d3 d4 d5 d6 d7 h0 h1 h2 h3 h4 h5 h6 h7 e =
        let e0 = small d0 d1 h0 h1 in
        let e1 = small d2 d3 h2 h3 in
        let paired = ey ∙ pairs d0 d1 d2 d3 d4 d5 d6 d7 h0 h1 h2 h3 h4 h5 h6 h7 x e in
        let joined = ez ∙ fours (d0 + 128 * d1) (d2 + 128 * d3) (d4 + 128 * d5) (d6 + 128 * d7) e0 e1 (small d4 d5 h4 h5) (small d6 d7 h6 h7) y paired in
        halves-joined (d0 + 128 * d1 + 16384 * (d2 + 128 * d3)) (d4 + 128 * d5 + 16384 * (d6 + 128 * d7)) z (wide-small e0 e1) joined ∙ omega arith
      where
        wide-small : {a b : ℕ} → a < 16384 → b < 16384 → a + 16384 * b < 268435456
        wide-small h g = omega arith

-- the octets up to the first that isn't continued, cut off by the lowest set bit and all below it
pub held-is : (w e : ℕ) {x y z r : ℕ} → e ≡ ends 8 w → 0 < e → x ≡ bit_and (bit_and w (bit_xor e (e - 1))) (mask 8 7 8) → y ≡ folded (mask 16 7 4) 2 x
    → z ≡ folded (mask 32 14 2) 4 y → r ≡ folded (2 ^ 28 - 1) 16 z → r ≡ sevens (suc (lead 8 w)) w
held-is w e {x} {y} {z} {r} is some ex ey ez er =
    er
    ∙ ap (λ (p : ℕ). p + (z - p) / 16) (and_mask z 28)
    ∙ folded-is c x y z (ex ∙ ap (λ (p : ℕ). bit_and p (mask 8 7 8)) front ∙ picked 8 7 8 c (lit≤ tt))
    (ey ∙ ap (λ (p : ℕ). p + (x - p) / 2) (picked 16 7 4 x (lit≤ tt)))
    (ez ∙ ap (λ (p : ℕ). p + (y - p) / 4) (picked 32 14 2 y (lit≤ tt)))
    ∙ cut 8 (suc (lead 8 w)) w (ends-lead 8 w (subst (λ (e : ℕ). 0 < e) is some))
  where
    c : ℕ
    c = w % 2 ^ wide (suc (lead 8 w))

    front : bit_and w (bit_xor e (e - 1)) ≡ w % 2 ^ wide (suc (lead 8 w))
    front =
        ap (λ (e : ℕ). bit_and w (bit_xor e (e - 1))) is ∙ ap (bit_and w) (up_to 8 w (subst (λ (e : ℕ). 0 < e) is some))
        ∙ and_mask w (wide (suc (lead 8 w)))

-- ---- at a place of octets

module _ (o : List ℕ) (small : (i : ℕ) → get_or o i 0 < 256) where
  pub low-octet : (n at : ℕ) → little (suc n) o at % 256 ≡ get_or o at 0
  unfolding little
  low-octet n at = omega (arith, small at)

  high-octets : (n at : ℕ) → little (suc n) o at / 256 ≡ little n o (at + 1)
  unfolding little
  high-octets n at = omega (arith, small at)

  sevens-at : (k n at : ℕ) → k ≤ n → sevens k (little n o at) ≡ sevens_at k o at
  unfolding sevens sevens_at
  sevens-at zero n at h = refl
  sevens-at (suc k) zero at h = absurd (omega arith)
  sevens-at (suc k) (suc n) at h = rw (high-octets n at, sevens-at k n (at + 1) (omega arith)) (omega (arith, low-octet n at))

  -- the first octet that isn't continued
  first_ends : {at : ℕ} → get_or o at 0 < 128 → Ending o at 0
  first_ends {at} h = let z : at + 0 ≡ at = omega arith in record { on = λ j l. absurd (omega arith); off = rw z h }

  later-ends : {at k : ℕ} → 128 ≤ get_or o at 0 → Ending o (at + 1) k → Ending o at (suc k)
  later-ends {at} {k} h r = record { on = by; off = let z : at + suc k ≡ at + 1 + k = omega arith in rw z r.off }
    where
      by : (j : ℕ) → j < suc k → 128 ≤ get_or o (at + j) 0
      by zero l = let z : at + 0 ≡ at = omega arith in rw z h
      by (suc j) l = let z : at + suc j ≡ at + 1 + j = omega arith in rw z (r.on j (omega arith))

  lead-ends : (n at : ℕ) → lead n (little n o at) < n → Ending o at (lead n (little n o at))
  unfolding lead
  lead-ends zero at h = absurd (omega arith)
  lead-ends (suc n) at h = subst (λ (k : ℕ). k < suc n → Ending o at k) (sym step) (by (ltb (get_or o at 0) 128) refl (lead-ends n (at + 1))) h
    where
      step : lead (suc n) (little (suc n) o at) ≡ cond (ltb (get_or o at 0) 128) 0 (suc (lead n (little n o (at + 1))))
      step = rw (low-octet n at, high-octets n at)

      by : (t : Bool) → ltb (get_or o at 0) 128 ≡ t → (lead n (little n o (at + 1)) < n → Ending o (at + 1) (lead n (little n o (at + 1))))
          → cond t 0 (suc (lead n (little n o (at + 1)))) < suc n → Ending o at (cond t 0 (suc (lead n (little n o (at + 1)))))
      by true e f h = first_ends (ltb-true (get_or o at 0) 128 e)
      by false e f h = later-ends (ltb-false (get_or o at 0) 128 e) (f (omega arith))

-- ---- eight octets from a place on, none of which is continued, or not all

pub ends-one : (o : List ℕ) (at : ℕ) {w e : ℕ} → ((i : ℕ) → get_or o i 0 < 256) → w ≡ little 8 o at → e ≡ ends 8 w → e ≡ marks 8 → get_or o at 0 < 128
ends-one o at {w} {e} small word is all =
    let one : w % 256 < 128 = one_only 7 w (ap (λ (e : ℕ). e % 256) (sym is ∙ all)) in
    subst (λ (b : ℕ). b < 128) (ap (λ (w : ℕ). w % 256) word ∙ low-octet o small 7 at) one

module _ (o : List ℕ) (at : ℕ) {w e k : ℕ} (small : (i : ℕ) → get_or o i 0 < 256) (word : w ≡ little 8 o at) (is : e ≡ ends 8 w) (ne : e ≡ 0 → ⊥) (first : k ≡ count_trailing_zeros 64 e / 8) where
  leads : lead 8 w ≡ k
  leads = sym (first ∙ ap (λ (e : ℕ). count_trailing_zeros 64 e / 8) is ∙ first-is 8 w)

  few : lead 8 w < 8
  few = ends-lead 8 w (subst (λ (e : ℕ). 0 < e) is (pos_of_ne-zero ne))

  pub ends-few : k < 8
  ends-few = subst (λ (k : ℕ). k < 8) leads few

  pub ends-first : Ending o at k
  ends-first = subst (Ending o at) (ap (lead 8) (sym word) ∙ leads) (lead-ends o small 8 at (subst (λ (w : ℕ). lead 8 w < 8) word few))

  pub ends_held : {bits : ℕ} → bits ≡ sevens (suc (lead 8 w)) w → bits ≡ sevens_at (suc k) o at
  ends_held q = q ∙ ap (λ (k : ℕ). sevens (suc k) w) leads ∙ ap (sevens (suc k)) word ∙ sevens-at o small (suc k) 8 at ends-few

-- ---- further on

-- as the code moves a word's bits down, and the next word's into their place
module _ (near far z : ℕ) (h : z < 64) (fits : near < 2 ^ 64) where
  all : 63 - z + (z + 1) ≡ 64
  all = omega arith

  turned : z + 1 + (63 - z) ≡ 64
  turned = omega arith

  moved-near : near / 2 ^ z / 2 ≡ near / 2 ^ (z + 1)
  moved-near = shr-shr near z 1

  moved-far : far * 2 ^ (63 - z) % 2 ^ 64 ≡ far % 2 ^ (z + 1) * 2 ^ (63 - z)
  moved-far =
      ap (λ (k : ℕ). far * 2 ^ (63 - z) % 2 ^ k) (sym turned) ∙ mod-pow-add (far * 2 ^ (63 - z)) (z + 1) (63 - z)
      ∙ rw (shl-shr far (63 - z), mul-mod_left far (2 ^ (63 - z))) (omega arith)

  pub moved-is : near / 2 ^ z / 2 + far * 2 ^ (63 - z) % 2 ^ 64 ≡ near / 2 ^ (z + 1) + far % 2 ^ (z + 1) * 2 ^ (63 - z)
  moved-is = ap₂ ◌+◌ moved-near moved-far

  pub moved-fits : near / 2 ^ z / 2 + far * 2 ^ (63 - z) % 2 ^ 64 < 2 ^ 64
  moved-fits =
      let low_part : near / 2 ^ (z + 1) < 2 ^ (63 - z) = shr_lt (63 - z) (z + 1) (subst (λ (k : ℕ). near < 2 ^ k) (sym all) fits) in
      let high_part : suc (far % 2 ^ (z + 1)) * 2 ^ (63 - z) ≤ 2 ^ (z + 1) * 2 ^ (63 - z) = mul-le-mul_right (2 ^ (63 - z)) (mod-lt far (pow_pos (z + 1))) in
      let whole : 2 ^ (z + 1) * 2 ^ (63 - z) ≡ 2 ^ 64 = sym (pow-add 2 (z + 1) (63 - z)) ∙ ap (λ (k : ℕ). 2 ^ k) turned in
      let one_more : suc (far % 2 ^ (z + 1)) * 2 ^ (63 - z) ≡ far % 2 ^ (z + 1) * 2 ^ (63 - z) + 2 ^ (63 - z) = suc-mul (far % 2 ^ (z + 1)) (2 ^ (63 - z)) in
      rw (moved-near, moved-far) (omega arith)

-- the ends of n octets from a place on
unfoldable ends_at : ℕ → List ℕ → ℕ → ℕ
ends_at zero o at = 0
ends_at (suc n) o at = cond (ltb (get_or o at 0) 128) 128 0 + 256 * ends_at n o (at + 1)

module _ (o : List ℕ) where
  ends-below : (n at : ℕ) → ends_at n o at < 2 ^ wide n
  unfolding ends_at
  ends-below zero at = lit< tt
  ends-below (suc n) at = omega (arith, power (wide n), by (ltb (get_or o at 0) 128), ends-below n (at + 1))
    where
      by : (t : Bool) → cond t 128 0 < 256
      by true = lit< tt
      by false = lit< tt

  ends_join : (n m at : ℕ) → ends_at (up n m) o at ≡ ends_at m o (at + n) * 2 ^ wide n + ends_at n o at
  unfolding ends_at
  ends_join zero m at = let here : at + 0 ≡ at = omega arith in rw here (omega arith)
  ends_join (suc n) m at =
      let there : at + 1 + n ≡ at + suc n = omega arith in
      rw (ends_join n m (at + 1), there, power (wide n), ← mul_assoc (ends_at m o (at + suc n)) (2 ^ wide n) 256) (omega arith)

  -- the ends of as many octets, n further on
  ends-further : (n m at : ℕ) {x y : ℕ} → x ≡ ends_at (up n m) o at → y ≡ ends_at (up n m) o (at + up n m)
      → x / 2 ^ wide n + y % 2 ^ wide n * 2 ^ wide m ≡ ends_at (up m n) o (at + n)
  ends-further n m at {x} {y} ex ey =
      let there : at + n + m ≡ at + up n m = omega (arith, up_is n m) in
      rw (ex, ey, ends_join n m at, ends_join n m (at + up n m), high (ends_at m o (at + n)) (wide n) (ends-below n at), low (ends_at m o (at + up n m + n)) (wide n) (ends-below n (at + up n m)), ends_join m n (at + n), there) (omega arith)

  ends-are : ((i : ℕ) → get_or o i 0 < 256) → (n at : ℕ) → ends n (little n o at) ≡ ends_at n o at
  unfolding ends ends_at
  ends-are small zero at = refl
  ends-are small (suc n) at = rw (low-octet o small n at, high-octets o small n at, ends-are small n (at + 1))

-- zeros below the first end
end-zeros : (n w : ℕ) → 0 < ends n w → count_trailing_zeros (wide n) (ends n w) ≡ 8 * lead n w + 7
unfolding ends lead
end-zeros zero w h = absurd (omega arith)
end-zeros (suc n) w h = by (ltb (w % 256) 128) (ends n (w / 256)) (lead n (w / 256)) (end-zeros n (w / 256)) h
  where
    by : (t : Bool) (e k : ℕ) → (0 < e → count_trailing_zeros (wide n) e ≡ 8 * k + 7) → 0 < cond t 128 0 + 256 * e
        → count_trailing_zeros (wide (suc n)) (cond t 128 0 + 256 * e) ≡ 8 * cond t 0 (suc k) + 7
    by true e k f h =
        let is : 128 + 256 * e ≡ (e * 2 + 1) * 2 ^ 7 = omega arith in
        rw (is, shifted-zeros 7 (suc (wide n)) (e * 2 + 1), odd-none (wide n) e)
    by false e k f h =
        let is : 0 + 256 * e ≡ e * 2 ^ 8 = omega arith in
        rw (is, shifted-zeros 8 (wide n) e, f (omega arith)) (omega arith)

wide_is : (n : ℕ) → wide n ≡ 8 * n
wide_is zero = refl
wide_is (suc n) = omega (arith, wide_is n)

-- the ends past the first, where those of the eight octets from a place on are known and those of the eight after them
pub ends-past : (o : List ℕ) (at : ℕ) {near far z k r : ℕ} → ((i : ℕ) → get_or o i 0 < 256) → near ≡ ends 8 (little 8 o at) → far ≡ ends 8 (little 8 o (at + 8)) → (near ≡ 0 → ⊥)
    → z ≡ count_trailing_zeros 64 near → k ≡ z / 8 → r ≡ near / 2 ^ (z + 1) + far % 2 ^ (z + 1) * 2 ^ (63 - z) → r ≡ ends 8 (little 8 o (at + k + 1))
ends-past o at {near} {far} {z} {k} {r} small en ef ne ez ek er =
    er ∙ rw (low_bits, high_bits, ends-are o small 8 (at + k + 1), ← turned, ← there) (ends-further o (suc k) (7 - k) at (at_place at en) far-is)
  where
    some : 0 < ends 8 (little 8 o at)
    some = subst (λ (e : ℕ). 0 < e) en (pos_of_ne-zero ne)

    zeros : z ≡ 8 * lead 8 (little 8 o at) + 7
    zeros = ez ∙ ap (count_trailing_zeros 64) en ∙ end-zeros 8 (little 8 o at) some

    few : k < 8
    few = omega (arith, zeros, ends-lead 8 (little 8 o at) some)

    low_bits : z + 1 ≡ wide (suc k)
    low_bits = omega (arith, zeros, wide_is (suc k))

    high_bits : 63 - z ≡ wide (7 - k)
    high_bits = omega (arith, zeros, few, wide_is (7 - k))

    eight : up (suc k) (7 - k) ≡ 8
    eight = omega (arith, few, up_is (suc k) (7 - k))

    turned : up (7 - k) (suc k) ≡ 8
    turned = omega (arith, few, up_is (7 - k) (suc k))

    there : at + suc k ≡ at + k + 1
    there = omega arith

    at_place : {x : ℕ} (p : ℕ) → x ≡ ends 8 (little 8 o p) → x ≡ ends_at (up (suc k) (7 - k)) o p
    at_place p e = e ∙ ends-are o small 8 p ∙ ap (λ (n : ℕ). ends_at n o p) (sym eight)

    far-is : far ≡ ends_at (up (suc k) (7 - k)) o (at + up (suc k) (7 - k))
    far-is = at_place (at + 8) ef ∙ ap (λ (n : ℕ). ends_at (up (suc k) (7 - k)) o (at + n)) (sym eight)
