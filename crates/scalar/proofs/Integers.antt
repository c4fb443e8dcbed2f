-- Integers of which only the place past them is asked: how many octets they have and which is the last says whether they fit.
use mathlib.Core.Path.{◌≡◌, refl, sym, subst, ◌∙◌}
use mathlib.Core.Bool.{Bool, true, false, cond}
use mathlib.Core.List.{List}
use Prim.Native.Nat.{ℕ, zero, suc, ◌+◌, ◌-◌, ◌*◌, ◌/◌, ◌%◌, ◌^◌, ◌<◌, ◌≤◌}
use native.Mathlib.Omega.{arith}
use native.Mathlib.Nat.{pow-suc, pow-le-pow_right, mul-le-mul_left, le_trans}
use lib.ListN.{length, get_or}
use lib.Count.{count_trailing_zeros}
use lib.Dec.{ltb, lit<, lit≤}
use lib.IntN.{ℤ}
use lib.Signed.{mag}
use borrow.Author.Tests.{ltb-true, ltb-false, leb-true, eqb-false, not-true, lt-ltb, le-leb, ne_eqb}
use Rattle.reading.specs.declared.Refusal.{Refusal}
use Rattle.reading.specs.Reading.{Env, got, refusal, stand}
use Rattle.integer.specs.Packed.{wide32, sign, positive, integer}
use Rattle.std.specs.Prelude.{Result, Ok, Err}
use Rattle.integer.specs.Answers.{Reads, Tail}
use mir.Syntax.{w32}
use mir.Val.{to_z, of_z}
use Rattle.integer.proofs.Signs.{returned}
use Rattle.integer.specs.Windows.{little, ends, sevens_at, Ending}
use Rattle.integer.proofs.Windows.{ends-few, ends-first, ends-past}
use Rattle.integer.proofs.Steps.{tail-joined, tail-ends, ending-after, further-last, sevens-below, found-mag, integer-end, integer-one, told}
use Rattle.scalar.specs.declared.Bits.{Bits}
use Rattle.scalar.specs.declared.Bits.TheVariants.{Bits16, Bits32, Bits64}
use Rattle.scalar.specs.Answers.{width_of, most_of, fitting, Passes, PastOf, Ahead, Runs}
use Rattle.reading.proofs.Tests.{and_split}
use Rattle.scalar.proofs.Passing.{passes-got, passes-stop}

-- ---- the last octet says whether the integer fits

within-most : (f t i b : ℕ) → suc i * 256 + b ≤ suc f * 256 + t → b < 128 → t < 128 → 128 ^ i * (b + 1) ≤ 128 ^ f * (t + 1)
within-most f t i b h g k = by (ltb i f) refl
  where
    by : (x : Bool) → ltb i f ≡ x → 128 ^ i * (b + 1) ≤ 128 ^ f * (t + 1)
    by true e =
        let l : i < f = ltb-true i f e in
        let up : 128 ^ suc i ≤ 128 ^ f = pow-le-pow_right {n = 128} (lit< tt) {i = suc i} {j = f} l in
        let q : 128 ^ suc i ≡ 128 ^ i * 128 = pow-suc 128 i in
        le_trans (mul-le-mul_left {m = b + 1} {n = 128} (128 ^ i) (omega arith)) (omega (arith, mul-le-mul_left {m = 1} {n = t + 1} (128 ^ f) (omega arith)))
    by false e =
        let l : f ≤ i = ltb-false i f e in
        let is : i ≡ f = omega arith in
        rw is (mul-le-mul_left {m = b + 1} {n = t + 1} (128 ^ f) (omega arith))

holds : (w : Bits) (i b : ℕ) → suc i * 256 + b ≤ most_of w → b < 128 → 64 * (128 ^ i * (b + 1)) ≤ (width_of w).bound
holds Bits16 i b h g = omega (arith, within-most 1 3 i b h g (lit< tt))
holds Bits32 i b h g = omega (arith, within-most 3 15 i b h g (lit< tt))
holds Bits64 i b h g = omega (arith, within-most 6 127 i b h g (lit< tt))

few-follow : (w : Bits) (i b : ℕ) → suc i * 256 + b ≤ most_of w → i < (width_of w).more
few-follow Bits16 i b h = omega arith
few-follow Bits32 i b h = omega arith
few-follow Bits64 i b h = omega arith

module _ (w : Bits) {o : List ℕ} {at : ℕ} (room : at + 8 ≤ length o) where
  ends-after : (i : ℕ) → i < 7 → 128 ≤ get_or o at 0 → Ending o (at + 1) i → (get_or o (at + 1 + i) 0 ≡ 0 → ⊥) → suc i * 256 + get_or o (at + 1 + i) 0 ≤ most_of w
      → Passes 1 o at (integer (width_of w)) (Ok (at + 1 + i + 1))
  ends-after i few first end ne most = passes-got _ is (omega arith) (omega arith)
    where
      n : ℕ
      n = get_or o at 0 % 64 + 64 * sevens_at (suc i) o (at + 1)

      fits : n < (width_of w).bound
      fits = omega (arith, holds w i (get_or o (at + 1 + i) 0) most end.off, sevens-below o i (at + 1) end.off)

      is : (e : Env) → integer (width_of w) (stand o at e) ≡ got (sign (positive (get_or o at 0)) n) (stand o (at + 1 + i + 1) e)
      is e = found-mag {w = width_of w} (tail-ends {bound = (width_of w).bound} (few-follow w i (get_or o (at + 1 + i) 0) most) (omega arith) end refl (rw (ne_eqb _ 0 ne, lt-ltb n (width_of w).bound fits))) (omega arith) first refl e

-- the width that is asked for
pub of_width : {w u : Bits} {o : List ℕ} {at : ℕ} {r : Result ℕ Refusal} → w ≡ u → Passes 1 o at (integer (width_of u)) r → Passes 1 o at (integer (width_of w)) r
of_width {o} {at} {r} q h = subst (λ (w : Bits). Passes 1 o at (integer (width_of w)) r) (sym q) h

pub bound-is : (w : Bits) → 64 ≤ (width_of w).bound
bound-is Bits16 = lit≤ tt
bound-is Bits32 = lit≤ tt
bound-is Bits64 = lit≤ tt

pub past_end : (w : Bits) {o : List ℕ} {at : ℕ} → length o ≤ at → Passes 1 o at (integer (width_of w)) (Err (refusal 1 at))
past_end w {o} {at} h = passes-stop λ e. integer-end (width_of w) o at e h

pub past_one : (w : Bits) {o : List ℕ} {at : ℕ} → at < length o → get_or o at 0 < 128 → Passes 1 o at (integer (width_of w)) (Ok (at + 1))
past_one w {o} {at} h g = passes-got _ (λ e. integer-one (width_of w) o at e (bound-is w) h g) (omega arith) (omega arith)

-- an integer whose last octet is k octets after its first
ends-pass : (w : Bits) {o : List ℕ} {at : ℕ} (k : ℕ) → at + 8 ≤ length o → k < 8 → Ending o at k → fitting w k (get_or o (at + k) 0) ≡ true
    → Passes 1 o at (integer (width_of w)) (Ok (at + k + 1))
ends-pass w {o} {at} zero room few end t =
    let here : at + 0 ≡ at = omega arith in
    rw here (past_one w (omega arith) (rw here at end.off))
ends-pass w {o} {at} (suc i) room few end t =
    let here : at + 0 ≡ at = omega arith in
    let there : at + suc i ≡ at + 1 + i = omega arith in
    let tests = and_split _ _ (rw (there, ne_eqb (suc i) 0 (λ e. omega arith)) at t) in
    rw there (ends-after w room i (omega arith) (rw here at (end.on 0 (omega arith))) (ending-after end) (eqb-false _ 0 (not-true _ tests.0)) (leb-true _ _ tests.1))

-- the same by eight octets at once
pub word-passes : (w : Bits) (o : List ℕ) (at : ℕ) {e k : ℕ} {t : Bool} → at + 8 ≤ length o → ((i : ℕ) → get_or o i 0 < 256) → e ≡ ends 8 (little 8 o at) → (e ≡ 0 → ⊥)
    → k ≡ count_trailing_zeros 64 e / 8 → t ≡ fitting w k (get_or o (at + k) 0) → t ≡ true → Passes 1 o at (integer (width_of w)) (Ok (at + 1 + k))
word-passes w o at {e} {k} room small is ne first t on =
    let past : at + 1 + k ≡ at + k + 1 = omega arith in
    rw past (ends-pass w k room (ends-few o at small refl is ne first) (ends-first o at small refl is ne first) (sym t ∙ on))

-- ---- integers, one after another

-- as the code tests it: where k isn't 0, k ≤ b * 8 says that b isn't 0
fits_by : (w : Bits) (k b : ℕ) {most : ℕ} → most ≡ most_of w → k ≤ b * 8 → k * 256 + b ≤ most → fitting w k b ≡ true
fits_by w zero b q g h = rw (le-leb (0 * 256 + b) (most_of w) (omega arith))
fits_by w (suc k) b q g h = rw (ne_eqb (suc k) 0 (λ e. omega arith), ne_eqb b 0 (λ e. omega arith), le-leb (suc k * 256 + b) (most_of w) (omega arith))

-- nothing is known where sixteen octets aren't there
ahead : {o : List ℕ} {at near far : ℕ} (t : Bool) → near ≡ cond t (ends 8 (little 8 o at)) 0 → far ≡ cond t (ends 8 (little 8 o (at + 8))) 0 → Ahead o at near far
ahead true n f = record { known = λ ne. (n, f) }
ahead false n f = record { known = λ ne. absurd (ne n) }

module _ (w : Bits) {o : List ℕ} {at : ℕ} {r : Result ℕ Refusal} (h : Passes 1 o at (integer (width_of w)) r) where
  pub next-within : {next : ℕ} → r ≡ Ok next → next ≤ length o
  next-within q = (subst (PastOf 1 o at) q h.past).1

  pub runs-got : {next near far : ℕ} (t : Bool) → r ≡ Ok next → near ≡ cond t (ends 8 (little 8 o next)) 0 → far ≡ cond t (ends 8 (little 8 o (next + 8))) 0
      → Runs w o at (Ok (next, near, far))
  runs-got t q n f = record { is = (subst (Passes 1 o at (integer (width_of w))) q h, ahead t n f) }

  pub runs-stop : {x : Refusal} → r ≡ Err x → Runs w o at (Err x)
  runs-stop q = record { is = subst (Passes 1 o at (integer (width_of w))) q h }

-- by the ends of the sixteen octets ahead
pub runs_on : (w : Bits) (o : List ℕ) (at : ℕ) {near far most r s : ℕ} (k : ℕ) → at + 24 ≤ length o → ((i : ℕ) → get_or o i 0 < 256) → Ahead o at near far → (near ≡ 0 → ⊥)
    → k ≡ count_trailing_zeros 64 near / 8 → most ≡ most_of w → k ≤ get_or o (at + k) 0 * 8 → k * 256 + get_or o (at + k) 0 ≤ most
    → r ≡ near / 2 ^ (count_trailing_zeros 64 near + 1) + far % 2 ^ (count_trailing_zeros 64 near + 1) * 2 ^ (63 - count_trailing_zeros 64 near) → s ≡ ends 8 (little 8 o (at + k + 9))
    → Runs w o at (Ok (at + k + 1, r, s))
runs_on w o at k room small a ne first q g h er es =
    let known = a.known ne in
    let past : at + 1 + k ≡ at + k + 1 = omega arith in
    let then : at + k + 1 + 8 ≡ at + k + 9 = omega arith in
    let passed = word-passes w o at (omega arith) small known.0 ne first refl (fits_by w k (get_or o (at + k) 0) q g h) in
    record { is = (rw past at passed, record { known = λ _. (ends-past o at small known.0 known.1 ne refl first er, rw then es) }) }

-- ---- an integer of one or two octets

module _ {o : List ℕ} {at : ℕ} (h : at < length o) {z : ℤ} where
  pub reads-one : mag z < 2 ^ 31 → get_or o at 0 < 128 → z ≡ sign (positive (get_or o at 0)) (get_or o at 0 % 64) → Reads (λ z. z) wide32 o at (Ok (at + 1, to_z w32 (of_z w32 z)))
  reads-one f g q = record { same = λ e. told (returned w32 f q) (integer-one wide32 o at e (lit≤ tt) h g); past = (omega arith, omega arith) }

  pub reads_two : mag z < 2 ^ 31 → 128 ≤ get_or o at 0 → at + 2 ≤ length o → 0 < get_or o (at + 1) 0 → get_or o (at + 1) 0 < 128
      → z ≡ sign (positive (get_or o at 0)) (get_or o at 0 % 64 + 64 * get_or o (at + 1) 0) → Reads (λ z. z) wide32 o at (Ok (at + 2, to_z w32 (of_z w32 z)))
  reads_two f g w low high q = record { same = λ e. told (returned w32 f q) (found-mag {w = wide32} tail h g refl e); past = (omega arith, w) }
    where
      next : at + 1 + 1 ≡ at + 2
      next = omega arith

      tail : Tail 4 (2 ^ 31) o at (get_or o at 0) (Ok (at + 2, get_or o at 0 % 64 + 64 * get_or o (at + 1) 0))
      tail = tail-joined 4 (2 ^ 31) o at (get_or o at 0) (get_or o (at + 1) 0) (get_or o (at + 1) 0) (at + 2) _ (λ e. rw next at (further-last o (at + 1) e 3 at (omega arith) high)) (omega arith) w
          (rw (ne_eqb (get_or o (at + 1) 0) 0 (λ z. omega arith), lt-ltb (get_or o at 0 % 64 + 64 * get_or o (at + 1) 0) (2 ^ 31) (omega arith)))
