-- An integer of a narrower width, as one of a wider width that is then limited.
use mathlib.Core.Path.{◌≡◌, refl, ◌∙◌}
use mathlib.Core.Bool.{Bool, true, false}
use Prim.Native.Nat.{ℕ, ◌+◌, ◌*◌, ◌%◌, ◌^◌, ◌≤◌}
use native.Mathlib.Omega.{arith}
use lib.Dec.{ltb, leb, lit≤}
use lib.IntN.{ℤ, pos, negsuc}
use lib.Signed.{mag}
use borrow.Author.Tests.{ltb-true, ltb-false}
use Rattle.reading.specs.Reading.{State, Out, got, stop, follow, ◌>>=◌, return, require, either, here, octet}
use Rattle.integer.specs.Packed.{wide16, wide32, further, sign, positive, integer}
use Rattle.integer.proofs.Spelling.{mag-sign}
use Rattle.format.specs.Data.{within}
use Rattle.scalar.proofs.Tests.{leb-below, and-true}

-- what is read at a width is what is read at a wider one of as many octets, and then limited
pub narrower : (b c more : ℕ) → b ≤ c → (s : State)
    → integer (record { bound = b; more = more }) s ≡ (integer (record { bound = c; more = more }) >>= λ z. require (ltb (mag z) b) 3 s.at >>= λ _. return z) s
unfolding integer ◌>>=◌ here require return
narrower b c more h s = first (octet s)
  where
    then : (a n : ℕ) (x : State) (t u : Bool) → ltb n b ≡ t → ltb n c ≡ u
        → follow (require t 3 s.at x) (λ _. return (sign (positive a) n)) ≡ follow (follow (require u 3 s.at x) (λ _. return (sign (positive a) n))) (λ z y. follow (require (ltb (mag z) b) 3 s.at y) (λ _. return z))
    then a n x true true p q = rw (mag-sign (positive a) n, p, require)
    then a n x true false p q = absurd (omega (arith, ltb-true n b p, ltb-false n c q))
    then a n x false true p q = rw (mag-sign (positive a) n, p, require)
    then a n x false false p q = refl

    rest : (a : ℕ) (x : Out ℕ) → follow x (λ n y. follow (require (ltb n b) 3 s.at y) (λ _. return (sign (positive a) n)))
        ≡ follow (follow x (λ n y. follow (require (ltb n c) 3 s.at y) (λ _. return (sign (positive a) n)))) (λ z y. follow (require (ltb (mag z) b) 3 s.at y) (λ _. return z))
    rest a (got n x) = then a n x (ltb n b) (ltb n c) refl refl
    rest a (stop r) = refl

    first : (x : Out ℕ) → follow x (λ a y. follow (either (ltb a 128) (return (a % 64)) (further more s.at >>= λ m. return (a % 64 + 64 * m)) y) (λ n z. follow (require (ltb n b) 3 s.at z) (λ _. return (sign (positive a) n))))
        ≡ follow (follow x (λ a y. follow (either (ltb a 128) (return (a % 64)) (further more s.at >>= λ m. return (a % 64 + 64 * m)) y) (λ n z. follow (require (ltb n c) 3 s.at z) (λ _. return (sign (positive a) n))))) (λ z y. follow (require (ltb (mag z) b) 3 s.at y) (λ _. return z))
    first (got a y) = rest a (either (ltb a 128) (return (a % 64)) (further more s.at >>= λ m. return (a % 64 + 64 * m)) y)
    first (stop r) = refl

within-small : (v : ℤ) → within (negsuc 32767) (pos 32767) v ≡ ltb (mag v) (2 ^ 15)
within-small (pos n) = leb-below n 32767
within-small (negsuc n) = and-true (leb n 32767) ∙ leb-below n 32767

limit : (s : State) (x : Out ℤ) → follow x (λ z y. follow (require (ltb (mag z) (2 ^ 15)) 3 s.at y) (λ _. return z)) ≡ follow x (λ z y. follow (require (within (negsuc 32767) (pos 32767) z) 3 s.at y) (λ _. return z))
limit s (got z y) = rw (within-small z)
limit s (stop r) = refl

-- 01: "For int16 the integer is read as 32-bit and then limited to -32,768 to 32,767."
pub int16-limited : (s : State) → integer wide16 s ≡ (integer wide32 >>= λ z. require (within (negsuc 32767) (pos 32767) z) 3 s.at >>= λ _. return z) s
unfolding ◌>>=◌
int16-limited s = narrower (2 ^ 15) (2 ^ 31) 4 (lit≤ tt) s ∙ limit s (integer wide32 s)
