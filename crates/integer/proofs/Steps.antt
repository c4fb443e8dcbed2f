-- Packed integers at a place of the octets, step by step as code reads them.
use mathlib.Core.Path.{◌≡◌, refl, sym, ap, subst, ◌∙◌}
use mathlib.Core.Bool.{Bool, true, false, cond, not}
use mathlib.Core.List.{List}
use Prim.Native.Nat.{ℕ, zero, suc, ◌+◌, ◌-◌, ◌*◌, ◌/◌, ◌%◌, ◌^◌, ◌<◌, ◌≤◌}
use native.Mathlib.Omega.{arith}
use native.Mathlib.Nat.{mul-add, mul_assoc, mul-le-mul_left, pow-succ', pow-le-pow_right, one-le-pow, le_trans}
use lib.ListN.{length, get_or}
use lib.Count.{count_trailing_zeros}
use lib.Dec.{ltb, eqb, lit<, lit≤}
use lib.IntN.{ℤ}
use borrow.Author.Tests.{ltb-true, lt-ltb, le-ltb}
use Rattle.reading.specs.declared.Refusal.{Refusal}
use Rattle.reading.specs.Reading.{Env, State, Out, got, stop, Reader, refusal, stand, follow, ◌>>=◌, return, require, refuse, either, here}
use Rattle.reading.proofs.Places.{octet-at, octet-end}
use Rattle.integer.specs.Packed.{Width, wide64, further, sign, positive, integer}
use Rattle.integer.proofs.Windows.{marks, low-octet, ends-one, ends-few, ends-first, ends_held}
use Rattle.std.specs.Prelude.{Result, Ok, Err}
use Rattle.integer.specs.declared.Signed.{Signed}
use Rattle.integer.specs.Windows.{little, ends, lead, sevens, sevens_at, Ending}
use Rattle.integer.specs.Answers.{tail, mag_out, PastMag, Tail, joined_of, Reads, Knows64}

-- ---- the octets after the first, where m is what those before them hold and c the worth of the next

unfoldable pub scaled : ℕ → ℕ → ℕ → ℕ → Reader ℕ
scaled m c k p = further k p >>= λ n. return (m + c * n)

pub scaled-start : (k p : ℕ) (s : State) → further k p s ≡ scaled 0 1 k p s
unfolding scaled ◌>>=◌ return
scaled-start k p s = by (further k p s)
  where
    by : (x : Out ℕ) → x ≡ follow x (λ n s. got (0 + 1 * n) s)
    by (got n s) = ap (λ (m : ℕ). got m s) (omega arith)
    by (stop r) = refl

pub scaled-none : (m c p : ℕ) (s : State) → scaled m c 0 p s ≡ stop (refusal 3 p)
unfolding scaled ◌>>=◌ further refuse
scaled-none m c p s = refl

-- what ends an integer: its last octet, which isn't 0
abbrev pub lastly : ℕ → ℕ → Out ℕ → Out ℕ
lastly p b x = cond (eqb b 0) (stop (refusal 3 p)) x

module _ (o : List ℕ) (at : ℕ) (e : Env) (m c k p : ℕ) where
  pub scaled-end : length o ≤ at → scaled m c (suc k) p (stand o at e) ≡ stop (refusal 1 at)
  unfolding scaled ◌>>=◌ further
  scaled-end h = rw (octet-end o at e h)

  pub scaled-last : at < length o → get_or o at 0 < 128 → scaled m c (suc k) p (stand o at e) ≡ lastly p (get_or o at 0) (got (m + c * get_or o at 0) (stand o (at + 1) e))
  unfolding scaled ◌>>=◌ further either require return
  scaled-last h g = rw (octet-at o at e h, lt-ltb (get_or o at 0) 128 g, either) (by (eqb (get_or o at 0) 0))
    where
      by : (t : Bool) → follow (follow (require (not t) 3 p (stand o (at + 1) e)) (λ _. return (get_or o at 0))) (λ n. return (m + c * n)) ≡ cond t (stop (refusal 3 p)) (got (m + c * get_or o at 0) (stand o (at + 1) e))
      by true = refl
      by false = refl

  pub scaled-more : at < length o → 128 ≤ get_or o at 0 → scaled m c (suc k) p (stand o at e) ≡ scaled (m + c * (get_or o at 0 % 128)) (c * 128) k p (stand o (at + 1) e)
  unfolding scaled ◌>>=◌ further either return
  scaled-more h g = rw (octet-at o at e h, le-ltb (get_or o at 0) 128 g, either) (by (further k p (stand o (at + 1) e)))
    where
      by : (x : Out ℕ) → follow (follow x (λ n. return (get_or o at 0 % 128 + 128 * n))) (λ n. return (m + c * n)) ≡ follow x (λ n. return (m + c * (get_or o at 0 % 128) + c * 128 * n))
      by (got n s) = ap (λ (x : ℕ). got x s) (rw (mul-add, mul_assoc) (omega arith))
      by (stop r) = refl

-- ---- n of an integer, from the octets after its first

tail-stop : (w : Width) (b p : ℕ) (s : State) (r : Refusal) → further w.more p s ≡ stop r → tail w b p s ≡ stop r
unfolding tail ◌>>=◌
tail-stop w b p s r h = rw h

tail-got : (w : Width) (b p : ℕ) (s : State) (m : ℕ) (s' : State) → further w.more p s ≡ got m s'
    → tail w b p s ≡ cond (ltb (b % 64 + 64 * m) w.bound) (got (b % 64 + 64 * m) s') (stop (refusal 3 p))
unfolding tail ◌>>=◌ require return
tail-got w b p s m s' h = rw h (by (ltb (b % 64 + 64 * m) w.bound))
  where
    by : (t : Bool) → follow (require t 3 p s') (λ _. return (b % 64 + 64 * m)) ≡ cond t (got (b % 64 + 64 * m) s') (stop (refusal 3 p))
    by true = refl
    by false = refl

module _ (more bound : ℕ) (o : List ℕ) (at b : ℕ) where
  -- where the octets after the first refuse
  pub tail-ill : (r : Refusal) → ((e : Env) → further more at (stand o (at + 1) e) ≡ stop r) → Tail more bound o at b (Err r)
  tail-ill r h = record { same = λ e. sym (tail-stop _ b at _ r (h e)); past = tt }

  -- where they hold m and end before `next`
  pub tail-joined : (m last next : ℕ) (r : Result (ℕ × ℕ) Refusal) → ((e : Env) → further more at (stand o (at + 1) e) ≡ lastly at last (got m (stand o next e)))
      → at < next → next ≤ length o → r ≡ joined_of at b m last next bound → Tail more bound o at b r
  tail-joined m last next r h g k q = rw q (by (eqb last 0) h (ltb (b % 64 + 64 * m) bound) refl)
    where
      by : (z : Bool) → ((e : Env) → further more at (stand o (at + 1) e) ≡ cond z (stop (refusal 3 at)) (got m (stand o next e)))
          → (t : Bool) → ltb (b % 64 + 64 * m) bound ≡ t
          → Tail more bound o at b (cond z (Err (refusal 3 at)) (cond t (Ok (next, b % 64 + 64 * m)) (Err (refusal 3 at))))
      by true f t e = tail-ill (refusal 3 at) f
      by false f true e = record { same = λ x. sym (tail-got _ b at _ m _ (f x) ∙ rw e); past = (g, k, ltb-true _ bound e) }
      by false f false e = record { same = λ x. sym (tail-got _ b at _ m _ (f x) ∙ rw e); past = tt }

-- ---- the loop

pub record Turn (o : List ℕ) (at more bits scale next left : ℕ) : Type 0 where
  pub same : (e : Env) → further more at (stand o (at + 1) e) ≡ scaled bits scale left at (stand o next e)
  pub below : bits < scale
  pub room : scale * 128 ^ left ≤ 2 ^ 63
  pub past : at < next
  pub within : next ≤ length o

pub turn-first : (o : List ℕ) (at more : ℕ) → at < length o → more ≤ 9 → Turn o at more 0 1 (at + 1) more
turn-first o at more h g = record {
  same = λ e. scaled-start more at (stand o (at + 1) e);
  below = lit< tt;
  room = le_trans (omega arith) (pow-le-pow_right {n = 128} (lit< tt) {i = more} {j = 9} g);
  past = omega arith;
  within = omega arith;
}

module _ {o : List ℕ} {at more bits scale next left : ℕ} (turn : Turn o at more bits scale next left) (h : 0 < left) where
  again : left ≡ suc (left - 1)
  again = omega arith

  power : 128 ^ left ≡ 128 * 128 ^ (left - 1)
  power = ap (λ (k : ℕ). 128 ^ k) again ∙ pow-succ' 128 (left - 1)

  pub one_more : scale * 128 ≤ 2 ^ 63
  one_more =
      let q : 1 ≤ 128 ^ (left - 1) = one-le-pow (left - 1) 128 (lit< tt) in
      le_trans (mul-le-mul_left {m = 128} {n = 128 ^ left} scale (omega (arith, power))) turn.room

  pub worth : (x : ℕ) → x < 128 → bits + scale * x < scale * 128
  worth x g = omega (arith, mul-le-mul_left {m = x} {n = 127} scale (omega arith))

  pub turn-again : next < length o → 128 ≤ get_or o next 0 → Turn o at more (bits + scale * (get_or o next 0 % 128)) (scale * 128) (next + 1) (left - 1)
  turn-again g k = record {
    same = λ e. turn.same e ∙ ap (λ (j : ℕ). scaled bits scale j at (stand o next e)) again ∙ scaled-more o next e bits scale (left - 1) at g k;
    below = worth (get_or o next 0 % 128) (omega arith);
    room = rw (mul_assoc scale 128 (128 ^ (left - 1)), ← power) turn.room;
    past = omega arith;
    within = omega arith;
  }

  pub turn-ends : length o ≤ next → (e : Env) → further more at (stand o (at + 1) e) ≡ stop (refusal 1 next)
  turn-ends g e = turn.same e ∙ ap (λ (j : ℕ). scaled bits scale j at (stand o next e)) again ∙ scaled-end o next e bits scale (left - 1) at g

  pub turn_last : next < length o → get_or o next 0 < 128 → (e : Env)
      → further more at (stand o (at + 1) e) ≡ lastly at (get_or o next 0) (got (bits + scale * get_or o next 0) (stand o (next + 1) e))
  turn_last g k e = turn.same e ∙ ap (λ (j : ℕ). scaled bits scale j at (stand o next e)) again ∙ scaled-last o next e bits scale (left - 1) at g k

  pub turn-joined : {b bound : ℕ} {r : Result (ℕ × ℕ) Refusal} → next < length o → get_or o next 0 < 128
      → r ≡ joined_of at b (bits + scale * get_or o next 0) (get_or o next 0) (next + 1) bound → Tail more bound o at b r
  turn-joined {b} {bound} {r} g k q = tail-joined more bound o at b (bits + scale * get_or o next 0) (get_or o next 0) (next + 1) r (turn_last g k) (omega arith) (omega arith) q

pub turn-over : {o : List ℕ} {at more bits scale next : ℕ} → Turn o at more bits scale next 0 → (e : Env) → further more at (stand o (at + 1) e) ≡ stop (refusal 3 at)
turn-over {o} {at} {more} {bits} {scale} {next} turn e = turn.same e ∙ scaled-none bits scale at (stand o next e)

-- ---- the octets after the first, where one of them ends the integer

module _ (o : List ℕ) (n : ℕ) (e : Env) (more p : ℕ) where
  pub further-last : n < length o → get_or o n 0 < 128 → further (suc more) p (stand o n e) ≡ lastly p (get_or o n 0) (got (get_or o n 0) (stand o (n + 1) e))
  unfolding ◌>>=◌ further either require return
  further-last h g = rw (octet-at o n e h, lt-ltb (get_or o n 0) 128 g, either) (by (eqb (get_or o n 0) 0))
    where
      by : (t : Bool) → follow (require (not t) 3 p (stand o (n + 1) e)) (λ _. return (get_or o n 0)) ≡ cond t (stop (refusal 3 p)) (got (get_or o n 0) (stand o (n + 1) e))
      by true = refl
      by false = refl

  further-on : n < length o → 128 ≤ get_or o n 0 → further (suc more) p (stand o n e) ≡ follow (further more p (stand o (n + 1) e)) (λ m. return (get_or o n 0 % 128 + 128 * m))
  unfolding ◌>>=◌ further either
  further-on h g = rw (octet-at o n e h, le-ltb (get_or o n 0) 128 g, either)

pub ending-after : {o : List ℕ} {n k : ℕ} → Ending o n (suc k) → Ending o (n + 1) k
ending-after {o} {n} {k} r = record {
  on = λ j h. let z : n + 1 + j ≡ n + suc j = omega arith in rw z (r.on (suc j) (omega arith));
  off = let z : n + 1 + k ≡ n + suc k = omega arith in rw z r.off;
}

-- they hold seven bits each, and the last of them mustn't be 0
pub further-ends : (o : List ℕ) (k more p n : ℕ) → k < more → n + k < length o → Ending o n k → (e : Env)
    → further more p (stand o n e) ≡ lastly p (get_or o (n + k) 0) (got (sevens_at (suc k) o n) (stand o (n + k + 1) e))
unfolding sevens_at return
further-ends o k zero p n h g r e = absurd (omega arith)
further-ends o zero (suc more) p n h g r e =
    let here : n + 0 ≡ n = omega arith in
    let off : get_or o n 0 < 128 = rw here at r.off in
    let low : get_or o n 0 % 128 + 128 * 0 ≡ get_or o n 0 = omega arith in
    rw (here, low) (further-last o n e more p (omega arith) off)
further-ends o (suc k) (suc more) p n h g r e =
    let there : n + 1 + k ≡ n + suc k = omega arith in
    let here : n + 0 ≡ n = omega arith in
    further-on o n e more p (omega arith) (rw here at (r.on 0 (omega arith)))
    ∙ ap (λ (x : Out ℕ). follow x (λ m. return (get_or o n 0 % 128 + 128 * m))) (rw there at (further-ends o k more p (n + 1) (omega arith) (omega arith) (ending-after r) e))
    ∙ by (eqb (get_or o (n + suc k) 0) 0)
  where
    by : (t : Bool) → follow (cond t (stop (refusal 3 p)) (got (sevens_at (suc k) o (n + 1)) (stand o (n + suc k + 1) e))) (λ m. return (get_or o n 0 % 128 + 128 * m))
        ≡ cond t (stop (refusal 3 p)) (got (get_or o n 0 % 128 + 128 * sevens_at (suc k) o (n + 1)) (stand o (n + suc k + 1) e))
    by true = refl
    by false = refl

-- the last of them bounds what they hold
pub sevens-below : (o : List ℕ) (k n : ℕ) → get_or o (n + k) 0 < 128 → sevens_at (suc k) o n < 128 ^ k * (get_or o (n + k) 0 + 1)
unfolding sevens_at
sevens-below o zero n h = let here : n + 0 ≡ n = omega arith in rw here (omega arith)
sevens-below o (suc k) n h =
    let there : n + 1 + k ≡ n + suc k = omega arith in
    let below : sevens_at (suc k) o (n + 1) < 128 ^ k * (get_or o (n + suc k) 0 + 1) = rw there at (sevens-below o k (n + 1) (rw there h)) in
    rw (pow-succ' 128 k, mul_assoc 128 (128 ^ k) (get_or o (n + suc k) 0 + 1)) (omega (arith, below))

-- n of an integer whose last octet is k octets after the second
pub tail-ends : {o : List ℕ} {at more b bound k bits : ℕ} {r : Result (ℕ × ℕ) Refusal} → k < more → at + 1 + k < length o → Ending o (at + 1) k → bits ≡ sevens_at (suc k) o (at + 1)
    → r ≡ joined_of at b bits (get_or o (at + 1 + k) 0) (at + 1 + k + 1) bound → Tail more bound o at b r
tail-ends {o} {at} {more} {b} {bound} {k} {bits} {r} h g end held q =
    tail-joined more bound o at b bits (get_or o (at + 1 + k) 0) (at + 1 + k + 1) r (λ x. rw held (further-ends o k more at (at + 1) h g end x)) (omega arith) (omega arith) q

-- the same by eight octets at once
pub tail-word : (o : List ℕ) (at : ℕ) {w e k more b bound bits : ℕ} {r : Result (ℕ × ℕ) Refusal} → ((i : ℕ) → get_or o i 0 < 256) → at + 9 ≤ length o
    → w ≡ little 8 o (at + 1) → e ≡ ends 8 w → (e ≡ 0 → ⊥) → k ≡ count_trailing_zeros 64 e / 8 → k < more → bits ≡ sevens (suc (lead 8 w)) w
    → r ≡ joined_of at b bits (get_or o (at + 1 + k) 0) (at + 1 + k + 1) bound → Tail more bound o at b r
tail-word o at small room word is ne first h held q =
    tail-ends h (omega (arith, ends-few o (at + 1) small word is ne first)) (ends-first o (at + 1) small word is ne first) (ends_held o (at + 1) small word is ne first held) q

-- ---- the whole integer

module _ (w : Width) (o : List ℕ) (at : ℕ) (e : Env) where
  pub integer-end : length o ≤ at → integer w (stand o at e) ≡ stop (refusal 1 at)
  unfolding integer ◌>>=◌ here
  integer-end h = rw (octet-end o at e h)

  pub integer-one : 64 ≤ w.bound → at < length o → get_or o at 0 < 128 → integer w (stand o at e) ≡ got (sign (positive (get_or o at 0)) (get_or o at 0 % 64)) (stand o (at + 1) e)
  unfolding integer ◌>>=◌ here either return require
  integer-one g h k = rw (octet-at o at e h, lt-ltb (get_or o at 0) 128 k, either, lt-ltb (get_or o at 0 % 64) w.bound (omega arith), require)

  pub integer-more : at < length o → 128 ≤ get_or o at 0 → integer w (stand o at e) ≡ (tail w (get_or o at 0) at >>= λ n. return (sign (positive (get_or o at 0)) n)) (stand o (at + 1) e)
  unfolding integer tail ◌>>=◌ here either return require stand
  integer-more h k = rw (octet-at o at e h, le-ltb (get_or o at 0) 128 k, either) (by (get_or o at 0) (further w.more at (stand o (at + 1) e)))
    where
      then : (b n : ℕ) (s : State) (t : Bool) → follow (require t 3 at s) (λ _. return (sign (positive b) n)) ≡ follow (follow (require t 3 at s) (λ _. return n)) (λ n. return (sign (positive b) n))
      then b n s true = refl
      then b n s false = refl

      by : (b : ℕ) (x : Out ℕ) → follow (follow x (λ m. return (b % 64 + 64 * m))) (λ n s. follow (require (ltb n w.bound) 3 at s) (λ _. return (sign (positive b) n)))
          ≡ follow (follow x (λ m s. follow (require (ltb (b % 64 + 64 * m) w.bound) 3 at s) (λ _. return (b % 64 + 64 * m)))) (λ n. return (sign (positive b) n))
      by b (got m s) = then b (b % 64 + 64 * m) s (ltb (b % 64 + 64 * m) w.bound)
      by b (stop r) = refl

-- as a tail was found
module _ {w : Width} {o : List ℕ} {at : ℕ} {r : Result (ℕ × ℕ) Refusal} (t : Tail w.more w.bound o at (get_or o at 0) r) (h : at < length o) (k : 128 ≤ get_or o at 0) where
  found : (e : Env) → integer w (stand o at e) ≡ follow (mag_out o e r) (λ n. return (sign (positive (get_or o at 0)) n))
  unfolding ◌>>=◌
  found e = integer-more w o at e h k ∙ ap (λ (x : Out ℕ). follow x (λ n. return (sign (positive (get_or o at 0)) n))) (sym (t.same e))

  pub found-mag : {next n : ℕ} → r ≡ Ok (next, n) → (e : Env) → integer w (stand o at e) ≡ got (sign (positive (get_or o at 0)) n) (stand o next e)
  unfolding return
  found-mag q e = found e ∙ rw q

  pub found-ill : {x : Refusal} → r ≡ Err x → (e : Env) → integer w (stand o at e) ≡ stop x
  found-ill q e = found e ∙ rw q

  pub found-past : {next n : ℕ} → r ≡ Ok (next, n) → (at < next) × (next ≤ length o) × (n < w.bound)
  found-past q = subst (PastMag o at w.bound) q t.past

-- an integer that was read, said another way
pub told : {y z : ℤ} {s : State} {x : Out ℤ} → z ≡ y → x ≡ got y s → got z s ≡ x
told {s} e h = ap (λ (z : ℤ). got z s) e ∙ sym h

-- what was read, by its sign
pub with_number : {x : Result (ℕ × Signed) Refusal} {next : ℕ} {y z : Signed} → x ≡ Ok (next, y) → y ≡ z → x ≡ Ok (next, z)
with_number {next} q e = q ∙ ap (λ (y : Signed). Ok (next, y)) e

-- ---- an integer that is known to be there

pub knows : {o : List ℕ} {at : ℕ} {r : Result (ℕ × ℤ) Refusal} → Reads (λ z. z) wide64 o at r → Knows64 o at r
knows reads = record { same = λ e z s h. reads.same e ∙ h; past = reads.past }

no_stop : {r : Refusal} {z : ℤ} {s : State} → ◌≡◌ {A = Out ℤ} (stop r) (got z s) → ⊥
no_stop h = let z : ◌≡◌ {A = ℕ} 0 1 = cc in omega arith

module _ {o : List ℕ} {at : ℕ} {y : ℤ} (h : at + 8 ≤ length o) where
  known-one : get_or o at 0 < 128 → y ≡ sign (positive (get_or o at 0)) (get_or o at 0 % 64) → Knows64 o at (Ok (at + 1, y))
  known-one g q = knows (record { same = λ e. told q (integer-one wide64 o at e (lit≤ tt) (omega arith) g); past = (omega arith, omega arith) })

  known_more : (k n : ℕ) → k < 7 → 128 ≤ get_or o at 0 → Ending o (at + 1) k → n ≡ get_or o at 0 % 64 + 64 * sevens_at (suc k) o (at + 1) → y ≡ sign (positive (get_or o at 0)) n
      → Knows64 o at (Ok (at + 1 + k + 1, y))
  unfolding return
  known_more k n few g end held q =
      let t = tail-ends {more = 9} {b = get_or o at 0} {bound = 2 ^ 63} (omega arith) (omega arith) end refl refl in
      record {
        same = λ e v s f. by e v s (eqb (get_or o (at + 1 + k) 0) 0) (ltb (get_or o at 0 % 64 + 64 * sevens_at (suc k) o (at + 1)) (2 ^ 63)) (sym (found {w = wide64} t (omega arith) g e) ∙ f);
        past = (omega arith, omega arith);
      }
    where
      by : (e : Env) (v : ℤ) (s : State) (a b : Bool)
          → follow (mag_out o e (cond a (Err (refusal 3 at)) (cond b (Ok (at + 1 + k + 1, get_or o at 0 % 64 + 64 * sevens_at (suc k) o (at + 1))) (Err (refusal 3 at))))) (λ n. return (sign (positive (get_or o at 0)) n)) ≡ got v s
          → got y (stand o (at + 1 + k + 1) e) ≡ got v s
      by e v s true b f = absurd (no_stop f)
      by e v s false true f = ap (λ (x : ℤ). got x (stand o (at + 1 + k + 1) e)) (q ∙ ap (sign (positive (get_or o at 0))) held) ∙ f
      by e v s false false f = absurd (no_stop f)

  known-ends : (k : ℕ) {bits : ℕ} → k < 8 → Ending o at k → bits ≡ sevens_at (suc k) o at → y ≡ sign (positive (get_or o at 0)) (bits % 64 + bits / 128 * 64) → Knows64 o at (Ok (at + k + 1, y))
  unfolding sevens_at
  known-ends zero {bits} few end held q =
      let here : at + 0 ≡ at = omega arith in
      let low : bits % 64 + bits / 128 * 64 ≡ get_or o at 0 % 64 = omega arith in
      rw here (known-one (rw here at end.off) (q ∙ ap (sign (positive (get_or o at 0))) low))
  known-ends (suc k) {bits} few end held q =
      let here : at + 0 ≡ at = omega arith in
      let there : at + suc k ≡ at + 1 + k = omega arith in
      rw there (known_more k (bits % 64 + bits / 128 * 64) (omega arith) (rw here at (end.on 0 (omega arith))) (ending-after end) (omega (arith, held)) q)

module _ (o : List ℕ) (at : ℕ) {w e : ℕ} (small : (i : ℕ) → get_or o i 0 < 256) (room : at + 8 ≤ length o) (word : w ≡ little 8 o at) (is : e ≡ ends 8 w) where
  low : w % 256 ≡ get_or o at 0
  low = ap (λ (w : ℕ). w % 256) word ∙ low-octet o small 7 at

  first-sign : {y : ℤ} (n m : ℕ) → n ≡ m → y ≡ sign (ltb (w % 128) 64) n → y ≡ sign (positive (get_or o at 0)) m
  first-sign n m e q = let seven : w % 128 ≡ get_or o at 0 % 128 = omega (arith, low) in q ∙ rw (seven, e)

  pub known-word-one : {y : ℤ} → e ≡ marks 8 → y ≡ sign (ltb (w % 128) 64) (w % 64) → Knows64 o at (Ok (at + 1, y))
  known-word-one all q = known-one room (ends-one o at small word is all) (first-sign (w % 64) (get_or o at 0 % 64) (omega (arith, low)) q)

  pub known-word : {k bits : ℕ} {y : ℤ} → (e ≡ 0 → ⊥) → k ≡ count_trailing_zeros 64 e / 8 → bits ≡ sevens (suc (lead 8 w)) w
      → y ≡ sign (ltb (w % 128) 64) (bits % 64 + bits / 128 * 64) → Knows64 o at (Ok (at + k + 1, y))
  known-word {k} ne first held q =
      known-ends room k (ends-few o at small word is ne first) (ends-first o at small word is ne first) (ends_held o at small word is ne first held) (first-sign _ _ refl q)
