-- Dates and times at a place.
use mathlib.Core.Path.{◌≡◌, refl, sym, ap, subst, ◌∙◌}
use mathlib.Core.Bool.{Bool, true, false, cond, ◌&&◌}
use mathlib.Core.List.{List, [], ◌∷◌, ◌++◌}
use Prim.Native.Nat.{ℕ, zero, suc, ◌+◌, ◌-◌, ◌^◌, ◌<◌, ◌≤◌}
use native.Mathlib.Omega.{arith}
use lib.ListN.{length, take, drop, set}
use Rattle.std.proofs.lemmas.List.{append-nil, append_assoc, get_or-set_same, get_or-set_other, length-set, take_all, take_more_set}
use lib.IntN.{ℤ, pos, negsuc}
use lib.Signed.{mag, le_z}
use lib.Dec.{leb, ltb}
use borrow.Author.Tests.{ltb-true, ltb-false, le-leb, leb-true, leb-false}
use mir.Syntax.{w32}
use mir.ValLaws.{to_z-of_z}
use Rattle.reading.specs.declared.Refusal.{Refusal}
use Rattle.reading.specs.Reading.{Env, State, Out, got, stop, Reader, refusal, stand, follow, ◌>>=◌, return, require, either, here}
use Rattle.integer.specs.Packed.{wide32, integer}
use Rattle.std.specs.Prelude.{Result, Ok, Err}
use Rattle.integer.specs.Answers.{Reads}
use Rattle.format.specs.Types.{date, time, dateTime}
use Rattle.format.specs.Data.{within, eq_z, integers, time_fits, date_fits, fits, offset, part, moment}
use Rattle.scalar.specs.declared.Which.{Which}
use Rattle.scalar.specs.declared.Which.TheVariants.{Time}
use Rattle.scalar.specs.Answers.{MomentPast, Passing}
use Rattle.scalar.specs.Moments.{out_ints, PastInts, ReadsInts, clock_fits, count_of, offsets, clock, parts_of}
use Rattle.scalar.proofs.Passing.{read-got, read-past, read-stop}
use Rattle.scalar.proofs.Signed.{held}
use Rattle.reading.proofs.Tests.{no, and_split}
use Rattle.scalar.proofs.Tests.{and-true, and_comm, two-more}

-- ---- integers, one by one

pub kept : (v : ℤ) → mag v < 2 ^ 31 → held v ≡ v
kept v h = to_z-of_z w32 v (record { sfits = h })

abbrev onto : List ℤ → ℕ → State → Out (List ℤ)
onto l n s = follow (integers n s) (λ m. return (l ++ m))

onto-more : (l : List ℤ) (n : ℕ) (s s' : State) (z : ℤ) → integer wide32 s ≡ got z s' → onto l (suc n) s ≡ onto (l ++ z ∷ []) n s'
unfolding integers ◌>>=◌ return
onto-more l n s s' z h = rw h (by (integers n s'))
  where
    by : (x : Out (List ℤ)) → follow (follow x (λ m. return (z ∷ m))) (λ m. return (l ++ m)) ≡ follow x (λ m. return ((l ++ z ∷ []) ++ m))
    by (got m t) = ap (λ (k : List ℤ). got k t) (sym (append_assoc l (z ∷ []) m))
    by (stop r) = refl

onto-stop : (l : List ℤ) (n : ℕ) (s : State) (r : Refusal) → integer wide32 s ≡ stop r → onto l (suc n) s ≡ stop r
unfolding integers ◌>>=◌
onto-stop l n s r h = rw h

onto-none : (n : ℕ) (s : State) → integers n s ≡ onto [] n s
unfolding return
onto-none n s = by (integers n s)
  where
    by : (x : Out (List ℤ)) → x ≡ follow x (λ m s. got m s)
    by (got m t) = refl
    by (stop r) = refl

onto-all : (l : List ℤ) (s : State) → onto l 0 s ≡ got l s
unfolding integers return
onto-all l s = ap (λ (k : List ℤ). got k s) (append-nil l)

-- the first k of n integers are read, and stand first in l
pub record Turn (n : ℕ) (o : List ℕ) (at k next : ℕ) (l : List ℤ) : Type 0 where
  pub same : (e : Env) → integers n (stand o at e) ≡ onto (take k l) (n - k) (stand o next e)
  pub past : at + k ≤ next
  pub within : 0 < k → next ≤ length o
  pub some : k ≤ n
  pub room : length l ≡ n
  pub small : (i : ℕ) → i < k → mag (part i l) < 2 ^ 31

pub turn-first : (n : ℕ) (o : List ℕ) (at : ℕ) (l : List ℤ) → length l ≡ n → Turn n o at 0 at l
turn-first n o at l h = let all : n - 0 ≡ n = omega arith in record { same = λ e. rw all (onto-none n (stand o at e)); past = omega arith; within = λ k. absurd (omega arith); some = omega arith; room = h; small = λ i k. absurd (omega arith) }

module _ {n : ℕ} {o : List ℕ} {at k next : ℕ} {l : List ℤ} (t : Turn n o at k next l) where
  module _ (g : k < n) {r : Result (ℕ × ℤ) Refusal} (h : Reads (λ z. z) wide32 o next r) where
    left : n - k ≡ suc (n - (k + 1))
    left = omega arith

    pub turn-stop : {x : Refusal} → r ≡ Err x → ReadsInts n o at (Err x)
    turn-stop {x} q = record { same = λ e. sym (t.same e ∙ rw left (onto-stop (take k l) (n - (k + 1)) (stand o next e) x (read-stop h q e))); past = tt }

    put-small : (z : ℤ) → mag z < 2 ^ 31 → (i : ℕ) → i < k + 1 → (b : Bool) → ltb i k ≡ b → mag (part i (set l k z)) < 2 ^ 31
    put-small z f i u true b = rw (get_or-set_other l k i z (pos 0) (λ e. omega (arith, ltb-true i k b))) (t.small i (ltb-true i k b))
    put-small z f i u false b = let is : i ≡ k = omega (arith, ltb-false i k b) in rw (is, get_or-set_same l k z (pos 0) (omega (arith, t.room))) f

    pub turn-again : {to : ℕ} {z : ℤ} → mag z < 2 ^ 31 → r ≡ Ok (to, z) → Turn n o at (k + 1) to (set l k z)
    turn-again {to} {z} f q =
        let w = read-past h q in
        record {
          same = λ e. t.same e ∙ rw left (onto-more (take k l) (n - (k + 1)) (stand o next e) (stand o to e) z (read-got h q e)) ∙ ap (λ (m : List ℤ). onto m (n - (k + 1)) (stand o to e)) (sym (take_more_set l k z (omega (arith, t.room))));
          past = omega (arith, t.past, w.0);
          within = λ i. w.1;
          some = omega arith;
          room = length-set l k z ∙ t.room;
          small = λ i u. put-small z f i u (ltb i k) refl;
        }

  pub turn-last : 0 < n → n ≤ k → ReadsInts n o at (Ok (next, l))
  turn-last some g =
      let none : n - k ≡ 0 = omega arith in
      let whole : take k l ≡ l = take_all k l (omega (arith, t.room)) in
      record { same = λ e. sym (t.same e ∙ rw (none, whole) (onto-all l (stand o next e))); past = (omega (arith, t.past), t.within (omega arith), t.room, λ i u. t.small i (omega arith)) }

-- as they were read
module _ {n : ℕ} {o : List ℕ} {at : ℕ} {r : Result (ℕ × List ℤ) Refusal} (h : ReadsInts n o at r) where
  stop-ints : {x : Refusal} → r ≡ Err x → (e : Env) → integers n (stand o at e) ≡ stop x
  stop-ints q e = sym (subst (λ (r : Result (ℕ × List ℤ) Refusal). out_ints o e r ≡ integers n (stand o at e)) q (h.same e))

  module _ {next : ℕ} {l : List ℤ} (q : r ≡ Ok (next, l)) where
    got-ints : (e : Env) → integers n (stand o at e) ≡ got l (stand o next e)
    got-ints e = sym (subst (λ (r : Result (ℕ × List ℤ) Refusal). out_ints o e r ≡ integers n (stand o at e)) q (h.same e))

    next-ints : (at < next) × (next ≤ length o)
    next-ints = let p = subst (PastInts n o at) q h.past in (p.0, p.1)

    pub parts-small : (length l ≡ n) × ((i : ℕ) → i < n → mag (part i l) < 2 ^ 31)
    parts-small = let p = subst (PastInts n o at) q h.past in (p.2, p.3)

-- ---- some integers, then others

abbrev over : ℕ → ℕ → ℕ
over zero m = m
over (suc n) m = suc (over n m)

abbrev then : List ℤ → ℕ → State → Out (List ℤ)
then l m s = follow (integers m s) (λ k. return (l ++ k))

ints-join : (n m : ℕ) (s : State) → integers (over n m) s ≡ follow (integers n s) (λ l. then l m)
unfolding integers ◌>>=◌ return
ints-join zero m s = by (integers m s)
  where
    by : (x : Out (List ℤ)) → x ≡ follow x (λ k. return k)
    by (got l s) = refl
    by (stop r) = refl
ints-join (suc n) m s = by (λ x. ints-join n m x) (integer wide32 s)
  where
    last : (z : ℤ) (l : List ℤ) (x : Out (List ℤ)) → follow (follow x (λ k. return (l ++ k))) (λ l. return (z ∷ l)) ≡ follow x (λ k. return (z ∷ (l ++ k)))
    last z l (got k s) = refl
    last z l (stop r) = refl

    more : (z : ℤ) (x : Out (List ℤ)) → follow (follow x (λ l. then l m)) (λ l. return (z ∷ l)) ≡ follow (follow x (λ l. return (z ∷ l))) (λ l. then l m)
    more z (got l s) = last z l (integers m s)
    more z (stop r) = refl

    by : ((x : State) → integers (over n m) x ≡ follow (integers n x) (λ l. then l m)) → (x : Out ℤ)
        → follow x (λ z s. follow (integers (over n m) s) (λ l. return (z ∷ l))) ≡ follow (follow x (λ z s. follow (integers n s) (λ l. return (z ∷ l)))) (λ l. then l m)
    by again (got z s) = rw (again s) (more z (integers n s))
    by again (stop r) = refl

join-got : (m : ℕ) (s s' : State) (l : List ℤ) → integers 3 s ≡ got l s' → integers (over 3 m) s ≡ then l m s'
join-got m s s' l h = ints-join 3 m s ∙ rw h

join-stop : (m : ℕ) (s : State) (r : Refusal) → integers 3 s ≡ stop r → integers (over 3 m) s ≡ stop r
join-stop m s r h = ints-join 3 m s ∙ rw h

-- ---- offsets

tested : (t : Bool) (p n : ℕ) (s : State) → follow (require t 7 p s) (λ _. return n) ≡ cond t (got n s) (stop (refusal 7 p))
unfolding require return
tested true p n s = refl
tested false p n s = refl

offsets-got : (ok : Bool) (p n : ℕ) (s s' : State) (a b : ℤ) → integers 2 s ≡ got (a ∷ b ∷ []) s'
    → offsets ok p n s ≡ cond (ok && within (negsuc 17) (pos 18) a && within (pos 0) (pos 59) b) (got n s') (stop (refusal 7 p))
unfolding offsets ◌>>=◌
offsets-got ok p n s s' a b h = rw h (tested _ p n s')

module _ (ok : Bool) (p n : ℕ) {o : List ℕ} {at : ℕ} {r : Result (ℕ × List ℤ) Refusal} (h : ReadsInts 2 o at r) where
  pub offsets-cut : {x : Refusal} → r ≡ Err x → Passing o at n (offsets ok p n) (Err x)
  unfolding offsets ◌>>=◌
  offsets-cut q = record { same = λ e. sym (rw (stop-ints h q e)); past = tt }

  module _ {next : ℕ} {a b : ℤ} (q : r ≡ Ok (next, a ∷ b ∷ [])) where
    pub offsets-fit : ok && within (negsuc 17) (pos 18) a && within (pos 0) (pos 59) b ≡ true → Passing o at n (offsets ok p n) (Ok (next, n))
    offsets-fit t = record { same = λ e. sym (offsets-got ok p n _ _ a b (got-ints h q e) ∙ rw t); past = let w = next-ints h q in (w.0, w.1, omega arith) }

    pub offsets-unfit : ok && within (negsuc 17) (pos 18) a && within (pos 0) (pos 59) b ≡ false → Passing o at n (offsets ok p n) (Err (refusal 7 p))
    offsets-unfit t = record { same = λ e. sym (offsets-got ok p n _ _ a b (got-ints h q e) ∙ rw t); past = tt }

-- ---- a time

-- 01: "zone 0, 1 or 2", of which 2 has an offset
zone-two : (z : ℤ) → eq_z z (pos 2) ≡ true → within (pos 0) (pos 2) z ≡ true
zone-two (pos n) e = rw (le-leb 0 n (omega arith)) (and_split (leb n 2) (leb 2 n) e).0
zone-two (negsuc n) e = absurd (no e)

zone-less : (z : ℤ) → eq_z z (pos 2) ≡ false → within (pos 0) (pos 2) z ≡ within (pos 0) (pos 1) z
zone-less (pos n) e = rw (le-leb 0 n (omega arith)) (by (leb n 2) refl (leb n 1) refl)
  where
    by : (t : Bool) → leb n 2 ≡ t → (u : Bool) → leb n 1 ≡ u → t ≡ u
    by true p true q = refl
    by true p false q = absurd (omega (arith, leb-true n 2 p, leb-false n 1 q, leb-false 2 n (rw p at e)))
    by false p true q = absurd (omega (arith, leb-false n 2 p, leb-true n 1 q))
    by false p false q = refl
zone-less (negsuc n) e = refl

-- two integers are a list of two
pairs : {A : Type 0} (s : State) (f : List ℤ → State → Out A) → follow (integers 2 s) f ≡ follow (integer wide32 s) (λ a y. follow (integer wide32 y) (λ b. f (a ∷ b ∷ [])))
unfolding integers ◌>>=◌ return
pairs {A} s f = first (integer wide32 s)
  where
    last : (a : ℤ) (x : Out ℤ) → follow (follow (follow x (λ b s. got (b ∷ []) s)) (λ l s. got (a ∷ l) s)) f ≡ follow x (λ b. f (a ∷ b ∷ []))
    last a (got b y) = refl
    last a (stop r) = refl

    first : (x : Out ℤ) → follow (follow x (λ a y. follow (follow (integer wide32 y) (λ b s. got (b ∷ []) s)) (λ l s. got (a ∷ l) s))) f ≡ follow x (λ a y. follow (integer wide32 y) (λ b. f (a ∷ b ∷ [])))
    first (got a y) = last a (integer wide32 y)
    first (stop r) = refl

module _ (ok : Bool) (p n : ℕ) (s s' : State) where
  clock-stop : (r : Refusal) → integers 5 s ≡ stop r → clock ok p n s ≡ stop r
  unfolding clock ◌>>=◌
  clock-stop r h = rw h

  module _ (h m x f z : ℤ) (q : integers 5 s ≡ got (h ∷ m ∷ x ∷ f ∷ z ∷ []) s') where
    abbrev good : Bool
    good = clock_fits h m x f

    clock-zone : eq_z z (pos 2) ≡ true → clock ok p n s ≡ offsets (ok && good) p (n + 7) s'
    unfolding clock offsets ◌>>=◌ either return
    clock-zone e = rw (q, e, either) (pairs s' _ ∙ first (integer wide32 s') ∙ sym (pairs s' _))
      where
        same : (t : Bool) (a b : Bool) → t && (good && within (pos 0) (pos 2) z && a && b) ≡ (t && good) && a && b
        same true a b = rw (zone-two z e, and-true good)
        same false a b = refl

        whole : ℤ → ℤ → State → Out ℕ
        whole a b y = follow (require (ok && time_fits (h ∷ m ∷ x ∷ f ∷ z ∷ a ∷ b ∷ [])) 7 p y) (λ _. return (n + 7))

        parted : ℤ → ℤ → State → Out ℕ
        parted a b y = follow (require ((ok && good) && within (negsuc 17) (pos 18) a && within (pos 0) (pos 59) b) 7 p y) (λ _. return (n + 7))

        last : (a b : ℤ) (y : State) → whole a b y ≡ parted a b y
        last a b y = ap (λ (t : Bool). follow (require t 7 p y) (λ _. return (n + 7))) (same ok (within (negsuc 17) (pos 18) a) (within (pos 0) (pos 59) b))

        second : (a : ℤ) (y : Out ℤ) → follow y (λ b. whole a b) ≡ follow y (λ b. parted a b)
        second a (got b y) = last a b y
        second a (stop r) = refl

        first : (y : Out ℤ) → follow y (λ a w. follow (integer wide32 w) (λ b. whole a b)) ≡ follow y (λ a w. follow (integer wide32 w) (λ b. parted a b))
        first (got a y) = second a (integer wide32 y)
        first (stop r) = refl

    clock-plain : eq_z z (pos 2) ≡ false → clock ok p n s ≡ cond ((ok && good) && within (pos 0) (pos 1) z) (got (n + 5) s') (stop (refusal 7 p))
    unfolding clock ◌>>=◌ either return
    clock-plain e = rw (q, e, either) (ap (λ (t : Bool). follow (require t 7 p s') (λ _. return (n + 5))) (same ok) ∙ tested _ p (n + 5) s')
      where
        same : (t : Bool) → t && (good && within (pos 0) (pos 2) z && true && true) ≡ (t && good) && within (pos 0) (pos 1) z
        same true = rw (and-true (good && within (pos 0) (pos 2) z && true), and-true (good && within (pos 0) (pos 2) z), zone-less z e)
        same false = refl

-- what calls answer on numbers
module _ {t u : Bool} where
  pub clock-told : (ok : Bool) (h m x f : ℤ) → mag h < 2 ^ 31 → mag m < 2 ^ 31 → mag x < 2 ^ 31 → mag f < 2 ^ 31
      → t ≡ clock_fits (held h) (held m) (held x) (held f) → u ≡ ok && t → u ≡ ok && clock_fits h m x f
  clock-told ok h m x f a b c d e q = q ∙ ap (λ (z : Bool). ok && z) (rw (kept h a, kept m b, kept x c, kept f d) at e)

  pub zone-told : (ok : Bool) (z : ℤ) → mag z < 2 ^ 31 → t ≡ within (pos 0) (pos 1) (held z) → u ≡ ok && t → u ≡ ok && within (pos 0) (pos 1) z
  zone-told ok z a e q = q ∙ ap (λ (z : Bool). ok && z) (rw (kept z a) at e)

pub offset-told : (ok : Bool) (h m : ℤ) {t u x y : Bool} → mag h < 2 ^ 31 → mag m < 2 ^ 31 → x ≡ within (negsuc 17) (pos 18) (held h) → y ≡ within (pos 0) (pos 59) (held m)
    → u ≡ ok && x → t ≡ u && y → ok && within (negsuc 17) (pos 18) h && within (pos 0) (pos 59) m ≡ t
offset-told ok h m a b p q e g = sym (two-more ok _ _ e g (rw (kept h a) at p) (rw (kept m b) at q))

pub date-told : (y m d : ℤ) {t : Bool} → mag y < 2 ^ 31 → mag m < 2 ^ 31 → mag d < 2 ^ 31 → t ≡ date_fits (held y ∷ held m ∷ held d ∷ []) → t ≡ date_fits (y ∷ m ∷ d ∷ [])
date-told y m d a b c e = rw (kept y a, kept m b, kept d c) at e

-- what is passed further on
on-from : (o : List ℕ) (most : ℕ) {at next : ℕ} (r : Result (ℕ × ℕ) Refusal) → at < next → MomentPast o next most r → MomentPast o at most r
on-from o most (Ok (to, n)) h p = (omega (arith, p.0), p.1, p.2)
on-from o most (Err x) h p = tt

module _ (ok : Bool) (p n : ℕ) {o : List ℕ} {at : ℕ} {r5 : Result (ℕ × List ℤ) Refusal} (h5 : ReadsInts 5 o at r5) where
  pub clock-cut : {y : Refusal} → r5 ≡ Err y → Passing o at (n + 7) (clock ok p n) (Err y)
  clock-cut {y} q = record { same = λ e. sym (clock-stop ok p n _ (stand o at e) y (stop-ints h5 q e)); past = tt }

  module _ {next : ℕ} {h m x f z : ℤ} (q5 : r5 ≡ Ok (next, h ∷ m ∷ x ∷ f ∷ z ∷ [])) {t : Bool} (good : t ≡ ok && clock_fits h m x f) where
    pub clock-offset : {r : Result (ℕ × ℕ) Refusal} → within (pos 2) (pos 2) z ≡ true → Passing o next (n + 7) (offsets t p (n + 7)) r → Passing o at (n + 7) (clock ok p n) r
    clock-offset {r} w k = record {
      same = λ e. k.same e ∙ ap (λ (b : Bool). offsets b p (n + 7) (stand o next e)) good ∙ sym (clock-zone ok p n _ (stand o next e) h m x f z (got-ints h5 q5 e) (and_comm (le_z z (pos 2)) (le_z (pos 2) z) ∙ w));
      past = on-from o (n + 7) r (next-ints h5 q5).0 k.past;
    }

    module _ {u : Bool} (w : within (pos 2) (pos 2) z ≡ false) (q : u ≡ t && within (pos 0) (pos 1) z) where
      plain : (e : Env) → clock ok p n (stand o at e) ≡ cond u (got (n + 5) (stand o next e)) (stop (refusal 7 p))
      plain e = clock-plain ok p n _ (stand o next e) h m x f z (got-ints h5 q5 e) (and_comm (le_z z (pos 2)) (le_z (pos 2) z) ∙ w) ∙ rw (q, good)

      pub clock-fit : u ≡ true → Passing o at (n + 7) (clock ok p n) (Ok (next, n + 5))
      clock-fit v = record { same = λ e. sym (plain e ∙ rw v); past = let w = next-ints h5 q5 in (w.0, w.1, omega arith) }

      pub clock-unfit : u ≡ false → Passing o at (n + 7) (clock ok p n) (Err (refusal 7 p))
      clock-unfit v = record { same = λ e. sym (plain e ∙ rw v); past = tt }

-- ---- the whole

-- the same test and the same count of integers
module _ (p : ℕ) (T U : List ℤ → Bool) (l : List ℤ → List ℤ) (k : List ℤ → ℕ) (same : (x : List ℤ) → T x ≡ U x) (count : (x : List ℤ) → length (l x) ≡ k x) where
  ends_same : (x : Out (List ℤ)) → follow (follow x (λ x s. follow (require (T x) 7 p s) (λ _. return (l x)))) (λ l. return (length l)) ≡ follow x (λ x s. follow (require (U x) 7 p s) (λ _. return (k x)))
  unfolding require return
  ends_same (got x s) = rw (same x) (by (U x))
    where
      by : (t : Bool) → follow (follow (require t 7 p s) (λ _. return (l x))) (λ l. return (length l)) ≡ follow (require t 7 p s) (λ _. return (k x))
      by true = ap (λ (n : ℕ). got n s) (count x)
      by false = refl
  ends_same (stop r) = refl

abbrev zoned : List ℤ → Reader (List ℤ)
zoned l = either (offset time l) (integers 2) (return [])

module _ (o : List ℕ) (at : ℕ) (e : Env) where
  count-time : count_of time (stand o at e) ≡ clock true at 0 (stand o at e)
  unfolding moment clock fits ◌>>=◌ here stand
  count-time = by (integers 5 (stand o at e))
    where
      by : (x : Out (List ℤ)) → follow (follow x (λ l s. follow (zoned l s) (λ x s. follow (require (time_fits (l ++ x)) 7 at s) (λ _. return (l ++ x))))) (λ l. return (length l))
          ≡ follow x (λ l s. follow (zoned l s) (λ x s. follow (require (time_fits (l ++ x)) 7 at s) (λ _. return (0 + length (l ++ x)))))
      by (got l s) = ends_same at (λ x. time_fits (l ++ x)) (λ x. time_fits (l ++ x)) (λ x. l ++ x) (λ x. 0 + length (l ++ x)) (λ x. refl) (λ x. omega arith) (zoned l s)
      by (stop r) = refl

  count-stop : (t : Bool) (r : Refusal) → integers 3 (stand o at e) ≡ stop r → count_of (cond t dateTime date) (stand o at e) ≡ stop r
  unfolding moment ◌>>=◌ here stand
  count-stop true r h = rw (join-stop 5 (stand o at e) r h)
  count-stop false r h = rw h

  module _ (s : State) (y m d : ℤ) (h : integers 3 (stand o at e) ≡ got (y ∷ m ∷ d ∷ []) s) where
    count-date : (t : Bool) → t ≡ date_fits (y ∷ m ∷ d ∷ []) → count_of date (stand o at e) ≡ cond t (got 3 s) (stop (refusal 7 at))
    unfolding moment fits ◌>>=◌ here stand either return require
    count-date t q = rw (h, ← q) (by t)
      where
        by : (t : Bool) → follow (follow (require t 7 at s) (λ _. return (y ∷ m ∷ d ∷ []))) (λ l. return (length l)) ≡ cond t (got 3 s) (stop (refusal 7 at))
        by true = refl
        by false = refl

    count-stamp : count_of dateTime (stand o at e) ≡ clock (date_fits (y ∷ m ∷ d ∷ [])) at 3 s
    unfolding moment clock fits ◌>>=◌ here stand return
    count-stamp = rw (join-got 5 (stand o at e) s (y ∷ m ∷ d ∷ []) h) (by (integers 5 s))
      where
        by : (x : Out (List ℤ)) → follow (follow (follow x (λ k. return (y ∷ m ∷ d ∷ k))) (λ l s. follow (either (offset dateTime l) (integers 2) (return []) s) (λ x s. follow (require (date_fits (l ++ x) && time_fits (drop 3 (l ++ x))) 7 at s) (λ _. return (l ++ x))))) (λ l. return (length l))
            ≡ follow x (λ k s. follow (zoned k s) (λ x s. follow (require (date_fits (y ∷ m ∷ d ∷ []) && time_fits (k ++ x)) 7 at s) (λ _. return (3 + length (k ++ x)))))
        by (got k s) = ends_same at (λ x. date_fits (y ∷ m ∷ d ∷ (k ++ x)) && time_fits (k ++ x)) (λ x. date_fits (y ∷ m ∷ d ∷ []) && time_fits (k ++ x)) (λ x. y ∷ m ∷ d ∷ (k ++ x)) (λ x. 3 + length (k ++ x)) (λ x. refl) (λ x. omega arith) (zoned k s)
        by (stop r) = refl

module _ {o : List ℕ} {at : ℕ} {r3 : Result (ℕ × List ℤ) Refusal} (t : Bool) (h3 : ReadsInts 3 o at r3) where
  pub dated-cut : {x : Refusal} → r3 ≡ Err x → Passing o at 10 (count_of (cond t dateTime date)) (Err x)
  dated-cut {x} q = record { same = λ e. sym (count-stop o at e t x (stop-ints h3 q e)); past = tt }

  module _ {next : ℕ} {y m d : ℤ} (q : r3 ≡ Ok (next, y ∷ m ∷ d ∷ [])) {u : Bool} (good : u ≡ date_fits (y ∷ m ∷ d ∷ [])) where
    past3 : (at < next) × (next ≤ length o)
    past3 = next-ints h3 q

    pub dated-clock : {r : Result (ℕ × ℕ) Refusal} → t ≡ true → Passing o next 10 (clock u at 3) r → Passing o at 10 (count_of (cond t dateTime date)) r
    dated-clock {r} w k = rw w (record {
      same = λ e. k.same e ∙ ap (λ (b : Bool). clock b at 3 (stand o next e)) good ∙ sym (count-stamp o at e (stand o next e) y m d (got-ints h3 q e));
      past = on-from o 10 r past3.0 k.past;
    })

    pub dated-fit : t ≡ false → u ≡ true → Passing o at 10 (count_of (cond t dateTime date)) (Ok (next, 3))
    dated-fit w v = rw w (record { same = λ e. sym (count-date o at e (stand o next e) y m d (got-ints h3 q e) u good ∙ rw v); past = (past3.0, past3.1, omega arith) })

    pub dated-unfit : t ≡ false → u ≡ false → Passing o at 10 (count_of (cond t dateTime date)) (Err (refusal 7 at))
    dated-unfit w v = rw w (record { same = λ e. sym (count-date o at e (stand o next e) y m d (got-ints h3 q e) u good ∙ rw v); past = tt })

fewer : (o : List ℕ) (at : ℕ) (r : Result (ℕ × ℕ) Refusal) → MomentPast o at 7 r → MomentPast o at 10 r
fewer o at (Ok (next, n)) p = (p.0, p.1, omega (arith, p.2))
fewer o at (Err x) p = tt

module _ {o : List ℕ} {at : ℕ} {r : Result (ℕ × ℕ) Refusal} where
  pub time-passed : {d : Which} → d ≡ Time → Passing o at 7 (clock true at 0) r → Passing o at 10 (count_of (parts_of d)) r
  time-passed q k = rw q (record { same = λ e. k.same e ∙ sym (count-time o at e); past = fewer o at r k.past })

-- a list of so many
pub of-two : (l : List ℤ) → length l ≡ 2 → l ≡ part 0 l ∷ part 1 l ∷ []
of-two [] h = absurd (omega arith)
of-two (a ∷ []) h = absurd (omega arith)
of-two (a ∷ b ∷ []) h = refl
of-two (a ∷ b ∷ c ∷ l) h = absurd (omega arith)

pub of-three : (l : List ℤ) → length l ≡ 3 → l ≡ part 0 l ∷ part 1 l ∷ part 2 l ∷ []
of-three [] h = absurd (omega arith)
of-three (a ∷ l) h = ap (λ (m : List ℤ). a ∷ m) (of-two l (omega arith))

pub of-five : (l : List ℤ) → length l ≡ 5 → l ≡ part 0 l ∷ part 1 l ∷ part 2 l ∷ part 3 l ∷ part 4 l ∷ []
of-five [] h = absurd (omega arith)
of-five (a ∷ []) h = absurd (omega arith)
of-five (a ∷ b ∷ l) h = ap (λ (m : List ℤ). a ∷ b ∷ m) (of-three l (omega arith))

-- the same read, by its parts
pub listed : {r : Result (ℕ × List ℤ) Refusal} {next : ℕ} {l m : List ℤ} → r ≡ Ok (next, l) → l ≡ m → r ≡ Ok (next, m)
listed {next} q e = q ∙ ap (λ (k : List ℤ). Ok (next, k)) e
