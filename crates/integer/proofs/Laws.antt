-- The laws of packed integers, each once over the width: what is read is the shortest form (`integer-leaf`), the shortest form is read as nothing
-- else (`integer-only`), and it is read where the integer fits (`integer-does`).
use mathlib.Core.Path.{◌≡◌, refl, sym, ap, ◌∙◌}
use mathlib.Core.Bool.{Bool, true, false}
use mathlib.Core.List.{List, [], ◌∷◌, append-nil}
use Prim.Native.Nat.{ℕ, zero, suc, ◌+◌, ◌*◌, ◌/◌, ◌%◌, ◌^◌, ◌<◌, ◌≤◌}
use native.Mathlib.Omega.{arith}
use native.Mathlib.Nat.{pow-suc}
use lib.Dec.{ltb, eqb, lit≤}
use lib.IntN.{ℤ}
use lib.Signed.{mag}
use borrow.Author.Tests.{ltb-true, ltb-false, lt-ltb, le-ltb, eqb-false, ne_eqb, not-true}
use Rattle.reading.specs.Reading.{Env, ◌>>=◌, return, either}
use Rattle.reading.proofs.Sound.{s-bind, s-stop, s-either, s-here, s-require, s-ret, Leaf, s-leaf, octet-leaf}
use Rattle.reading.proofs.Only.{Only, o-bind, o-stop, o-either, o-here, o-require, o-octet, o-ret, o-as}
use Rattle.reading.proofs.Does.{Does, d-bind, d-here, d-require, d-octet, d-ret, d-as, d-either-true, d-either-false}
use Rattle.integer.specs.Packed.{Width, wide16, wide32, wide64, further, sign, positive, integer, groups, spell_int}
use Rattle.integer.proofs.Spelling.{groups-last, groups-more, mag-sign, spelt-one, spelt-more, Spelt, one, more, spelt}

-- ---- what is read

further-leaf : (k p : ℕ) → Leaf (further k p) groups (λ n. 0 < n)
unfolding further
further-leaf zero p s = s-stop _ _
further-leaf (suc k) p s = s-leaf _ octet-leaf λ b n l small. s-either _ _ _
    (λ h. s-require _ _ _ _ λ z. s-ret _ (sym (groups-last b (ltb-true b 128 h)), omega (arith, eqb-false b 0 (not-true (eqb b 0) z)), refl))
    λ h. s-bind (further-leaf k p _) λ m s' u q.
    let big : 128 ≤ b = ltb-false b 128 h in
    let pos-m : 0 < m = q.1 in
    let low : (b % 128 + 128 * m) % 128 + 128 ≡ b = omega arith in
    let high : (b % 128 + 128 * m) / 128 ≡ m = omega arith in
    s-ret _ (rw (append-nil u, q.0) (sym (rw (low, high) at (groups-more (b % 128 + 128 * m) (omega arith)))), omega arith, q.2)

pub integer-leaf : (w : Width) → Leaf (integer w) spell_int (λ z. mag z < w.bound)
unfolding integer
integer-leaf w s = s-here _ (s-leaf _ octet-leaf λ b at l small. s-bind {R = λ n s' u. (b ∷ u ≡ spell_int (sign (positive b) n)) × (s'.env ≡ s.env)}
    (s-either _ _ _ (λ h. s-ret _ (sym (spelt-one b (ltb-true b 128 h)), refl))
    λ h. s-bind (further-leaf w.more s.at _) λ m s' u q. s-ret _ (rw (append-nil u, q.0) (sym (spelt-more b m (ltb-false b 128 h) small q.1)), q.2))
    λ n s₁ u q. s-require _ _ _ _ λ h. s-ret _ (ap (λ (x : List ℕ). b ∷ x) (append-nil u) ∙ q.0, rw (mag-sign (positive b) n) (ltb-true n w.bound h), q.1))

-- ---- nothing else is read

further-only : (k p n : ℕ) → 0 < n → Only (further k p) (groups n) n
unfolding further
further-only zero p n h = o-stop _ _
further-only (suc k) p n h = by (further-only k p (n / 128)) (ltb n 128) refl
  where
    by : (0 < n / 128 → Only (further k p) (groups (n / 128)) (n / 128)) → (t : Bool) → ltb n 128 ≡ t → Only (further (suc k) p) (groups n) n
    by again true e =
        let q : n < 128 = ltb-true n 128 e in
        rw (groups-last n q) (o-octet n _ (o-either _ _ _ (λ _. o-require _ _ _ _ λ _. o-ret n) (λ f. absurd (omega (arith, ltb-false n 128 f)))))
    by again false e =
        let q : 128 ≤ n = ltb-false n 128 e in
        rw (groups-more n q) (o-octet (n % 128 + 128) _ (o-either _ _ _ (λ f. absurd (omega (arith, ltb-true (n % 128 + 128) 128 f))) (λ _. o-as (append-nil _) (omega arith) (o-bind _ (again (omega arith)) (o-ret _)))))

pub integer-only : (w : Width) (z : ℤ) → Only (integer w) (spell_int z) z
unfolding integer
integer-only w z = by (spelt z)
  where
    rest : (b : ℕ) (l : List ℕ) → ((p : ℕ) → Only (either (ltb b 128) (return (b % 64)) (further w.more p >>= λ m. return (b % 64 + 64 * m))) l (mag z)) → sign (positive b) (mag z) ≡ z → Only (integer w) (b ∷ l) z
    rest b l h g = o-as (ap (λ (x : List ℕ). b ∷ x) (append-nil l)) g (o-here _ λ p. o-octet b _ (o-bind _ (h p) (o-require _ _ _ _ λ _. o-ret _)))

    by : Spelt z → Only (integer w) (spell_int z) z
    by (one b e small n g) = rw e (rest b [] (λ p. o-either _ _ _ (λ _. o-as refl n (o-ret _)) (λ k. absurd (omega (arith, ltb-false b 128 k)))) g)
    by (more b m e big m-pos n g) = rw e (rest b (groups m) (λ p. o-either _ _ _ (λ k. absurd (omega (arith, ltb-true b 128 k))) (λ _. o-as (append-nil _) n (o-bind _ (further-only w.more p m m-pos) (o-ret _)))) g)

-- ---- it is read

further-does : (k p n : ℕ) (e : Env) → 0 < n → n < 128 ^ k → Does (further k p) e (groups n) n e
unfolding further
further-does zero p n e h g = absurd (omega arith)
further-does (suc k) p n e h g = by (further-does k p (n / 128) e) (ltb n 128) refl
  where
    grows : 128 ^ suc k ≡ 128 ^ k * 128
    grows = pow-suc 128 k

    by : (0 < n / 128 → n / 128 < 128 ^ k → Does (further k p) e (groups (n / 128)) (n / 128) e) → (t : Bool) → ltb n 128 ≡ t → Does (further (suc k) p) e (groups n) n e
    by again true c =
        let q : n < 128 = ltb-true n 128 c in
        rw (groups-last n q) (d-octet n _ (d-either-true _ _ _ c (d-require _ _ _ _ (rw (ne_eqb n 0 (λ z. omega arith))) (d-ret n))))
    by again false c =
        let q : 128 ≤ n = ltb-false n 128 c in
        rw (groups-more n q) (d-octet (n % 128 + 128) _ (d-either-false _ _ _ (le-ltb (n % 128 + 128) 128 (omega arith)) (d-as (append-nil _) (omega arith) refl (d-bind _ (again (omega arith) (omega (arith, grows))) (d-ret _)))))

-- the octets of a width are enough for its numbers
abbrev pub Enough : Width → Type 0
Enough w = w.bound ≤ 64 * 128 ^ w.more

pub enough16 : Enough wide16
enough16 = lit≤ tt

pub enough32 : Enough wide32
enough32 = lit≤ tt

pub enough64 : Enough wide64
enough64 = lit≤ tt

pub integer-does : (w : Width) → Enough w → (z : ℤ) (e : Env) → mag z < w.bound → Does (integer w) e (spell_int z) z e
unfolding integer
integer-does w enough z e fits = by (spelt z)
  where
    rest : (b : ℕ) (l : List ℕ) → ((p : ℕ) → Does (either (ltb b 128) (return (b % 64)) (further w.more p >>= λ m. return (b % 64 + 64 * m))) e l (mag z) e) → sign (positive b) (mag z) ≡ z → Does (integer w) e (b ∷ l) z e
    rest b l h g = d-as (ap (λ (x : List ℕ). b ∷ x) (append-nil l)) g refl (d-here _ λ p. d-octet b _ (d-bind _ (h p) (d-require _ _ _ _ (lt-ltb (mag z) w.bound fits) (d-ret _))))

    by : Spelt z → Does (integer w) e (spell_int z) z e
    by (one b u small n g) = rw u (rest b [] (λ p. d-either-true _ _ _ (lt-ltb b 128 small) (d-as refl n refl (d-ret _))) g)
    by (more b m u big m-pos n g) = rw u (rest b (groups m) (λ p. d-either-false _ _ _ (le-ltb b 128 big) (d-as (append-nil _) n refl (d-bind _ (further-does w.more p m e m-pos (omega arith)) (d-ret _)))) g)
