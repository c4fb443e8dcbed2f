-- The plain data of the types: numbers, element types, the contents of strings. Each is read as it is spelt (`-leaf`), its spelling is read as nothing
-- else (`-only`), and is read (`-does`).
use mathlib.Core.Path.{◌≡◌, refl, sym, ap, ◌∙◌, subst}
use mathlib.Core.Bool.{Bool, true, false, cond}
use mathlib.Core.List.{List, [], ◌∷◌, append-nil}
use Prim.Native.Nat.{ℕ, zero, suc, ◌+◌, ◌-◌, ◌*◌, ◌/◌, ◌^◌, ◌<◌, ◌≤◌}
use native.Mathlib.Omega.{arith}
use native.Mathlib.Nat.{pow-suc, one-le-pow, pow-le-pow_right, mul-add-div_right, div-eq_of_lt, div-div-eq-div-mul, add-mul, mul_assoc, mul_comm, mul-le-mul_right}
use lib.ListN.{length}
use lib.Dec.{ltb, leb}
use lib.IntN.{ℤ, pos, negsuc}
use lib.Signed.{mag}
use borrow.Author.Tests.{ltb-false, leb-true}
use Rattle.reading.specs.Reading.{Env}
use Rattle.reading.proofs.Sound.{Octets, s-bind, s-here, s-require, s-ret, s-weaken, Leaf, s-leaf}
use Rattle.reading.proofs.Only.{Only, o-bind, o-here, o-require, o-ret, o-as}
use Rattle.reading.proofs.Does.{Does, d-bind, d-here, d-require, d-ret, d-as}
use Rattle.integer.specs.Packed.{wide32}
use Rattle.integer.proofs.Laws.{integer-leaf, integer-only, enough32, integer-does}
use Rattle.format.specs.Types.{Datum, packed, fixed, code, amount, implied, Text, none, octets, characters}
use Rattle.format.specs.Data.{big, bits, big_spelt, unsigned, chars, contents, number, spell_number, element, spell_element}
use Rattle.format.specs.Grammar.{Number, Element, Contents}
use Rattle.laws.proofs.Characters.{run-leaf, run_only, run-does, character-leaf, character-only, character-does, chars-sound, chars-only, chars-does}
use Rattle.laws.proofs.Types.{workable}

-- ---- numbers of a fixed count of octets

spread : (n b p : ℕ) → (n * 256 + b) * p ≡ n * (p * 256) + b * p
spread n b p = add-mul (n * 256) b p ∙ ap (λ (x : ℕ). x + b * p) (mul_assoc n 256 p ∙ ap (λ (x : ℕ). n * x) (mul_comm 256 p))

big-split : (n : ℕ) (l : List ℕ) → big n l ≡ n * 256 ^ length l + big 0 l
unfolding big
big-split n [] = omega arith
big-split n (b ∷ l) =
    let high : big (n * 256 + b) l ≡ (n * 256 + b) * 256 ^ length l + big 0 l = big-split (n * 256 + b) l in
    let low : big (0 * 256 + b) l ≡ (0 * 256 + b) * 256 ^ length l + big 0 l = big-split (0 * 256 + b) l in
    let s = spread n b (256 ^ length l) in
    let z = spread 0 b (256 ^ length l) in
    rw (pow-suc 256 (length l)) (omega arith)

big-small : (l : List ℕ) → Octets l → big 0 l < 256 ^ length l
unfolding big
big-small [] o = omega arith
big-small (b ∷ l) o =
    let low : big 0 l < 256 ^ length l = big-small l (λ i. o (suc i)) in
    let all : big (0 * 256 + b) l ≡ (0 * 256 + b) * 256 ^ length l + big 0 l = big-split (0 * 256 + b) l in
    let z = spread 0 b (256 ^ length l) in
    let small : b < 256 = o 0 in
    let room : (b + 1) * 256 ^ length l ≤ 256 * 256 ^ length l = mul-le-mul_right (256 ^ length l) (omega arith) in
    rw (pow-suc 256 (length l)) (omega (arith, add-mul b 1 (256 ^ length l)))

big-spelt : (n : ℕ) (l : List ℕ) → Octets l → big_spelt (length l) (big n l) ≡ l
unfolding big big_spelt
big-spelt n [] o = refl
big-spelt n (b ∷ l) o =
    let small : b < 256 = o 0 in
    let high : big (n * 256 + b) l / 256 ^ length l ≡ n * 256 + b =
    ap (λ (x : ℕ). x / 256 ^ length l) (big-split (n * 256 + b) l) ∙ mul-add-div_right (one-le-pow (length l) 256 (omega arith)) (n * 256 + b) (big 0 l) ∙ ap (λ (x : ℕ). n * 256 + b + x) (div-eq_of_lt (big-small l (λ i. o (suc i)))) ∙ (omega arith) in
    rw (high, big-spelt (n * 256 + b) l (λ i. o (suc i))) (ap (λ (x : ℕ). x ∷ l) (omega arith))

big-back : (k m : ℕ) → big (m / 256 ^ k) (big_spelt k m) ≡ m
unfolding big big_spelt
big-back zero m = omega arith
big-back (suc k) m =
    let down : m / 256 ^ suc k ≡ m / 256 ^ k / 256 = ap (λ (x : ℕ). m / x) (pow-suc 256 k) ∙ sym (div-div-eq-div-mul m (256 ^ k) 256) in
    ap (λ (x : ℕ). big x (big_spelt k m)) (omega arith) ∙ big-back k m

pub big_spelt-long : (k m : ℕ) → length (big_spelt k m) ≡ k
unfolding big_spelt
big_spelt-long zero m = refl
big_spelt-long (suc k) m = ap suc (big_spelt-long k m)

unsigned-bits : (m : ℕ) → m < 2 ^ 64 → unsigned (bits m) ≡ m
unsigned-bits m h = by (ltb m (2 ^ 63)) refl
  where
    by : (t : Bool) → ltb m (2 ^ 63) ≡ t → unsigned (cond t (pos m) (negsuc (2 ^ 64 - 1 - m))) ≡ m
    by true e = refl
    by false e = omega (arith, ltb-false m (2 ^ 63) e)

-- what up to 8 octets hold
fits64 : (n m : ℕ) → leb n 8 ≡ true → m < 256 ^ n → m < 2 ^ 64
fits64 n m h b = let few : 256 ^ n ≤ 256 ^ 8 = pow-le-pow_right (omega arith) (leb-true n 8 h) in omega arith

-- ---- numbers

pub number-leaf : (d : Datum) → workable d ≡ true → Leaf (number d) (spell_number d) (Number d)
unfolding number spell_number
number-leaf (packed w) k s = integer-leaf w s
number-leaf (fixed n) k s = s-leaf _ (run-leaf n) λ l at m q.
    let room : big 0 l < 256 ^ n = subst (λ (x : ℕ). big 0 l < 256 ^ x) q.0 (big-small l q.1) in
    let same : unsigned (bits (big 0 l)) ≡ big 0 l = unsigned-bits (big 0 l) (fits64 n (big 0 l) k room) in
    s-ret _ (append-nil l ∙ sym (ap (big_spelt n) same ∙ ap (λ (x : ℕ). big_spelt x (big 0 l)) (sym q.0) ∙ big-spelt 0 l q.1), (big 0 l, room, refl), refl)
number-leaf code k s = s-leaf _ character-leaf λ c at l q. s-ret _ (append-nil _, (c, q, refl), refl)
number-leaf amount k s = s-here _ (s-leaf _ (integer-leaf wide32) λ z at l q. s-require _ _ _ _ λ h. s-ret _ (append-nil _, (q, h), refl))
number-leaf (implied z) k s = s-ret _ (refl, refl, refl)

pub number-only : (d : Datum) (z : ℤ) → workable d ≡ true → Number d z → Only (number d) (spell_number d z) z
unfolding number spell_number
number-only (packed w) z k g = integer-only w z
number-only (fixed n) z k g = by g.0 g.1 g.2
  where
    by : (m : ℕ) → m < 256 ^ n → z ≡ bits m → Only (number (fixed n)) (big_spelt n (unsigned z)) z
    by m room e =
        let same : unsigned z ≡ m = ap unsigned e ∙ unsigned-bits m (fits64 n m k room) in
        let back : big 0 (big_spelt n m) ≡ m = ap (λ (x : ℕ). big x (big_spelt n m)) (sym (div-eq_of_lt room)) ∙ big-back n m in
        rw same (o-as (append-nil _) (ap bits back ∙ sym e) (o-bind _ (run_only n (big_spelt n m) (big_spelt-long n m)) (o-ret _)))
number-only code z k g = rw g.2 (o-as (append-nil _) refl (o-bind _ (character-only g.0 g.1) (o-ret _)))
number-only amount z k g = o-here _ λ p. o-as (append-nil _) refl (o-bind _ (integer-only wide32 z) (o-require _ _ _ _ λ _. o-ret z))
number-only (implied y) z k g = o-as refl (sym g) (o-ret y)

pub number-does : (d : Datum) (z : ℤ) (e : Env) → workable d ≡ true → Number d z → Does (number d) e (spell_number d z) z e
unfolding number spell_number
number-does (packed w) z e k g = integer-does w (leb-true _ _ k) z e g
number-does (fixed n) z e k g = by g.0 g.1 g.2
  where
    by : (m : ℕ) → m < 256 ^ n → z ≡ bits m → Does (number (fixed n)) e (big_spelt n (unsigned z)) z e
    by m room q =
        let same : unsigned z ≡ m = ap unsigned q ∙ unsigned-bits m (fits64 n m k room) in
        let back : big 0 (big_spelt n m) ≡ m = ap (λ (x : ℕ). big x (big_spelt n m)) (sym (div-eq_of_lt room)) ∙ big-back n m in
        rw same (d-as (append-nil _) (ap bits back ∙ sym q) refl (d-bind _ (run-does n (big_spelt n m) e (big_spelt-long n m)) (d-ret _)))
number-does code z e k g = rw g.2 (d-as (append-nil _) refl refl (d-bind _ (character-does g.0 e g.1) (d-ret _)))
number-does amount z e k g = d-here _ λ p. d-as (append-nil _) refl refl (d-bind _ (integer-does wide32 enough32 z e g.0) (d-require _ _ _ _ g.1 (d-ret z)))
number-does (implied y) z e k g = d-as refl (sym g) refl (d-ret y)

-- ---- element types

pub element-leaf : (b : Bool) → Leaf (element b) (spell_element b) (Element b)
unfolding element spell_element
element-leaf false s = s-ret _ (refl, refl, refl)
element-leaf true s = s-here _ (s-leaf _ (integer-leaf wide32) λ t at l q. s-require _ _ _ _ λ a. s-require _ _ _ _ λ b. s-ret _ (append-nil _, (q, a, b), refl))

pub element-only : (b : Bool) (t : ℤ) → Element b t → Only (element b) (spell_element b t) t
unfolding element spell_element
element-only false t g = o-as refl (sym g) (o-ret _)
element-only true t g = o-here _ λ p. o-as (append-nil _) refl (o-bind _ (integer-only wide32 t) (o-require _ _ _ _ λ _. o-require _ _ _ _ λ _. o-ret t))

pub element-does : (b : Bool) (t : ℤ) (e : Env) → Element b t → Does (element b) e (spell_element b t) t e
unfolding element spell_element
element-does false t e g = d-as refl (sym g) refl (d-ret _)
element-does true t e g = d-here _ λ p. d-as (append-nil _) refl refl (d-bind _ (integer-does wide32 enough32 t e g.0) (d-require _ _ _ _ g.1 (d-require _ _ _ _ g.2 (d-ret t))))

-- ---- the contents of strings

pub contents-leaf : (t : Text) (n : ℤ) → Leaf (contents t n) (λ l. l) (Contents t n)
unfolding contents
contents-leaf none n s = s-ret _ (refl, refl, refl)
contents-leaf octets n s = s-weaken (λ l s' u q. (q.0, q.1.0, q.2)) (run-leaf (mag n) s)
contents-leaf characters n s = s-here _ (s-leaf _ (run-leaf (mag n)) λ l at m q. s-bind (chars-sound 0 s.at l _ q.1) λ _ s₁ u w.
    s-ret _ (rw w.0 (append-nil l), (q.0, w.2), w.1))

pub contents-only : (t : Text) (n : ℤ) (l : List ℕ) → Contents t n l → Only (contents t n) l l
unfolding contents
contents-only none n l g = rw g (o-ret [])
contents-only octets n l g = run_only (mag n) l g
contents-only characters n l g = o-here _ λ p. o-as (append-nil l) refl (o-bind _ (run_only (mag n) l g.0) (o-bind _ (chars-only 0 p l) (o-ret l)))

pub contents-does : (t : Text) (n : ℤ) (l : List ℕ) (e : Env) → Contents t n l → Does (contents t n) e l l e
unfolding contents
contents-does none n l e g = rw g (d-ret [])
contents-does octets n l e g = run-does (mag n) l e g
contents-does characters n l e g = d-here _ λ p. d-as (append-nil l) refl refl (d-bind _ (run-does (mag n) l e g.0)
    (d-bind _ (subst (λ (m : List ℕ). Does (chars 0 p m) e [] tt e) (sym g.1.2) (chars-does g.1.0 p e g.1.1)) (d-ret l)))
