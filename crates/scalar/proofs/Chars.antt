-- Which octets are a character.
use mathlib.Core.Path.{◌≡◌, refl, sym, ap₂, ◌∙◌}
use mathlib.Core.Bool.{Bool, true, false, cond, ◌&&◌}
use mathlib.Core.List.{List, [], ◌∷◌}
use Prim.Native.Nat.{ℕ, suc, ◌+◌, ◌*◌, ◌/◌, ◌%◌, ◌<◌, ◌≤◌}
use native.Mathlib.Omega.{arith}
use lib.ListN.{length, get_or, take}
use lib.Seq.{take-nil}
use lib.Dec.{ltb, leb, eqb}
use borrow.Author.Tests.{ltb-true, ltb-false, lt-ltb, le-ltb, le-leb, lt-leb, leb-true, leb-false, eqb-true, eq-eqb}
use Rattle.format.specs.Data.{eq_list, spell_char, followers, code_of, is_char}
use Rattle.scalar.specs.Parts.{part, counts, spelling_of, Within, Spells}
use Rattle.std.specs.Prelude.{Option, Some, None}
use Rattle.std.specs.Bool.{then_some}
use Rattle.scalar.proofs.Octets.{part-more, part_none}
use Rattle.reading.proofs.Tests.{no, and_split}

-- ---- octets that are the same

list_same : (l : List ℕ) → eq_list eqb l l ≡ true
unfolding eq_list
list_same [] = refl
list_same (x ∷ l) = rw (eq-eqb x x refl) (list_same l)

list-told : (l m : List ℕ) → eq_list eqb l m ≡ true → l ≡ m
unfolding eq_list
list-told [] [] e = refl
list-told [] (y ∷ m) e = absurd (no e)
list-told (x ∷ l) [] e = absurd (no e)
list-told (x ∷ l) (y ∷ m) e = let p = and_split (eqb x y) (eq_list eqb l m) e in let q : l ≡ m = list-told l m p.1 in let r : x ≡ y = eqb-true x y p.0 in cc

char-yes : (l : List ℕ) → spell_char (code_of l) ≡ l → is_char l ≡ true
unfolding is_char
char-yes l e = rw e (list_same l)

char-told : (l : List ℕ) → is_char l ≡ true → l ≡ spell_char (code_of l)
unfolding is_char
char-told l e = list-told l (spell_char (code_of l)) e

-- ---- the spelling of a code

data Spelling (c : ℕ) (l : List ℕ) : Type 0 where
  one : l ≡ c ∷ [] → 0 < c → c < 128 → Spelling c l
  two : l ≡ (0xC0 + c / 64 % 32) ∷ (0x80 + c % 64) ∷ [] → (0 < c → 128 ≤ c) → c < 2048 → Spelling c l
  three : l ≡ (0xE0 + c / 4096 % 16) ∷ (0x80 + c / 64 % 64) ∷ (0x80 + c % 64) ∷ [] → 2048 ≤ c → Spelling c l

spell_one : (c : ℕ) → 0 < c → c < 128 → spell_char c ≡ c ∷ []
unfolding spell_char
spell_one c h g = rw (le-leb 1 c h, le-leb c 0x7F (omega arith))

spell-two : (c : ℕ) → leb 1 c && leb c 0x7F ≡ false → c < 2048 → spell_char c ≡ (0xC0 + c / 64 % 32) ∷ (0x80 + c % 64) ∷ []
unfolding spell_char
spell-two c h g = rw (h, le-leb c 0x7FF (omega arith))

spell-three : (c : ℕ) → 2048 ≤ c → spell_char c ≡ (0xE0 + c / 4096 % 16) ∷ (0x80 + c / 64 % 64) ∷ (0x80 + c % 64) ∷ []
unfolding spell_char
spell-three c h = rw (le-leb 1 c (omega arith), lt-leb c 0x7F (omega arith), lt-leb c 0x7FF (omega arith))

high : (c : ℕ) → 128 ≤ c → leb 1 c && leb c 0x7F ≡ false
high c h = rw (le-leb 1 c (omega arith), lt-leb c 0x7F (omega arith))

spelling : (c : ℕ) → Spelling c (spell_char c)
spelling c = by (leb 1 c && leb c 0x7F) refl (ltb c 2048) refl
  where
    by : (t : Bool) → leb 1 c && leb c 0x7F ≡ t → (u : Bool) → ltb c 2048 ≡ u → Spelling c (spell_char c)
    by true e u f =
        let p = and_split (leb 1 c) (leb c 0x7F) e in
        let h : 1 ≤ c = leb-true 1 c p.0 in
        let g : c ≤ 127 = leb-true c 0x7F p.1 in
        one (spell_one c h (omega arith)) h (omega arith)
    by false e true f = two (spell-two c e (ltb-true c 2048 f)) (λ h. omega (arith, leb-false c 0x7F (rw (le-leb 1 c h) at e))) (ltb-true c 2048 f)
    by false e false f = three (spell-three c (ltb-false c 2048 f)) (ltb-false c 2048 f)

-- ---- by the count of the octets

pub one_told : (a : ℕ) → is_char (a ∷ []) ≡ true → (0 < a) × (a < 128)
one_told a t = by (spelling a) (char-told (a ∷ []) t)
  where
    by : Spelling a (spell_char a) → a ∷ [] ≡ spell_char a → (0 < a) × (a < 128)
    by (one q h g) e = (h, g)
    by (two q h g) e = let z : ◌≡◌ {A = ℕ} 0 1 = cc in absurd (omega arith)
    by (three q h) e = let z : ◌≡◌ {A = ℕ} 0 1 = cc in absurd (omega arith)

pub is_one : (a : ℕ) → 0 < a → a < 128 → is_char (a ∷ []) ≡ true
is_one a h g = char-yes (a ∷ []) (spell_one a h g)

pub record Two (a b : ℕ) : Type 0 where
  pub low : 192 ≤ a
  pub high : a < 224
  pub second : b / 64 ≡ 2
  pub far : 0 < a % 32 * 64 + b % 64 → 128 ≤ a % 32 * 64 + b % 64

pub two-told : (a b : ℕ) → is_char (a ∷ b ∷ []) ≡ true → Two a b
two-told a b t = by _ refl (spelling (a % 32 * 64 + b % 64)) (char-told (a ∷ b ∷ []) t)
  where
    by : (c : ℕ) → c ≡ a % 32 * 64 + b % 64 → Spelling c (spell_char c) → a ∷ b ∷ [] ≡ spell_char c → Two a b
    by c is (one q h g) e = let z : ◌≡◌ {A = ℕ} 0 1 = cc in absurd (omega arith)
    by c is (two q h g) e =
        let ea : a ≡ 0xC0 + c / 64 % 32 = cc in
        let eb : b ≡ 0x80 + c % 64 = cc in
        record { low = omega arith; high = omega arith; second = omega arith; far = λ p. omega (arith, h (omega arith)) }
    by c is (three q h) e = let z : ◌≡◌ {A = ℕ} 0 1 = cc in absurd (omega arith)

pub is-two : (a b : ℕ) → 194 ≤ a → a < 224 → b / 64 ≡ 2 → is_char (a ∷ b ∷ []) ≡ true
is-two a b h g k = char-yes (a ∷ b ∷ []) (spell-two (a % 32 * 64 + b % 64) (high (a % 32 * 64 + b % 64) (omega arith)) (omega arith) ∙ ap₂ (λ (x y : ℕ). x ∷ y ∷ []) (omega arith) (omega arith))

-- 01: "So 0 is C0 80"
pub is-null : {a b : ℕ} → a ≡ 192 → b ≡ 128 → is_char (a ∷ b ∷ []) ≡ true
unfolding is_char eq_list spell_char
is-null h g = rw (h, g)

pub record Three (a b c : ℕ) : Type 0 where
  pub low : 224 ≤ a
  pub high : a < 240
  pub second : b / 64 ≡ 2
  pub third : c / 64 ≡ 2
  pub far : 2048 ≤ a % 16 * 4096 + b % 64 * 64 + c % 64

pub three-told : (a b c : ℕ) → is_char (a ∷ b ∷ c ∷ []) ≡ true → Three a b c
three-told a b d t = by _ refl (spelling (a % 16 * 4096 + b % 64 * 64 + d % 64)) (char-told (a ∷ b ∷ d ∷ []) t)
  where
    by : (c : ℕ) → c ≡ a % 16 * 4096 + b % 64 * 64 + d % 64 → Spelling c (spell_char c) → a ∷ b ∷ d ∷ [] ≡ spell_char c → Three a b d
    by c is (one q h g) e = let z : ◌≡◌ {A = ℕ} 0 1 = cc in absurd (omega arith)
    by c is (two q h g) e = let z : ◌≡◌ {A = ℕ} 0 1 = cc in absurd (omega arith)
    by c is (three q h) e =
        let ea : a ≡ 0xE0 + c / 4096 % 16 = cc in
        let eb : b ≡ 0x80 + c / 64 % 64 = cc in
        let ed : d ≡ 0x80 + c % 64 = cc in
        record { low = omega arith; high = omega arith; second = omega arith; third = omega arith; far = omega arith }

same-three : {x x' y y' z z' : ℕ} → x ≡ x' → y ≡ y' → z ≡ z' → x ∷ y ∷ z ∷ [] ≡ x' ∷ y' ∷ z' ∷ []
same-three p q r = cc

pub is-three : (a b c : ℕ) → 224 ≤ a → a < 240 → b / 64 ≡ 2 → c / 64 ≡ 2 → 2048 ≤ a % 16 * 4096 + b % 64 * 64 + c % 64 → is_char (a ∷ b ∷ c ∷ []) ≡ true
is-three a b c h g k l m = char-yes (a ∷ b ∷ c ∷ []) (spell-three (a % 16 * 4096 + b % 64 * 64 + c % 64) m ∙ same-three (omega arith) (omega arith) (omega arith))

-- ---- as code tests and counts them

pub char-no : (l : List ℕ) → (is_char l ≡ true → ⊥) → false ≡ is_char l
char-no l h = by (is_char l) refl
  where
    by : (t : Bool) → is_char l ≡ t → false ≡ is_char l
    by true e = absurd (h e)
    by false e = sym e

-- where one more test says whether they are
pub char-if : (l : List ℕ) (t : Bool) → (t ≡ true → is_char l ≡ true) → (t ≡ false → is_char l ≡ true → ⊥) → t ≡ is_char l
char-if l true h g = sym (h refl)
char-if l false h g = char-no l (g refl)

pub counts-yes : (k : ℕ) (l : List ℕ) → is_char l ≡ true → Some k ≡ counts k l
counts-yes k l e = rw e

pub counts-no : (k : ℕ) (l : List ℕ) → (is_char l ≡ true → ⊥) → None ≡ counts k l
counts-no k l h = by (is_char l) refl
  where
    by : (t : Bool) → is_char l ≡ t → ◌≡◌ {A = Option ℕ} None (cond t (Some k) None)
    by true e = absurd (h e)
    by false e = refl

pub counted : (k : ℕ) (l : List ℕ) {b : Bool} {r : Option ℕ} → r ≡ then_some b k → b ≡ is_char l → r ≡ counts k l
counted k l {b} e q = e ∙ by b q
  where
    by : (b : Bool) → b ≡ is_char l → then_some b k ≡ counts k l
    by true q = counts-yes k l (sym q)
    by false q = counts-no k l (λ t. no (q ∙ t))

counts-within : (k : ℕ) (l : List ℕ) (at end : ℕ) → 0 < k → at + k ≤ end → Within at end (counts k l)
counts-within k l at end h g = by (is_char l)
  where
    by : (t : Bool) → Within at end (cond t (Some k) None)
    by true = (h, g)
    by false = tt

-- ---- the character at a place, before an end

pub follow_one : (a : ℕ) → a < 128 → 1 + followers a ≡ 1
follow_one a q = rw (lt-ltb a 128 q)

pub follow-two : (a : ℕ) → 128 ≤ a → a < 224 → 1 + followers a ≡ 2
follow-two a p q = rw (le-ltb a 128 p, lt-ltb a 224 q)

pub follow-three : (a : ℕ) → 224 ≤ a → 1 + followers a ≡ 3
follow-three a q = rw (le-ltb a 128 (omega arith), le-ltb a 224 q)

module _ (o : List ℕ) (at end : ℕ) (g : at < end) (h : end ≤ length o) where
  abbrev a : ℕ
  a = get_or o at 0

  abbrev b : ℕ
  b = get_or o (at + 1) 0

  abbrev c : ℕ
  c = get_or o (at + 2) 0

  spells : (k : ℕ) (r : Option ℕ) (m : List ℕ) → 1 + followers a ≡ k → take k (part o at end) ≡ m → r ≡ counts k m → Within at end r → Spells o at end r
  spells k r m is front e w = record { same = e ∙ sym (by ∙ rw (is, front)); within = w }
    where
      by : spelling_of (part o at end) ≡ counts (1 + followers a) (take (1 + followers a) (part o at end))
      by = rw (part-more o end h at g)

  front-one : take 1 (part o at end) ≡ a ∷ []
  front-one = rw (part-more o end h at g)

  front-two : at + 2 ≤ end → take 2 (part o at end) ≡ a ∷ b ∷ []
  front-two q = rw (part-more o end h at g, part-more o end h (at + 1) (omega arith))

  front-three : at + 3 ≤ end → take 3 (part o at end) ≡ a ∷ b ∷ c ∷ []
  front-three q =
      let next : at + 1 + 1 ≡ at + 2 = omega arith in
      rw (part-more o end h at g, part-more o end h (at + 1) (omega arith), next, part-more o end h (at + 2) (omega arith))

  cut-one : (k : ℕ) → end ≡ at + 1 → take (suc k) (part o at end) ≡ a ∷ []
  cut-one k q = rw (part-more o end h at g, ← q, part_none o end, take-nil {A = ℕ} k)

  cut-two : end ≡ at + 2 → take 3 (part o at end) ≡ a ∷ b ∷ []
  cut-two q =
      let next : at + 1 + 1 ≡ end = omega arith in
      rw (part-more o end h at g, part-more o end h (at + 1) (omega arith), next, part_none o end)

  pub spells_one : {r : Option ℕ} → a < 128 → r ≡ counts 1 (a ∷ []) → Spells o at end r
  spells_one {r} q e = spells 1 r _ (follow_one a q) front-one e (rw e (counts-within 1 (a ∷ []) at end (omega arith) (omega arith)))

  pub spells-two : {r : Option ℕ} → 128 ≤ a → a < 224 → at + 2 ≤ end → r ≡ counts 2 (a ∷ b ∷ []) → Spells o at end r
  spells-two {r} p q w e = spells 2 r _ (follow-two a p q) (front-two w) e (rw e (counts-within 2 (a ∷ b ∷ []) at end (omega arith) w))

  pub spells-three : {r : Option ℕ} → 224 ≤ a → at + 3 ≤ end → r ≡ counts 3 (a ∷ b ∷ c ∷ []) → Spells o at end r
  spells-three {r} q w e = spells 3 r _ (follow-three a q) (front-three w) e (rw e (counts-within 3 (a ∷ b ∷ c ∷ []) at end (omega arith) w))

  alone : 128 ≤ a → is_char (a ∷ []) ≡ true → ⊥
  alone p t = omega (arith, (one_told a t).1)

  -- two octets, or one where the second is cut off, that are no character
  pub misspelt-two : 128 ≤ a → a < 224 → (at + 2 ≤ end → is_char (a ∷ b ∷ []) ≡ true → ⊥) → Spells o at end None
  misspelt-two p q no = by (ltb (at + 1) end) refl
    where
      by : (t : Bool) → ltb (at + 1) end ≡ t → Spells o at end None
      by true e = spells-two p q (omega (arith, ltb-true _ end e)) (counts-no 2 _ (no (omega (arith, ltb-true _ end e))))
      by false e = spells 2 None _ (follow-two a p q) (cut-one 1 (omega (arith, ltb-false _ end e))) (counts-no 2 _ (alone p)) tt

  pub misspelt-three : 224 ≤ a → (at + 3 ≤ end → is_char (a ∷ b ∷ c ∷ []) ≡ true → ⊥) → Spells o at end None
  misspelt-three q no = by (ltb (at + 1) end) refl (ltb (at + 2) end) refl
    where
      by : (t : Bool) → ltb (at + 1) end ≡ t → (u : Bool) → ltb (at + 2) end ≡ u → Spells o at end None
      by t e true f = spells-three q (omega (arith, ltb-true _ end f)) (counts-no 3 _ (no (omega (arith, ltb-true _ end f))))
      by true e false f = spells 3 None _ (follow-three a q) (cut-two (omega (arith, ltb-true _ end e, ltb-false _ end f))) (counts-no 3 _ λ t. omega (arith, (two-told a b t).high)) tt
      by false e false f = spells 3 None _ (follow-three a q) (cut-one 2 (omega (arith, ltb-false _ end e))) (counts-no 3 _ (alone (omega arith))) tt
