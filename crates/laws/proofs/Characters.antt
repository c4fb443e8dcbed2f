-- Characters: what is read as one is its spelling, the spelling of a code is read as that code and as nothing else.
use mathlib.Core.Path.{◌≡◌, refl, sym, ap, ◌∙◌}
use mathlib.Core.Bool.{Bool, true, false, ◌&&◌, ◌||◌}
use mathlib.Core.List.{List, [], ◌∷◌, ◌++◌, append-nil}
use Prim.Native.Nat.{ℕ, zero, suc, ◌+◌, ◌*◌, ◌/◌, ◌%◌, ◌^◌, ◌<◌, ◌≤◌}
use native.Mathlib.Omega.{arith}
use lib.ListN.{length, take, drop, take-append-drop}
use lib.Seq.{take_at}
use lib.Dec.{leb, eqb}
use borrow.Author.Tests.{lt-ltb, le-ltb, leb-true, le-leb, lt-leb, eqb-true, eq-eqb}
use Rattle.reading.specs.Reading.{Env, State}
use Rattle.reading.proofs.Sound.{Octets, Sound, s-ret, s-require, s-here, s-weaken, Leaf, s-leaf, octet-leaf}
use Rattle.reading.proofs.Only.{Only, o-bind, o-here, o-require, o-octet, o-ret, o-as}
use Rattle.reading.proofs.Does.{Does, d-bind, d-here, d-require, d-octet, d-ret, d-as}
use Rattle.format.specs.Data.{run, spell_char, followers, code_of, is_char, character, chars}
use Rattle.format.specs.Grammar.{spell_chars, Codes}
use Rattle.reading.proofs.Tests.{and_left, and_right}
use Rattle.laws.proofs.Tests.{eq_list-true, eq_list-same}

-- ---- runs of octets

pub octets-cons : (b : ℕ) (l : List ℕ) → b < 256 → Octets l → Octets (b ∷ l)
octets-cons b l h o zero = h
octets-cons b l h o (suc i) = o i

-- so many octets
abbrev pub Run : ℕ → List ℕ → Type 0
Run n l = (length l ≡ n) × Octets l

pub run-leaf : (n : ℕ) → Leaf (run n) (λ l. l) (Run n)
unfolding run
run-leaf zero s = s-ret _ (refl, (refl, λ i. omega arith), refl)
run-leaf (suc n) s = s-leaf _ octet-leaf λ b at m small. s-leaf _ (run-leaf n) λ l at' m' q.
    s-ret _ (ap (λ (x : List ℕ). b ∷ x) (append-nil l), (ap suc q.0, octets-cons b l small q.1), refl)

pub run_only : (n : ℕ) (l : List ℕ) → length l ≡ n → Only (run n) l l
unfolding run
run_only zero [] e = o-ret []
run_only zero (b ∷ l) e = absurd (omega arith)
run_only (suc n) [] e = absurd (omega arith)
run_only (suc n) (b ∷ l) e = o-octet b _ (o-as (append-nil l) refl (o-bind _ (run_only n l (omega arith)) (o-ret (b ∷ l))))

pub run-does : (n : ℕ) (l : List ℕ) (e : Env) → length l ≡ n → Does (run n) e l l e
unfolding run
run-does zero [] e q = d-ret []
run-does zero (b ∷ l) e q = absurd (omega arith)
run-does (suc n) [] e q = absurd (omega arith)
run-does (suc n) (b ∷ l) e q = d-octet b _ (d-as (append-nil l) refl refl (d-bind _ (run-does n l e (omega arith)) (d-ret (b ∷ l))))

-- ---- one character

-- a first octet of a character
abbrev opens : ℕ → Bool
opens a = (leb 0x01 a && leb a 0x7F) || (leb 0xC0 a && leb a 0xEF)

-- the octets of a character: the first says how many follow, and together they say the code
pub record Char-octets (c : ℕ) : Type 0 where
  pub leading : ℕ
  pub rest : List ℕ
  pub spelt_is : spell_char c ≡ leading ∷ rest
  pub opens_it : opens leading ≡ true
  pub rest_long : length rest ≡ followers leading
  pub code_is : code_of (leading ∷ rest) ≡ c

followers-none : (a : ℕ) → a < 0x80 → followers a ≡ 0
followers-none a h = rw (lt-ltb a 0x80 h)

followers-one : (a : ℕ) → 0x80 ≤ a → a < 0xE0 → followers a ≡ 1
followers-one a h g = rw (le-ltb a 0x80 h, lt-ltb a 0xE0 g)

followers-two : (a : ℕ) → 0xE0 ≤ a → followers a ≡ 2
followers-two a h = rw (le-ltb a 0x80 (omega arith), le-ltb a 0xE0 h)

opens-high : (a : ℕ) → 0xC0 ≤ a → a ≤ 0xEF → opens a ≡ true
opens-high a h g = rw (lt-leb a 0x7F (omega arith), le-leb 0xC0 a h, le-leb a 0xEF g, le-leb 1 a (omega arith))

low_bits : (x : ℕ) → ((0xE0 + x % 16) % 16 ≡ x % 16) × ((0x80 + x % 64) % 64 ≡ x % 64)
low_bits x = (omega arith, omega arith)

three_back : (c : ℕ) → c < 2 ^ 16 → c / 4096 % 16 * 4096 + c / 64 % 64 * 64 + c % 64 ≡ c
three_back c h = omega arith

pub char-spelt : (c : ℕ) → c < 2 ^ 16 → Char-octets c
unfolding spell_char
char-spelt c small = by (leb 1 c && leb c 0x7F) refl (leb c 0x7FF) refl
  where
    by : (t : Bool) → leb 1 c && leb c 0x7F ≡ t → (u : Bool) → leb c 0x7FF ≡ u → Char-octets c
    by true e u f =
        let low : 1 ≤ c = leb-true 1 c (and_left (leb 1 c) (leb c 0x7F) e) in
        let high : c ≤ 0x7F = leb-true c 0x7F (and_right (leb 1 c) (leb c 0x7F) e) in
        record { leading = c; rest = []; spelt_is = rw (e, spell_char); opens_it = rw e; rest_long = sym (followers-none c (omega arith)); code_is = refl }
    by false e true f =
        let high : c ≤ 0x7FF = leb-true c 0x7FF f in
        record {
          leading = 0xC0 + c / 64 % 32;
          rest = (0x80 + c % 64) ∷ [];
          spelt_is = rw (e, f, spell_char);
          opens_it = opens-high (0xC0 + c / 64 % 32) (omega arith) (omega arith);
          rest_long = sym (followers-one (0xC0 + c / 64 % 32) (omega arith) (omega arith));
          code_is = omega arith;
        }
    by false e false f = record {
      leading = 0xE0 + c / 4096 % 16;
      rest = (0x80 + c / 64 % 64) ∷ (0x80 + c % 64) ∷ [];
      spelt_is = rw (e, f, spell_char);
      opens_it = opens-high (0xE0 + c / 4096 % 16) (omega arith) (omega arith);
      rest_long = sym (followers-two (0xE0 + c / 4096 % 16) (omega arith));
      code_is = rw ((low_bits (c / 4096)).0, (low_bits (c / 64)).1, (low_bits c).1) (three_back c small);
    }

-- the spelling of a code is a character
is-char : (c : ℕ) → c < 2 ^ 16 → is_char (spell_char c) ≡ true
unfolding is_char
is-char c h =
    let w = char-spelt c h in
    let back : code_of (spell_char c) ≡ c = ap code_of w.spelt_is ∙ w.code_is in
    rw back (eq_list-same eqb (spell_char c) (λ x. eq-eqb x x refl))

-- and a character is the spelling of its code
char_is : (l : List ℕ) → is_char l ≡ true → l ≡ spell_char (code_of l)
unfolding is_char
char_is l e = eq_list-true eqb eqb-true l (spell_char (code_of l)) e

code-small : (l : List ℕ) → Octets l → code_of l < 2 ^ 16
code-small [] o = omega arith
code-small (a ∷ []) o = omega (arith, o 0)
code-small (a ∷ b ∷ []) o = omega arith
code-small (a ∷ b ∷ c ∷ l) o = omega arith

pub character-leaf : Leaf character spell_char (λ c. c < 2 ^ 16)
unfolding character
character-leaf s = s-here _ (s-leaf _ octet-leaf λ a at m small. s-require _ _ _ _ λ _. s-leaf _ (run-leaf (followers a)) λ l at' m' q. s-require _ _ _ _ λ h.
    s-ret _ (ap (λ (x : List ℕ). a ∷ x) (append-nil l) ∙ char_is (a ∷ l) h, code-small (a ∷ l) (octets-cons a l small q.1), refl))

pub character-only : (c : ℕ) → c < 2 ^ 16 → Only character (spell_char c) c
unfolding character
character-only c h =
    let w = char-spelt c h in
    o-as (ap (λ (x : List ℕ). w.leading ∷ x) (append-nil w.rest) ∙ sym w.spelt_is) w.code_is
    (o-here _ λ p. o-octet w.leading _ (o-require _ _ _ _ λ _. o-bind _ (run_only _ w.rest w.rest_long) (o-require _ _ _ _ λ _. o-ret _)))

pub character-does : (c : ℕ) (e : Env) → c < 2 ^ 16 → Does character e (spell_char c) c e
unfolding character
character-does c e h =
    let w = char-spelt c h in
    let whole : is_char (w.leading ∷ w.rest) ≡ true = ap is_char (sym w.spelt_is) ∙ is-char c h in
    d-as (ap (λ (x : List ℕ). w.leading ∷ x) (append-nil w.rest) ∙ sym w.spelt_is) w.code_is refl
    (d-here _ λ p. d-octet w.leading _ (d-require _ _ _ _ w.opens_it (d-bind _ (run-does _ w.rest e w.rest_long) (d-require _ _ _ _ whole (d-ret _)))))

-- ---- characters one after another

-- contents that characters make
abbrev pub Spelt-chars : List ℕ → Type 0
Spelt-chars l = (cs : List ℕ) × Codes cs × (l ≡ spell_chars cs)

pub octets-front : (n : ℕ) (l : List ℕ) → Octets l → Octets (take n l)
octets-front zero l o i = omega arith
octets-front (suc n) [] o i = omega arith
octets-front (suc n) (b ∷ l) o zero = o 0
octets-front (suc n) (b ∷ l) o (suc i) = octets-front n l (λ j. o (suc j)) i

pub chars-sound : (k p : ℕ) (l : List ℕ) (s : State) → Octets l → Sound (chars k p l) s (λ _ s' u. (u ≡ []) × (s'.env ≡ s.env) × Spelt-chars (drop k l))
unfolding chars spell_chars Codes
chars-sound zero p [] s o = s-ret _ (refl, refl, ([], tt, refl))
chars-sound (suc k) p [] s o = s-ret _ (refl, refl, ([], tt, refl))
chars-sound (suc k) p (a ∷ l) s o = chars-sound k (p + 1) l s (λ i. o (suc i))
chars-sound zero p (a ∷ l) s o = s-require _ _ _ _ λ h. s-weaken
    (λ _ s' u q.
    let m = take (followers a) l in
    let one_more : suc (followers a) ≡ 1 + followers a = omega arith in (
      q.0,
      q.1,
      (
        code_of (a ∷ m) ∷ q.2.0,
        (code-small (a ∷ m) (octets-front (suc (followers a)) (a ∷ l) o), q.2.1),
        sym (take-append-drop (suc (followers a)) (a ∷ l)) ∙ ap (λ (x : List ℕ). x ++ drop (followers a) l) (char_is (a ∷ m) (ap (λ (n : ℕ). is_char (take n (a ∷ l))) one_more ∙ h)) ∙ ap (λ (x : List ℕ). spell_char (code_of (a ∷ m)) ++ x) q.2.2,
      ),
    ))
    (chars-sound (followers a) (p + 1) l s (λ i. o (suc i)))

pub chars-only : (k p : ℕ) (l : List ℕ) → Only (chars k p l) [] tt
unfolding chars
chars-only zero p [] = o-ret tt
chars-only (suc k) p [] = o-ret tt
chars-only (suc k) p (a ∷ l) = chars-only k (p + 1) l
chars-only zero p (a ∷ l) = o-require _ _ _ _ λ _. chars-only (followers a) (p + 1) l

-- past the octets of a character
past-char : (m l : List ℕ) (k p : ℕ) (e : Env) → length m ≡ k → ((q : ℕ) → Does (chars 0 q l) e [] tt e) → Does (chars k p (m ++ l)) e [] tt e
unfolding chars
past-char [] l zero p e h d = d p
past-char [] l (suc k) p e h d = absurd (omega arith)
past-char (b ∷ m) l zero p e h d = absurd (omega arith)
past-char (b ∷ m) l (suc k) p e h d = past-char m l k (p + 1) e (omega arith) d

pub chars-does : (cs : List ℕ) (p : ℕ) (e : Env) → Codes cs → Does (chars 0 p (spell_chars cs)) e [] tt e
unfolding spell_chars Codes chars
chars-does [] p e h = d-ret tt
chars-does (c ∷ cs) p e h = by (char-spelt c h.0) (is-char c h.0) (λ q. chars-does cs q e h.1)
  where
    by : Char-octets c → is_char (spell_char c) ≡ true → ((q : ℕ) → Does (chars 0 q (spell_chars cs)) e [] tt e) → Does (chars 0 p (spell_char c ++ spell_chars cs)) e [] tt e
    by w i rest =
        let whole : is_char (take (1 + followers w.leading) (w.leading ∷ (w.rest ++ spell_chars cs))) ≡ true =
        ap is_char (take_at (w.leading ∷ w.rest) (spell_chars cs) (1 + followers w.leading) (omega (arith, w.rest_long)) ∙ sym w.spelt_is) ∙ i in
        rw w.spelt_is (d-require _ _ _ _ whole (past-char w.rest (spell_chars cs) (followers w.leading) (p + 1) e w.rest_long rest))
