-- The character at a place.
use mathlib.Core.Path.{◌≡◌, refl, sym, ◌∙◌}
use mathlib.Core.Bool.{Bool, true, false, cond, ◌&&◌, ◌||◌}
use mathlib.Core.List.{List, [], ◌∷◌}
use Prim.Native.Nat.{ℕ, suc, ◌+◌, ◌-◌, ◌^◌, ◌<◌, ◌≤◌}
use native.Mathlib.Omega.{arith}
use native.Mathlib.Nat.{add-zero}
use lib.ListN.{length, get_or, take, drop}
use lib.Seq.{take-take}
use lib.Dec.{ltb, leb}
use borrow.Author.Tests.{ltb-true, ltb-false, lt-ltb, le-leb, lt-leb}
use Rattle.reading.specs.Reading.{Env, State, got, stop, refusal, stand, follow, ◌>>=◌, return, require, here}
use Rattle.reading.proofs.Sound.{never}
use Rattle.reading.proofs.Places.{octet-at, octet-end}
use Rattle.format.specs.Data.{followers, code_of, is_char, character}
use Rattle.std.specs.Prelude.{Option, Some, None, Ok, Err}
use Rattle.scalar.specs.Answers.{Passes, Codes}
use Rattle.scalar.specs.Parts.{part, counts, spelling_of, Spells}
use Rattle.scalar.proofs.Passing.{passes-got, passes-stop}
use Rattle.scalar.proofs.Octets.{run_at, run_end, part-more}
use Rattle.scalar.proofs.Values.{take_more}
use Rattle.scalar.proofs.Chars.{is_one, follow_one, follow-two, follow-three}

-- whether a character can begin so
abbrev begun : ℕ → Bool
begun a = (leb 0x01 a && leb a 0x7F) || (leb 0xC0 a && leb a 0xEF)

module _ (o : List ℕ) (at : ℕ) (h : at < length o) where
  abbrev a : ℕ
  a = get_or o at 0

  -- its octets
  abbrev all : List ℕ
  all = a ∷ take (followers a) (drop (at + 1) o)

  char-outside : begun a ≡ false → (e : Env) → character (stand o at e) ≡ stop (refusal 6 at)
  unfolding character ◌>>=◌ here require stand
  char-outside q e = rw (octet-at o at e h, q, require)

  char-short : begun a ≡ true → length o < at + 1 + followers a → (e : Env) → character (stand o at e) ≡ stop (refusal 1 (length o))
  unfolding character ◌>>=◌ here require
  char-short q g e = rw (octet-at o at e h, q, require, run_end o e (followers a) (at + 1) (omega arith) g)

  pub char-there : begun a ≡ true → at + 1 + followers a ≤ length o → (t : Bool) → is_char all ≡ t → (e : Env)
      → character (stand o at e) ≡ cond t (got (code_of all) (stand o (at + 1 + followers a) e)) (stop (refusal 6 at))
  unfolding character ◌>>=◌ here require return stand
  char-there q g t w e = rw (octet-at o at e h, q, require, run_at o e (followers a) (at + 1) g, w) (by t)
    where
      by : (t : Bool) → follow (require t 6 at (stand o (at + 1 + followers a) e)) (λ _. return (code_of all)) ≡ cond t (got (code_of all) (stand o (at + 1 + followers a) e)) (stop (refusal 6 at))
      by true = refl
      by false = refl

  -- what a caller finds of its octets
  all-spelt : at + 1 + followers a ≤ length o → spelling_of (part o at (length o)) ≡ counts (1 + followers a) all
  all-spelt g =
      let one : 1 + followers a ≡ suc (followers a) = omega arith in
      rw (part-more o (length o) (omega arith) at h, one, take-take (followers a) (length o - (at + 1)) (drop (at + 1) o) (omega arith))

  begun-long : 128 ≤ a → begun a ≡ leb 0xC0 a && leb a 0xEF
  begun-long g = rw (lt-leb a 0x7F (omega arith)) (by (leb 1 a))
    where
      by : (t : Bool) → (t && false) || (leb 0xC0 a && leb a 0xEF) ≡ leb 0xC0 a && leb a 0xEF
      by true = refl
      by false = refl

  pub null-refused : a ≡ 0 → Passes 1 o at character (Err (refusal 6 at))
  null-refused q = passes-stop (char-outside (rw q))

  pub one-passed : 0 < a → a < 128 → Passes 1 o at character (Ok (at + 1))
  one-passed g k =
      let none : followers a ≡ 0 = rw (lt-ltb a 128 k) in
      passes-got a (λ e. char-there (rw (le-leb 1 a g, le-leb a 0x7F (omega arith))) (omega arith) true (rw none (is_one a g k)) e ∙ rw (none, add-zero (at + 1))) (omega arith) (omega arith)

  module _ (long : 128 ≤ a) where
    pub outside-refused : leb 0xC0 a && leb a 0xEF ≡ false → Passes 1 o at character (Err (refusal 6 at))
    outside-refused q = passes-stop (char-outside (begun-long long ∙ q))

    module _ (q : leb 0xC0 a && leb a 0xEF ≡ true) where
      pub cut-refused : length o < at + (1 + followers a) → Passes 1 o at character (Err (refusal 1 (length o)))
      cut-refused g = passes-stop (char-short (begun-long long ∙ q) (omega arith))

      module _ (g : at + (1 + followers a) ≤ length o) {r : Option ℕ} (s : Spells o at (length o) r) where
        counted : r ≡ counts (1 + followers a) all
        counted = s.same ∙ all-spelt (omega arith)

        pub misspelt-refused : r ≡ None → Passes 1 o at character (Err (refusal 6 at))
        misspelt-refused z = passes-stop (char-there (begun-long long ∙ q) (omega arith) false (by (is_char all) refl))
          where
            by : (t : Bool) → is_char all ≡ t → is_char all ≡ false
            by true e = let is : r ≡ Some (1 + followers a) = counted ∙ rw e in let w : ◌≡◌ {A = ℕ} 0 1 = cc in absurd (omega arith)
            by false e = e

        pub spelt-passed : {k : ℕ} → r ≡ Some k → Passes 1 o at character (Ok (at + k))
        spelt-passed {k} n = by (is_char all) refl
          where
            by : (t : Bool) → is_char all ≡ t → Passes 1 o at character (Ok (at + k))
            by true e =
                let is : r ≡ Some (1 + followers a) = counted ∙ rw e in
                let same : k ≡ 1 + followers a = cc in
                let next : at + 1 + followers a ≡ at + k = omega arith in
                passes-got _ (rw next at (char-there (begun-long long ∙ q) (omega arith) true e)) (omega arith) (omega arith)
            by false e = let is : r ≡ None = counted ∙ rw e in let w : ◌≡◌ {A = ℕ} 0 1 = cc in absurd (omega arith)

char-end : (o : List ℕ) (at : ℕ) (e : Env) → length o ≤ at → character (stand o at e) ≡ stop (refusal 1 at)
unfolding character ◌>>=◌ here
char-end o at e h = rw (octet-end o at e h)

pub none-refused : {o : List ℕ} {at : ℕ} → length o ≤ at → Passes 1 o at character (Err (refusal 1 at))
none-refused {o} {at} h = passes-stop λ e. char-end o at e h

-- ---- where it is accepted

module _ (o : List ℕ) (at : ℕ) where
  abbrev first : ℕ
  first = get_or o at 0

  given : (h : at < length o) (e : Env) (c : ℕ) (s : State) → character (stand o at e) ≡ got c s
      → (at + 1 + followers first ≤ length o) × (got (code_of (all o at h)) (stand o (at + 1 + followers first) e) ≡ got c s)
  given h e c s q = by (begun first) refl (ltb (length o) (at + 1 + followers first)) refl (is_char (all o at h)) refl
    where
      by : (t : Bool) → begun first ≡ t → (u : Bool) → ltb (length o) (at + 1 + followers first) ≡ u → (v : Bool) → is_char (all o at h) ≡ v
          → (at + 1 + followers first ≤ length o) × (got (code_of (all o at h)) (stand o (at + 1 + followers first) e) ≡ got c s)
      by false x u y v z = absurd (never (sym (char-outside o at h x e) ∙ q))
      by true x true y v z = absurd (never (sym (char-short o at h x (ltb-true _ _ y) e) ∙ q))
      by true x false y false z = absurd (never (sym (char-there o at h x (ltb-false _ _ y) false z e) ∙ q))
      by true x false y true z = (ltb-false _ _ y, sym (char-there o at h x (ltb-false _ _ y) true z e) ∙ q)

  pub lost-none : length o ≤ at → Codes o at None
  lost-none h = record { same = λ e c s q. absurd (never (sym (char-end o at e h) ∙ q)); past = tt }

  module _ (h : at < length o) where
    pub lost-cut : length o < at + (1 + followers first) → Codes o at None
    lost-cut g = record { same = λ e c s q. absurd (omega (arith, (given h e c s q).0)); past = tt }

    code_read : (k c : ℕ) → 1 + followers first ≡ k → at + k ≤ length o → c ≡ code_of (all o at h) → c < 2 ^ 16 → Codes o at (Some (at + k, c))
    code_read k c is g q small =
        let next : at + 1 + followers first ≡ at + k = omega arith in
        let some : 0 < k = omega arith in
        record { same = λ e d s w. rw (q, ← next) (given h e d s w).1; past = (omega arith, g, small) }

    pub code_one : first < 128 → Codes o at (Some (at + 1, first))
    code_one g = let none : followers first ≡ 0 = omega (arith, follow_one first g) in code_read 1 first (follow_one first g) (omega arith) (rw none) (omega arith)

    pub code-two : {c : ℕ} → 128 ≤ first → first < 224 → at + 2 ≤ length o → c ≡ code_of (first ∷ get_or o (at + 1) 0 ∷ []) → Codes o at (Some (at + 2, c))
    code-two {c} g k w q =
        let one : followers first ≡ 1 = omega (arith, follow-two first g k) in
        code_read 2 c (follow-two first g k) w (q ∙ rw (one, take_more o 0 (at + 1) (omega arith))) (omega (arith, q))

    pub code-three : {c : ℕ} → 224 ≤ first → at + 3 ≤ length o → c ≡ code_of (first ∷ get_or o (at + 1) 0 ∷ get_or o (at + 2) 0 ∷ []) → Codes o at (Some (at + 3, c))
    code-three {c} g w q =
        let two : followers first ≡ 2 = omega (arith, follow-three first g) in
        let next : at + 1 + 1 ≡ at + 2 = omega arith in
        code_read 3 c (follow-three first g) w (q ∙ rw (two, take_more o 1 (at + 1) (omega arith), next, take_more o 0 (at + 2) (omega arith))) (omega (arith, q))
