-- The answer to a case, by what is read of it.
use mathlib.Core.Path.{◌≡◌, refl, sym, ap, ◌∙◌}
use mathlib.Core.Bool.{Bool, true, false}
use mathlib.Core.List.{List, []}
use Prim.Native.Nat.{ℕ, ◌^◌, ◌<◌, ◌≤◌}
use lib.ListN.{get_or, drop}
use lib.Dec.{ltb}
use lib.IntN.{ℤ}
use lib.Signed.{mag}
use borrow.Author.Tests.{ltb-true, ltb-false, lt-ltb, le-ltb}
use Rattle.reading.specs.Reading.{refusal}
use Rattle.format.specs.declared.Row.{Row}
use Rattle.format.specs.declared.As.{As}
use Rattle.format.specs.Asking.{ask}
use Rattle.format.specs.Message.{Answer, refused}
use Rattle.std.specs.Prelude.{Option}
use Rattle.queries.specs.Numerals.{numeral_of, integer_of}
use Rattle.queries.specs.Queries.{fields_of, after, last_word, row_of, ask_row, malformed, word_outcome, fields_outcome, outcome}
use Rattle.queries.specs.Reads.{NumberRead}
use Rattle.queries.proofs.Split.{after_none, after_one, after_stop, after_more, after_next}

-- ---- the row's answer

-- asking looks at the type and the number only
pub ask-alike : (a : As) (r : Row) → ask a r ≡ ask a (row_of r.ty r.number)
unfolding ask
ask-alike a r = refl

-- what the code asks, by its numbers as it holds them
pub row_same : {row : Row} {s t m n : ℤ} → row ≡ row_of s m → s ≡ t → m ≡ n → row ≡ row_of t n
row_same e p q = rw (← p, ← q) e

module _ (a : As) (t n : ℤ) where
  pub no-type : (mag t < 2 ^ 31 → ⊥) → refused (refusal 14 0) ≡ ask_row a t n
  unfolding ask_row
  no-type e = sym (rw (le-ltb (mag t) (2 ^ 31) (by (ltb (mag t) (2 ^ 31)) refl)))
    where
      by : (y : Bool) → ltb (mag t) (2 ^ 31) ≡ y → 2 ^ 31 ≤ mag t
      by true g = absurd (e (ltb-true (mag t) (2 ^ 31) g))
      by false g = ltb-false (mag t) (2 ^ 31) g

  pub no_number : mag t < 2 ^ 31 → (mag n < 2 ^ 63 → ⊥) → refused (refusal 14 0) ≡ ask_row a t n
  unfolding ask_row
  no_number h e = sym (rw (lt-ltb (mag t) (2 ^ 31) h, le-ltb (mag n) (2 ^ 63) (by (ltb (mag n) (2 ^ 63)) refl)))
    where
      by : (y : Bool) → ltb (mag n) (2 ^ 63) ≡ y → 2 ^ 63 ≤ mag n
      by true g = absurd (e (ltb-true (mag n) (2 ^ 63) g))
      by false g = ltb-false (mag n) (2 ^ 63) g

  pub row-asked : mag t < 2 ^ 31 → mag n < 2 ^ 63 → {x : Answer ℤ} {row : Row} → x ≡ ask a row → row ≡ row_of t n → x ≡ ask_row a t n
  unfolding ask_row
  row-asked h g q e = q ∙ ap (ask a) e ∙ sym (rw (lt-ltb (mag t) (2 ^ 31) h, lt-ltb (mag n) (2 ^ 63) g))

-- ---- the whole case

pub after-ten-none : (line : List ℕ) → after 10 (fields_of line) ≡ [] → malformed ≡ outcome line
unfolding fields_outcome
after-ten-none line e = sym (rw e)

-- where the first number is not there
pub first-not : (line : List ℕ) → after 1 (fields_of line) ≡ [] → malformed ≡ outcome line
first-not line e = after-ten-none line (after_stop 9 (fields_of line) e)

-- the type is read
module _ (line : List ℕ) {k : ℤ} {second : ℕ} (r : NumberRead line 0 k second) where
  first : after 10 (fields_of line) ≡ after 9 (fields_of (drop second line))
  first = ap (after 10) r.parts ∙ after_one 9 r.field (fields_of (drop second line)) r.says

  pub fourth-none : after 2 (fields_of (drop second line)) ≡ [] → malformed ≡ outcome line
  fourth-none e = after-ten-none line (first ∙ after_more 2 7 (fields_of (drop second line)) ∙ ap (after 7) e ∙ after_none 7)

  -- and two more numbers
  module _ (fourth : ℕ) (e : after 2 (fields_of (drop second line)) ≡ fields_of (drop fourth line)) where
    third : after 10 (fields_of line) ≡ after 7 (fields_of (drop fourth line))
    third = first ∙ after_more 2 7 (fields_of (drop second line)) ∙ ap (after 7) e

    pub fourth-not : after 1 (fields_of (drop fourth line)) ≡ [] → malformed ≡ outcome line
    fourth-not s = after-ten-none line (third ∙ after_stop 6 (fields_of (drop fourth line)) s)

    -- and the number
    module _ {n : ℤ} {fifth : ℕ} (x : NumberRead line fourth n fifth) where
      with_number : after 10 (fields_of line) ≡ after 6 (fields_of (drop fifth line))
      with_number = third ∙ ap (after 7) x.parts ∙ after_one 6 x.field (fields_of (drop fifth line)) x.says

      pub last_none : after 6 (fields_of (drop fifth line)) ≡ [] → malformed ≡ outcome line
      last_none s = after-ten-none line (with_number ∙ s)

      type-is : integer_of (numeral_of (get_or (fields_of line) 0 [])) ≡ k
      type-is = ap integer_of (ap (λ (fs : List (List ℕ)). numeral_of (get_or fs 0 [])) r.parts ∙ r.says)

      number_is : integer_of (numeral_of (get_or (fields_of line) 3 [])) ≡ n
      number_is = ap integer_of (ap (λ (fs : List (List ℕ)). numeral_of (get_or fs 3 [])) r.parts ∙ ap numeral_of (after_next 2 (fields_of (drop second line)) (e ∙ x.parts)) ∙ x.says)

      -- and six more
      pub word_read : (last : ℕ) → after 6 (fields_of (drop fifth line)) ≡ fields_of (drop last line) → (w : Option As) → w ≡ last_word (fields_of (drop last line))
          → word_outcome w k n ≡ outcome line
      unfolding fields_outcome
      word_read last f w q = sym (rw (with_number ∙ f, ← q, type-is, number_is))
