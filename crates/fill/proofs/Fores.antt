-- The data of a value of accepted octets.
use mathlib.Core.Path.{◌≡◌, refl, sym, ap, ap₂, subst, ◌∙◌}
use mathlib.Core.Bool.{Bool, true, false, cond}
use mathlib.Core.List.{List, [], ◌++◌}
use Prim.Native.Nat.{ℕ, ◌+◌, ◌-◌, ◌<◌, ◌≤◌}
use native.Mathlib.Omega.{arith}
use native.Mathlib.Nat.{add-zero}
use lib.ListN.{length, length-append}
use lib.IntN.{ℤ, pos}
use lib.Signed.{mag}
use mir.Syntax.{w64}
use mir.Val.{to_z}
use Rattle.std.specs.Prelude.{Option, Some, None, Result, Ok, Err}
use Rattle.reading.specs.declared.Refusal.{Refusal}
use Rattle.format.specs.Types.{Datum, Text, none, Holds, nothing, Kind, string}
use Rattle.format.specs.Data.{spell_number, spell_element}
use Rattle.format.specs.Values.{Head}
use Rattle.format.specs.Spelling.{data_by}
use Rattle.format.specs.Grammar.{Good, Contents}
use Rattle.format.specs.Rows.{has_contents}
use Rattle.decide.specs.Classes.{text_of}
use Rattle.decide.specs.Elements.{AmountAt}
use Rattle.fill.specs.declared.Fore.{Fore}
use Rattle.fill.specs.declared.Data.TheVariants.{Leaf}
use Rattle.fill.specs.Numbers.{Begins, PastNumber, NumberAt}
use Rattle.fill.specs.Rows.{nest_by, fore_with, fore_of, leaf_of, data_with, DataAt}
use Rattle.fill.proofs.Begins.{begins-left, begins-right, moved, some-first, some-second, ok-first, ok-second}
use Rattle.fill.proofs.Numbers.{PastElement, ElementaryAt, element-none, amount-past, amount-held, amount-found, amount-missing, begins-long}

no-element : {a : ℕ} {e : ℤ} {r : Refusal} → ◌≡◌ {A = Result (ℕ × ℤ) Refusal} (Err r) (Ok (a, e)) → ⊥
no-element h = cc

no_number : {a : ℕ} {z : ℤ} → ◌≡◌ {A = Option (ℕ × ℤ)} None (Some (a, z)) → ⊥
no_number h = cc

pub element-past : {o : List ℕ} {on : Bool} {at : ℕ} {x : Result (ℕ × ℤ) Refusal} {next : ℕ} {e : ℤ} → ElementaryAt o on at x → x ≡ Ok (next, e) → (at ≤ next) × (next ≤ length o)
element-past {o} {at = at} x q = subst (PastElement o at) q x.past

number_past : {o : List ℕ} {d : Datum} {at : ℕ} {x : Option (ℕ × ℤ)} {next : ℕ} {z : ℤ} → NumberAt o d at x → x ≡ Some (next, z) → (at ≤ next) × (next ≤ length o)
number_past {o} {at = at} x q = subst (PastNumber o at) q x.past

-- ---- element types, number and contents, one after another

module _ {o : List ℕ} (k : Kind) {at : ℕ} {r₁ : Result (ℕ × ℤ) Refusal} (x₁ : ElementaryAt o k.first at r₁) where
  first-same : (h : Head) → Good k h → Begins o at (data_by k h) → r₁ ≡ Ok (at + length (spell_element k.first h.first), h.first)
  first-same h g b = x₁.same h.first g.first_good (begins-left (spell_element k.first h.first) (spell_element k.second h.second ++ (spell_number k.datum h.number ++ h.text)) b)

  pub data-untyped : {y : Refusal} → r₁ ≡ Err y → DataAt o k at None
  data-untyped q = record { past = tt; same = λ h cs g d b b'. absurd (no-element (sym q ∙ first-same h g b)) }

  module _ {at₂ : ℕ} {e : ℤ} (q₁ : r₁ ≡ Ok (at₂, e)) {r₂ : Result (ℕ × ℤ) Refusal} (x₂ : ElementaryAt o k.second at₂ r₂) where
    rest₂ : (h : Head) → Good k h → Begins o at (data_by k h) → Begins o at₂ (spell_element k.second h.second ++ (spell_number k.datum h.number ++ h.text))
    rest₂ h g b = moved (ok-first (sym q₁ ∙ first-same h g b)) (begins-right (spell_element k.first h.first) (spell_element k.second h.second ++ (spell_number k.datum h.number ++ h.text)) b)

    second-same : (h : Head) → Good k h → Begins o at (data_by k h) → r₂ ≡ Ok (at₂ + length (spell_element k.second h.second), h.second)
    second-same h g b = x₂.same h.second g.second_good (begins-left (spell_element k.second h.second) (spell_number k.datum h.number ++ h.text) (rest₂ h g b))

    pub data-untyped-2 : {y : Refusal} → r₂ ≡ Err y → DataAt o k at None
    data-untyped-2 q = record { past = tt; same = λ h cs g d b b'. absurd (no-element (sym q ∙ second-same h g b)) }

    module _ {at₃ : ℕ} {f : ℤ} (q₂ : r₂ ≡ Ok (at₃, f)) {r₃ : Option (ℕ × ℤ)} (x₃ : NumberAt o k.datum at₃ r₃) where
      rest₃ : (h : Head) → Good k h → Begins o at (data_by k h) → Begins o at₃ (spell_number k.datum h.number ++ h.text)
      rest₃ h g b = moved (ok-first (sym q₂ ∙ second-same h g b)) (begins-right (spell_element k.second h.second) (spell_number k.datum h.number ++ h.text) (rest₂ h g b))

      number_same : (h : Head) → Good k h → Begins o at (data_by k h) → r₃ ≡ Some (at₃ + length (spell_number k.datum h.number), h.number)
      number_same h g b = x₃.same h.number g.number_good (begins-left (spell_number k.datum h.number) h.text (rest₃ h g b))

      pub data-unnumbered : r₃ ≡ None → DataAt o k at None
      data-unnumbered q = record { past = tt; same = λ h cs g d b b'. absurd (no_number (sym q ∙ number_same h g b)) }

      module _ {next : ℕ} {z : ℤ} (q₃ : r₃ ≡ Some (next, z)) where
        pub value_same : (h : Head) → Good k h → Begins o at (data_by k h) → z ≡ h.number
        value_same h g b = some-second (sym q₃ ∙ number_same h g b)

        pub types_same : (h : Head) → Good k h → Begins o at (data_by k h) → (e ≡ h.first) × (f ≡ h.second)
        types_same h g b = (ok-second (sym q₁ ∙ first-same h g b), ok-second (sym q₂ ∙ second-same h g b))

        pub contents-begin : (h : Head) → Good k h → Begins o at (data_by k h) → Begins o next h.text
        contents-begin h g b = moved (some-first (sym q₃ ∙ number_same h g b)) (begins-right (spell_number k.datum h.number) h.text (rest₃ h g b))

        pub fore-same : (h : Head) → Good k h → Begins o at (data_by k h) → fore_with e f z (cond (has_contents k.text) next 0) (next + length h.text) ≡ fore_of k h at
        fore-same h g b =
            let u₁ = spell_element k.first h.first in
            let u₂ = spell_element k.second h.second in
            let u₃ = spell_number k.datum h.number in
            let n₁ : at₂ ≡ at + length u₁ = ok-first (sym q₁ ∙ first-same h g b) in
            let n₂ : at₃ ≡ at₂ + length u₂ = ok-first (sym q₂ ∙ second-same h g b) in
            let n₃ : next ≡ at₃ + length u₃ = some-first (sym q₃ ∙ number_same h g b) in
            let whole : length (data_by k h) ≡ length u₁ + (length u₂ + (length u₃ + length h.text)) = simp length-append in
            let end_is : at + length (data_by k h) ≡ next + length h.text = omega arith in
            let place_is : at + length (data_by k h) - length h.text ≡ next = omega arith in
            rw (place_is, end_is, (types_same h g b).0, (types_same h g b).1, value_same h g b)

        -- without contents
        pub fore-bare : k.text ≡ none → (h : Head) → Good k h → Begins o at (data_by k h) → fore_with e f z 0 next ≡ fore_of k h at
        fore-bare n h g b =
            let empty : h.text ≡ [] = subst (λ (x : Text). Contents x h.number h.text) n g.text-good in
            let long : next + length h.text ≡ next = ap (λ (l : List ℕ). next + length l) empty ∙ add-zero next in
            sym (rw (n, long)) ∙ fore-same h g b

        pub fore-past : (at ≤ next) × (next ≤ length o)
        fore-past = let a = element-past x₁ q₁ in let b = element-past x₂ q₂ in let c = number_past x₃ q₃ in (omega arith, c.1)

-- ---- a number alone

module _ {o : List ℕ} {at : ℕ} (inside : at ≤ length o) (k : Kind) (e₁ : k.first ≡ false) (e₂ : k.second ≡ false) {x : Option (ℕ × ℤ)} (number : NumberAt o k.datum at x) where
  pub number-leaf : k.text ≡ none → k.holds ≡ nothing → DataAt o k at (leaf_of x)
  number-leaf e₃ e₄ = by x refl
    where
      by : (y : Option (ℕ × ℤ)) → x ≡ y → DataAt o k at (leaf_of y)
      by None q = data-unnumbered k (element-none e₁ inside) refl (element-none e₂ inside) refl number q
      by (Some (next, z)) q = let p = number_past number q in record {
        past = ((p.0, p.1, omega arith), refl, refl);
        same = λ h cs g d b b'. ap₂ (λ (f : Fore) (y : Holds). Some (data_with y f (nest_by k k.holds h cs))) (fore-bare k (element-none e₁ inside) refl (element-none e₂ inside) refl number q e₃ h g b) (sym e₄);
      }

-- ---- a string

text-long : (chars : Bool) (z : ℤ) (l : List ℕ) → Contents (text_of chars) z l → length l ≡ mag z
text-long true z l c = c.0
text-long false z l c = c

text-there : (chars : Bool) → has_contents (text_of chars) ≡ true
text-there true = refl
text-there false = refl

module _ {o : List ℕ} {at : ℕ} (inside : at ≤ length o) {x : Result (ℕ × ℕ) Refusal} (amounts : AmountAt o at x) where
  pub text-unnumbered : {y : Refusal} → x ≡ Err y → (chars : Bool) → DataAt o (string (text_of chars)) at None
  text-unnumbered q chars = data-unnumbered (string (text_of chars)) (element-none refl inside) refl (element-none refl inside) refl (amount-missing amounts q) refl

  module _ {next n : ℕ} (q : x ≡ Ok (next, n)) where
    contents-long : (chars : Bool) (h : Head) → Good (string (text_of chars)) h → Begins o at (data_by (string (text_of chars)) h) → length h.text ≡ n
    contents-long chars h g b = text-long chars h.number h.text g.text-good ∙ ap mag (sym (value_same (string (text_of chars)) (element-none refl inside) refl (element-none refl inside) refl (amount-found amounts q) refl h g b))

    pub text-cut : length o - next < n → (chars : Bool) → DataAt o (string (text_of chars)) at None
    text-cut l chars = record {
      past = tt;
      same = λ h cs g d b b'.
          let p = amount-past amounts q in
          let c = begins-long p.1 (contents-begin (string (text_of chars)) (element-none refl inside) refl (element-none refl inside) refl (amount-found amounts q) refl h g b) in
          absurd (omega (arith, contents-long chars h g b));
    }

    pub text-leaf : n ≤ length o - next → (chars : Bool) → DataAt o (string (text_of chars)) at (Some (Leaf (fore_with (pos 0) (pos 0) (to_z w64 n) next (next + n))))
    text-leaf l chars = let p = amount-past amounts q in rw (amount-held amounts q) record {
      past = ((omega arith, omega arith, p.1), refl, refl);
      same = λ h cs g d b b'.
          ap (λ (f : Fore). Some (Leaf f)) (sym (rw (text-there chars, contents-long chars h g b)) ∙ fore-same (string (text_of chars)) (element-none refl inside) refl (element-none refl inside) refl (amount-found amounts q) refl h g b);
    }
