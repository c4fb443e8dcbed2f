-- The data of values that hold others, in accepted octets.
use mathlib.Core.Path.{◌≡◌, refl, sym, ap, subst, ap₂, ◌∙◌}
use mathlib.Core.Bool.{Bool, false}
use mathlib.Core.List.{List, [], ◌∷◌, append-nil}
use Prim.Native.Nat.{ℕ, suc, ◌^◌, ◌<◌, ◌≤◌}
use native.Mathlib.Omega.{arith}
use native.Mathlib.Nat.{add-zero}
use lib.ListN.{length, length-append}
use lib.IntN.{ℤ, pos, negsuc}
use lib.Signed.{mag}
use mir.Syntax.{w64}
use mir.Val.{to_z}
use Rattle.std.specs.Prelude.{Some, None, Result, Ok, Err}
use Rattle.reading.specs.declared.Refusal.{Refusal}
use Rattle.reading.proofs.Does.{Does, d-bind, d-ret, d-as}
use Rattle.format.specs.Types.{implied, one, silent, gives, Kind, dated, container}
use Rattle.format.specs.Data.{spell_number}
use Rattle.format.specs.Values.{Head, Children, pieces}
use Rattle.format.specs.Spelling.{spell_children}
use Rattle.format.specs.Grammar.{Moment as Moments}
use Rattle.laws.proofs.Moments.{parts-of, moment-does, pieces-spelt, spell_ints}
use Rattle.scalar.specs.declared.Which.{Which}
use Rattle.scalar.specs.declared.Which.TheVariants.{Date}
use Rattle.scalar.specs.Answers.{moment_out, MomentPast, Passing}
use Rattle.scalar.specs.Moments.{count_of, parts_of}
use Rattle.decide.specs.declared.Shape.{Shape}
use Rattle.decide.specs.declared.Inside.{Inside}
use Rattle.decide.specs.declared.Inside.TheVariants.{Pairs, Sparse, User, List as Several}
use Rattle.decide.specs.Classes.{holds_of}
use Rattle.decide.specs.Elements.{AmountAt}
use Rattle.scalar.specs.declared.Bits.TheVariants.{Bits32}
use Rattle.decide.specs.declared.Form.TheVariants.{Named, Packed}
use Rattle.decide.specs.Forms.{nest_with, nest_in}
use Rattle.fill.specs.declared.Fore.{Fore}
use Rattle.decide.specs.declared.Nest.{Nest}
use Rattle.fill.specs.declared.Data.TheVariants.{Holder}
use Rattle.fill.specs.Numbers.{Begins, NumberAt}
use Rattle.fill.specs.Rows.{several, nest_by, fore_with, fore_of, data_with, CountedNest, DataAt}
use Rattle.fill.proofs.Begins.{unnamed, found, not-refused, moved}
use Rattle.fill.proofs.Numbers.{ElementaryAt, element-none, amount-past, amount-held, amount-found, amount-missing}
use Rattle.fill.proofs.Fores.{data-untyped, data-untyped-2, data-unnumbered, value_same, types_same, fore-bare, fore-past}

-- ---- dates and times

pub several-pieces : (i : ℕ) (l : List ℤ) → several (pieces i l) ≡ length l
unfolding several pieces
several-pieces i [] = refl
several-pieces i (z ∷ l) = ap suc (several-pieces (suc i) l)

count-does : (d : Which) {cs : Children} (m : Moments (parts_of d) cs) → Does (count_of (parts_of d)) unnamed (spell_ints (parts-of (parts_of d) m)) (length (parts-of (parts_of d) m)) unnamed
count-does d m = d-as (append-nil _) refl refl (d-bind _ (moment-does (parts_of d) m unnamed) (d-ret _))

spelt-parts : (d : Which) {cs : Children} (m : Moments (parts_of d) cs) → spell_children false cs ≡ spell_ints (parts-of (parts_of d) m)
spelt-parts d m = ap (spell_children false) m.are_pieces ∙ pieces-spelt 0 _

-- a date or time has no number of its own
nought : {o : List ℕ} {at : ℕ} → at ≤ length o → NumberAt o (implied (pos 0)) at (Some (at, pos 0))
unfolding spell_number
nought h = record { past = (omega arith, h); same = λ y g b. rw (add-zero, g) }

parted : {o : List ℕ} {at n : ℕ} → at ≤ length o → n < 2 ^ 32 → (d : Which) → ((cs : Children) → Moments (parts_of d) cs → Begins o at (spell_children false cs) → several cs ≡ n)
    → DataAt o (dated (parts_of d)) at (Some (Holder (fore_with (pos 0) (pos 0) (pos 0) 0 at) (nest_with false false (Packed Bits32 (negsuc 1)) (Packed Bits32 (negsuc 1)) n)))
parted {o} {at} {n} inside small d counts = record {
  past = ((omega arith, inside, omega arith), (small, refl));
  same = λ h cs g m b b'.
      let same : fore_with (pos 0) (pos 0) (pos 0) 0 at ≡ fore_of (dated (parts_of d)) h at = fore-bare (dated (parts_of d)) (element-none refl inside) refl (element-none refl inside) refl (nought inside) refl refl h g b in
      let count : several cs ≡ n = counts cs m (moved (ap (λ (f : Fore). f.end) same) b') in
      ap₂ (λ (f : Fore) (i : ℕ). Some (Holder f (nest_with false false (Packed Bits32 (negsuc 1)) (Packed Bits32 (negsuc 1)) i))) same (sym count);
}

module _ {o : List ℕ} {at : ℕ} (inside : at ≤ length o) {f : Fore} (e : f ≡ fore_with (pos 0) (pos 0) (pos 0) 0 at) where
  pub date-holder : {d : Which} → d ≡ Date → {n : Nest} → n ≡ nest_with false false (Packed Bits32 (negsuc 1)) (Packed Bits32 (negsuc 1)) 3 → DataAt o (dated (parts_of d)) at (Some (Holder f n))
  date-holder q r = rw (e, q, r) (parted inside (omega arith) Date λ cs m b. ap several m.are_pieces ∙ several-pieces 0 _ ∙ length-append m.usual_parts m.offset_parts ∙ rw (m.usual_count, m.offset_count))

  pub moment-holder : (d : Which) {x : Result (ℕ × ℕ) Refusal} → Passing o at 10 (count_of (parts_of d)) x → {next k : ℕ} → x ≡ Ok (next, k) → {n : Nest} → n ≡ nest_with false false (Packed Bits32 (negsuc 1)) (Packed Bits32 (negsuc 1)) k → DataAt o (dated (parts_of d)) at (Some (Holder f n))
  moment-holder d passing {next} {k} s r =
      let p = subst (MomentPast o at 10) s passing.past in
      rw (e, r) (parted inside (omega arith) d λ cs m b.
      let v = found (count-does d m) (subst (Begins o at) (spelt-parts d m) b) (ap (moment_out o unnamed) (sym s) ∙ passing.same unnamed) in
      ap several m.are_pieces ∙ several-pieces 0 _ ∙ sym v.0)

pub moment-unread : {o : List ℕ} {at : ℕ} → at ≤ length o → (d : Which) {x : Result (ℕ × ℕ) Refusal} → Passing o at 10 (count_of (parts_of d)) x → {y : Refusal} → x ≡ Err y → DataAt o (dated (parts_of d)) at None
moment-unread {o} {at} inside d passing s = record {
  past = tt;
  same = λ h cs g m b b'.
      let same : fore_with (pos 0) (pos 0) (pos 0) 0 at ≡ fore_of (dated (parts_of d)) h at = fore-bare (dated (parts_of d)) (element-none refl inside) refl (element-none refl inside) refl (nought inside) refl refl h g b in
      absurd (not-refused (count-does d m) (subst (Begins o at) (spelt-parts d m) (moved (ap (λ (f : Fore). f.end) same) b')) (ap (moment_out o unnamed) (sym s) ∙ passing.same unnamed));
}

-- ---- identities

module _ {o : List ℕ} {at : ℕ} (inside : at ≤ length o) {x : Result (ℕ × ℕ) Refusal} (amounts : AmountAt o at x) where
  pub identity-unnumbered : {y : Refusal} → x ≡ Err y → DataAt o (container false false one gives) at None
  identity-unnumbered q = data-unnumbered (container false false one gives) (element-none refl inside) refl (element-none refl inside) refl (amount-missing amounts q) refl

  pub identity-holder : {next n : ℕ} → x ≡ Ok (next, n) → {f : Fore} → f ≡ fore_with (pos 0) (pos 0) (to_z w64 n) 0 next → {m : Nest} → m ≡ nest_with false false Named Named 1 → DataAt o (container false false one gives) at (Some (Holder f m))
  identity-holder q e r =
      let p = fore-past (container false false one gives) (element-none refl inside) refl (element-none refl inside) refl (amount-found amounts q) refl in
      rw (e, r, amount-held amounts q) record {
        past = ((p.0, p.1, omega arith), omega arith);
        same = λ h cs g d b b'. ap (λ (f : Fore). Some (Holder f (nest_with false false Named Named 1))) (fore-bare (container false false one gives) (element-none refl inside) refl (element-none refl inside) refl (amount-found amounts q) refl refl h g b);
      }

-- ---- containers

shape-data : (x : Inside) (a b : Bool) (h : Head) (cs : Children) (f : Fore) → Holder f (nest_in x a b h.first h.second (mag h.number)) ≡ data_with (holds_of x) f (nest_by (container a b (holds_of x) silent) (holds_of x) h cs)
shape-data Several a b h cs f = refl
shape-data Pairs a b h cs f = refl
shape-data Sparse a b h cs f = refl
shape-data User a b h cs f = refl

module _ {o : List ℕ} {at : ℕ} (s : Shape) {r₁ : Result (ℕ × ℤ) Refusal} (x₁ : ElementaryAt o s.first at r₁) where
  abbrev kind : Kind
  kind = container s.first s.second (holds_of s.inside) silent

  pub holder-untyped : {y : Refusal} → r₁ ≡ Err y → DataAt o kind at None
  holder-untyped = data-untyped kind x₁

  module _ {at₂ : ℕ} {a : ℤ} (q₁ : r₁ ≡ Ok (at₂, a)) {r₂ : Result (ℕ × ℤ) Refusal} (x₂ : ElementaryAt o s.second at₂ r₂) where
    pub holder-untyped-2 : {y : Refusal} → r₂ ≡ Err y → DataAt o kind at None
    holder-untyped-2 = data-untyped-2 kind x₁ q₁ x₂

    module _ {at₃ : ℕ} {b : ℤ} (q₂ : r₂ ≡ Ok (at₃, b)) {x : Result (ℕ × ℕ) Refusal} (amounts : AmountAt o at₃ x) where
      pub holder-unnumbered : {y : Refusal} → x ≡ Err y → DataAt o kind at None
      holder-unnumbered q = data-unnumbered kind x₁ q₁ x₂ q₂ (amount-missing amounts q) refl

      pub holder-read : {next n : ℕ} → x ≡ Ok (next, n) → {a' b' : ℤ} → a' ≡ a → b' ≡ b → {m : Nest} → m ≡ nest_in s.inside s.first s.second a' b' n → DataAt o kind at (Some (Holder (fore_with a' b' (to_z w64 n) 0 next) m))
      holder-read {next} {n} q e e' r =
          let p = fore-past kind x₁ q₁ x₂ q₂ (amount-found amounts q) refl in
          rw (r, e, e', amount-held amounts q) record {
            past = ((p.0, p.1, omega arith), small s.inside (amount-past amounts q).2);
            same = λ h cs g d u u'.
                let t = types_same kind x₁ q₁ x₂ q₂ (amount-found amounts q) refl h g u in
                let z : n ≡ mag h.number = ap mag (value_same kind x₁ q₁ x₂ q₂ (amount-found amounts q) refl h g u) in
                ap (λ (f : Fore). Some (Holder f (nest_in s.inside s.first s.second a b n))) (fore-bare kind x₁ q₁ x₂ q₂ (amount-found amounts q) refl refl h g u)
                ∙ ap Some (rw (t.0, t.1, z) (shape-data s.inside s.first s.second h cs (fore_of kind h at)));
          }
        where
          small : (i : Inside) → n < 2 ^ 31 → CountedNest (nest_in i s.first s.second a b n)
          small Several l = (omega arith, refl)
          small Pairs l = (omega arith, refl)
          small Sparse l = (omega arith, refl)
          small User l = (omega arith, refl)
