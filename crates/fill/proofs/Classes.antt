-- The data of a value by the class of its type.
use mathlib.Core.Path.{◌≡◌, refl, sym, ap, subst, ◌∙◌}
use mathlib.Core.Bool.{Bool, false}
use mathlib.Core.List.{List}
use Prim.Native.Nat.{ℕ, ◌^◌, ◌<◌, ◌≤◌}
use native.Mathlib.Omega.{arith}
use native.Mathlib.Nat.{add-zero}
use lib.ListN.{length}
use lib.IntN.{ℤ, pos}
use lib.Signed.{mag}
use mir.Syntax.{w32, w64}
use mir.Val.{SFits, to_z, of_z}
use Rattle.std.specs.Prelude.{Option, Some, None}
use Rattle.integer.proofs.Signs.{held}
use Rattle.format.specs.Types.{Datum, packed, fixed, code, amount, implied, nothing, one, silent, gives, refers, Sort, other, Kind, scalar, string, dated, container, kind_of}
use Rattle.format.specs.Data.{spell_number}
use Rattle.laws.proofs.Tests.{clash}
use Rattle.scalar.specs.declared.Bits.{Bits}
use Rattle.scalar.specs.declared.Which.{Which}
use Rattle.scalar.specs.Answers.{Size, width_of}
use Rattle.scalar.specs.Moments.{parts_of}
use Rattle.decide.specs.declared.Shape.{Shape}
use Rattle.decide.specs.declared.Class.{Class}
use Rattle.decide.specs.declared.Class.TheVariants.{Refused, Small, Int, Fixed, Char, Holder, Identity, Reference, Text as Texted, Parts as Parted}
use Rattle.decide.specs.Classes.{holds_of, text_of, Is}
use Rattle.decide.specs.declared.Form.{Form}
use Rattle.decide.specs.Forms.{says, Sound, OfType, ClassIn}
use Rattle.fill.specs.declared.Fore.{Fore}
use Rattle.fill.specs.declared.Data.{Data}
use Rattle.fill.specs.declared.Data.TheVariants.{Leaf}
use Rattle.fill.specs.Numbers.{NumberAt, Implied}
use Rattle.fill.specs.Rows.{fore_with, leaf_of, DataAt, DataOf}
use Rattle.fill.proofs.Numbers.{fixed-size}
use Rattle.fill.proofs.Fores.{number-leaf}

data_of : {o : List ℕ} {form : Form} (t : ℤ) {at : ℕ} {r : Option Data} {k : Kind} → (Sound form → OfType (says form) t → kind_of t ≡ k) → DataAt o k at r → DataOf o form t at r
data_of {o} t {at} {r} e d = record { past = d.past; same = λ s u _. subst (λ (x : Kind). DataAt o x at r) (sym (e s u)) d }

implied-at : {o : List ℕ} {at : ℕ} {y z : ℤ} → at ≤ length o → y ≡ z → NumberAt o (implied z) at (Some (at, y))
unfolding spell_number
implied-at h e = record { past = (omega arith, h); same = λ x g b. rw (add-zero, g, e) }

module _ {form : Form} {t : ℤ} (fits : SFits w32 t) {c : Class} (class : ClassIn form (to_z w32 (of_z w32 t)) c) where
  is-class : (c' : Class) → c ≡ c' → Sound form → OfType (says form) t → Is c' t
  is-class c' q s u = subst (Is c') (held fits) (subst (λ (x : Class). Is x (to_z w32 (of_z w32 t))) q (class.is s (subst (OfType (says form)) (sym (held fits)) u)))

  pub size_of : {n : ℕ} → c ≡ Fixed n → Size n
  size_of {n} q = fixed-size (to_z w32 (of_z w32 t)) (class.sized n q).1

module _ {o : List ℕ} {at : ℕ} (inside : at ≤ length o) {form : Form} {t : ℤ} where
  scalar-data : {d : Datum} {x : Option (ℕ × ℤ)} {r : Option Data} → (Sound form → OfType (says form) t → (s : Sort) × (kind_of t ≡ scalar d s)) → NumberAt o d at x → r ≡ leaf_of x → DataOf o form t at r
  scalar-data {d} {x} e n q = rw q record {
    past = (leaf other).past;
    same = λ s u _. subst (λ (k : Kind). DataAt o k at (leaf_of x)) (sym (e s u).1) (leaf (e s u).0);
  }
    where
      leaf : (s : Sort) → DataAt o (scalar d s) at (leaf_of x)
      leaf s = number-leaf inside (scalar d s) refl refl n refl refl

module _ {o : List ℕ} {at : ℕ} (inside : at ≤ length o) {form : Form} {t : ℤ} (fits : SFits w32 t) {c : Class} (class : ClassIn form (to_z w32 (of_z w32 t)) c) where
  pub refused-data : c ≡ Refused → DataOf o form t at None
  refused-data q = record { past = tt; same = λ s u k. clash (sym k ∙ is-class fits class Refused q s u) }

  pub small-data : {z : ℤ} {f : Fore} → c ≡ Small → Implied (to_z w32 (of_z w32 t)) z → mag z < 2 ^ 63 → f ≡ fore_with (pos 0) (pos 0) (to_z w64 (of_z w64 z)) 0 at → DataOf o form t at (Some (Leaf f))
  small-data {z} q i m e = rw (e, held {w = w64} {z = z} (record { sfits = m })) (scalar-data inside {d = implied z} kind (implied-at inside refl) refl)
    where
      kind : Sound form → OfType (says form) t → (s : Sort) × (kind_of t ≡ scalar (implied z) s)
      kind s u =
          let a = is-class fits class Small q s u in
          let v : z ≡ a.0 = (subst (λ (y : ℤ). Implied y z) (held fits) i).same a.0 a.1 a.2 in
          (a.1, a.2 ∙ ap (λ (y : ℤ). scalar (implied y) a.1) (sym v))

  pub int-data : {w : Bits} {x : Option (ℕ × ℤ)} {r : Option Data} → c ≡ Int w → ((b : Bits) → NumberAt o (packed (width_of b)) at x) → r ≡ leaf_of x → DataOf o form t at r
  int-data {w} q n e = scalar-data inside (is-class fits class (Int w) q) (n w) e

  pub fixed-data : {n : ℕ} {x : Option (ℕ × ℤ)} {r : Option Data} → c ≡ Fixed n → NumberAt o (fixed n) at x → r ≡ leaf_of x → DataOf o form t at r
  fixed-data {n} q = scalar-data inside (is-class fits class (Fixed n) q)

  pub char-data : {x : Option (ℕ × ℤ)} {r : Option Data} → c ≡ Char → NumberAt o code at x → r ≡ leaf_of x → DataOf o form t at r
  char-data q = scalar-data inside (is-class fits class Char q)

  pub moment-data : {d : Which} {r : Option Data} → c ≡ Parted d → DataAt o (dated (parts_of d)) at r → DataOf o form t at r
  moment-data {d} q = data_of t (is-class fits class (Parted d) q)

  pub text-data : {b : Bool} {r : Option Data} → c ≡ Texted b → ((chars : Bool) → DataAt o (string (text_of chars)) at r) → DataOf o form t at r
  text-data {b} q d = data_of t (is-class fits class (Texted b) q) (d b)

  pub holder-data : {s : Shape} {r : Option Data} → c ≡ Holder s → DataAt o (container s.first s.second (holds_of s.inside) silent) at r → DataOf o form t at r
  holder-data {s} q = data_of t (is-class fits class (Holder s) q)

  pub identity-data : {r : Option Data} → c ≡ Identity → DataAt o (container false false one gives) at r → DataOf o form t at r
  identity-data q = data_of t (is-class fits class Identity q)

  pub reference-data : {x : Option (ℕ × ℤ)} {r : Option Data} → c ≡ Reference → NumberAt o amount at x → r ≡ leaf_of x → DataOf o form t at r
  reference-data q n e = rw e (data_of t (is-class fits class Reference q) (number-leaf inside (container false false nothing refers) refl refl n refl refl))
