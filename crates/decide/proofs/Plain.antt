-- Types whose number is an integer of a width, or so many octets: they are scalars, and the form of their bare values says so.
use mathlib.Core.Path.{◌≡◌, refl, subst, ◌∙◌}
use mathlib.Core.Bool.{Bool, true, false, cond}
use mathlib.Core.List.{List, [], ◌∷◌}
use Prim.Native.Nat.{ℕ, zero, suc, ◌<◌}
use lib.ListN.{get_or, drop}
use lib.Dec.{ltb, lit<}
use lib.IntN.{ℤ, pos, negsuc, ◌-ℤ◌}
use mir.Syntax.{w32}
use mir.Val.{SFits, to_z, of_z}
use Rattle.integer.proofs.Signs.{held}
use Rattle.format.specs.Types.{Datum, packed, fixed, code, amount, implied, Sort, integral, Kind, scalar, uncarried, table, kind_of}
use Rattle.scalar.specs.declared.Bits.{Bits}
use Rattle.scalar.specs.declared.Bits.TheVariants.{Bits16, Bits32, Bits64}
use Rattle.scalar.specs.Answers.{width_of}
use Rattle.decide.specs.declared.Class.{Class}
use Rattle.decide.specs.declared.Class.TheVariants.{Refused, Small, Int, Fixed, Char, Holder, Identity, Reference, Text as Texted, Parts as Parted}
use Rattle.decide.specs.declared.Form.{Form}
use Rattle.decide.specs.declared.Form.TheVariants.{Bare, Sized, Packed}
use Rattle.decide.specs.Classes.{Is, ClassOf}
use Rattle.decide.specs.Forms.{says, known, Sound, bits_of, form_by, bare_form}

-- ---- every kind

abbrev PlainBy : Kind → Datum → Type 0
PlainBy k (packed w) = (s : Sort) × (k ≡ scalar (packed (width_of (bits_of w))) s)
PlainBy k (fixed n) = (s : Sort) × (k ≡ scalar (fixed n) s) × (0 < n) × (n < 256)
PlainBy k code = Unit {0}
PlainBy k amount = Unit {0}
PlainBy k (implied z) = Unit {0}

abbrev Plain : Kind → Type 0
Plain k = PlainBy k k.datum

abbrev All : List Kind → Type 0
All [] = Unit {0}
All (k ∷ ks) = Plain k × All ks

plain_in : (ks : List Kind) → All ks → (n : ℕ) → Plain (get_or ks n uncarried)
plain_in [] p n = tt
plain_in (k ∷ ks) p zero = p.0
plain_in (k ∷ ks) p (suc n) = plain_in ks p.1 n

-- -13 to -40, then -1 to -12
other-plain : All (drop 12 table)
other-plain = (tt, (tt, (tt, (tt, (tt, (tt, (tt, (tt, (tt, (tt, (tt, (tt, (tt, (tt, (tt, (tt, (tt, (tt, (tt, (tt, (tt, (tt, (tt, (tt, (tt, (tt, (tt, (tt, tt))))))))))))))))))))))))))))

all_plain : All table
all_plain = ((_, refl), ((_, refl), ((_, refl), (tt, ((_, refl, lit< tt, lit< tt), ((_, refl, lit< tt, lit< tt), (tt, (tt, (tt, (tt, ((_, refl), ((_, refl, lit< tt, lit< tt), other-plain))))))))))))

plain : (t : ℤ) → Plain (kind_of t)
unfolding kind_of
plain (pos n) = tt
plain (negsuc n) = by (ltb n 40) (ltb n 64)
  where
    by : (a b : Bool) → Plain (cond a (get_or table n uncarried) (cond b (scalar (implied (negsuc 41 -ℤ negsuc n)) integral) uncarried))
    by true b = plain_in table all_plain n
    by false true = tt
    by false false = tt

-- ---- the form of bare values of a type

few-octets : (t : ℤ) {n : ℕ} → Is (Fixed n) t → n < 256
few-octets t i = (subst Plain i.1 (plain t)).3

pub bare-sound : (t : ℤ) → Sound (bare_form t)
unfolding bare_form
bare-sound t = by (kind_of t).carried (kind_of t).datum (plain t)
  where
    by : (c : Bool) (d : Datum) → PlainBy (kind_of t) d → Sound (cond c (form_by d t) (Bare t))
    by true (packed w) p = p
    by true (fixed n) p = ((p.0, p.1), p.2)
    by true code p = tt
    by true amount p = tt
    by true (implied z) p = tt
    by false d p = tt

pub bare-says : (t : ℤ) → says (bare_form t) ≡ known t
unfolding bare_form
bare-says t = by (kind_of t).carried (kind_of t).datum
  where
    by : (c : Bool) (d : Datum) → says (cond c (form_by d t) (Bare t)) ≡ known t
    by true (packed w) = refl
    by true (fixed n) = refl
    by true code = refl
    by true amount = refl
    by true (implied z) = refl
    by false d = refl

bits_back : (b : Bits) → bits_of (width_of b) ≡ b
bits_back Bits16 = refl
bits_back Bits32 = refl
bits_back Bits64 = refl

-- by the class of the type
abbrev pub form_for : Class → ℤ → Form
form_for Refused t = Bare t
form_for Small t = Bare t
form_for (Int b) t = Packed b t
form_for (Fixed n) t = Sized n t
form_for Char t = Bare t
form_for (Parted d) t = Bare t
form_for (Texted chars) t = Bare t
form_for (Holder h) t = Bare t
form_for Identity t = Bare t
form_for Reference t = Bare t

form-for : (c : Class) (t : ℤ) → Is c t → form_for c t ≡ bare_form t
unfolding bare_form
form-for Refused t i = rw i
form-for Small t i = rw i.2
form-for (Int b) t i = rw (i.1, bits_back b)
form-for (Fixed n) t i = rw i.1
form-for Char t i = rw i.1
form-for (Parted d) t i = rw i
form-for (Texted chars) t i = rw i
form-for (Holder h) t i = rw i
form-for Identity t i = rw i
form-for Reference t i = rw i

-- as the code has the type
module _ {t : ℤ} (f : SFits w32 t) {c : Class} (k : ClassOf (to_z w32 (of_z w32 t)) c) where
  is-class : {d : Class} → c ≡ d → Is d t
  is-class {d} e = subst (Is d) (held f) (subst (λ (x : Class). Is x (to_z w32 (of_z w32 t))) e k.is)

  pub cast_fits : {n : ℕ} → c ≡ Fixed n → n < 256
  cast_fits {n} e = few-octets t (is-class {d = Fixed n} e)

  pub form-by : {d : Class} → c ≡ d → form_for d (to_z w32 (of_z w32 t)) ≡ bare_form t
  form-by {d} e = rw (held f) (form-for d t (is-class {d = d} e))

  -- any other class
  pub form-else : ((b : Bits) → c ≡ Int b → ⊥) → ((n : ℕ) → c ≡ Fixed n → ⊥) → Bare (to_z w32 (of_z w32 t)) ≡ bare_form t
  form-else int fixd = rest c int fixd ∙ form-by refl
    where
      rest : (c : Class) → ((b : Bits) → c ≡ Int b → ⊥) → ((n : ℕ) → c ≡ Fixed n → ⊥) → Bare (to_z w32 (of_z w32 t)) ≡ form_for c (to_z w32 (of_z w32 t))
      rest Refused int fixd = refl
      rest Small int fixd = refl
      rest (Int b) int fixd = absurd (int b refl)
      rest (Fixed n) int fixd = absurd (fixd n refl)
      rest Char int fixd = refl
      rest (Parted d) int fixd = refl
      rest (Texted chars) int fixd = refl
      rest (Holder s) int fixd = refl
      rest Identity int fixd = refl
      rest Reference int fixd = refl
