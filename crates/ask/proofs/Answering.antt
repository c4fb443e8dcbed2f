-- A row judged first: what it answers.
use mathlib.Core.Path.{◌≡◌, refl}
use mathlib.Core.Bool.{Bool, true, false, cond, not}
use Prim.Native.Nat.{zero, suc, ◌-◌, ◌^◌}
use native.Mathlib.Omega.{arith}
use lib.Dec.{eqb}
use lib.IntN.{ℤ, pos, negsuc}
use mir.Syntax.{w64}
use mir.Val.{SFits, to_z, of_z, bool_byte}
use borrow.Author.Tests.{ne_eqb, lt-leb}
use Rattle.std.specs.Prelude.{Option, Some, None, Result, Ok, Err}
use Rattle.std.specs.Option.{ok_or}
use Rattle.reading.specs.declared.Refusal.{Refusal}
use Rattle.reading.specs.Reading.{refusal}
use Rattle.format.specs.declared.Row.{Row}
use Rattle.format.specs.declared.As.{As}
use Rattle.format.specs.declared.As.TheVariants.{Int16, Int32, Int64, Octet, Char, Boolean}
use Rattle.format.specs.Types as types
use Rattle.format.specs.Types.{Kind, kind_of}
use Rattle.format.specs.Message.{Answer, refused, unless}
use Rattle.format.specs.Asking.{possible, sort_as, ask, asked, only, cannot, truth}
use Rattle.ask.specs.declared.tables.Sort as sorts
use Rattle.ask.specs.declared.tables.Sort.TheVariants as is
use Rattle.ask.specs.Sorts.{sorted, judged, narrowed_as}

-- ---- what a judged row answers

abbrev pub answer_of : Option sorts.Sort → As → ℤ → Answer ℤ
answer_of None a z = refused (refusal 14 0)
answer_of (Some is.Integer) a z = sort_as types.integral a z
answer_of (Some is.Octet) a z = sort_as types.octet a z
answer_of (Some is.Char) a z = sort_as types.char a z
answer_of (Some is.Boolean) a z = sort_as types.boolean a z
answer_of (Some is.Null) a z = sort_as types.null a z
answer_of (Some is.Other) a z = sort_as types.other a z

sorted-as : (s : types.Sort) (a : As) (z : ℤ) → answer_of (Some (sorted s)) a z ≡ sort_as s a z
sorted-as types.integral a z = refl
sorted-as types.octet a z = refl
sorted-as types.char a z = refl
sorted-as types.boolean a z = refl
sorted-as types.null a z = refl
sorted-as types.other a z = refl

asks : (a : As) (r : Row) → answer_of (judged (kind_of r.ty) r.number) a r.number ≡ ask a r
unfolding ask
asks a r = by (kind_of r.ty) (kind_of r.ty).carried (possible (kind_of r.ty).datum r.number)
  where
    by : (k : Kind) (c p : Bool) → answer_of (cond c (cond p (Some (sorted k.sort)) None) None) a r.number ≡ unless c 14 (unless p 14 (sort_as k.sort a r.number))
    by k true true = sorted-as k.sort a r.number
    by k true false = refl
    by k false p = refl

-- what `ok_or` was given
ok_of : Result sorts.Sort Refusal → Option sorts.Sort
ok_of (Ok s) = Some s
ok_of (Err e) = None

ok_of-or : (o : Option sorts.Sort) → ok_of (ok_or o (refusal 14 0)) ≡ o
unfolding ok_of
ok_of-or (Some s) = refl
ok_of-or None = refl

-- the row's type and number, and what `judge` and `ok_or` answer, as the code holds them
module _ (r : Row) (a : As) {o : Option sorts.Sort} {q : Result sorts.Sort Refusal} {t z : ℤ} (judge : o ≡ judged (kind_of t) z) (got : q ≡ ok_or o (refusal 14 0)) (ty : t ≡ r.ty) (number : z ≡ r.number) where
  judged-so : answer_of (ok_of q) a r.number ≡ ask a r
  judged-so = rw (got, ok_of-or o, judge, ty, number) (asks a r)

  pub impossible : {d : Refusal} → q ≡ Err d → refused (refusal 14 0) ≡ ask a r
  unfolding ok_of
  impossible f = rw f at judged-so

  pub told : {s : sorts.Sort} → q ≡ Ok s → answer_of (Some s) a r.number ≡ ask a r
  unfolding ok_of
  told f = rw f at judged-so

-- ---- a type of its own, asked for as another

pub not-octet : (a : As) (z : ℤ) → (a ≡ Octet → ⊥) → cannot ≡ only (asked Octet) a z
not-octet Int16 z h = refl
not-octet Int32 z h = refl
not-octet Int64 z h = refl
not-octet Octet z h = absurd (h refl)
not-octet Char z h = refl
not-octet Boolean z h = refl

pub not-char : (a : As) (z : ℤ) → (a ≡ Char → ⊥) → cannot ≡ only (asked Char) a z
not-char Int16 z h = refl
not-char Int32 z h = refl
not-char Int64 z h = refl
not-char Octet z h = refl
not-char Char z h = absurd (h refl)
not-char Boolean z h = refl

pub not-boolean : (a : As) (z : ℤ) → (a ≡ Boolean → ⊥) → cannot ≡ only (asked Boolean) a z
not-boolean Int16 z h = refl
not-boolean Int32 z h = refl
not-boolean Int64 z h = refl
not-boolean Octet z h = refl
not-boolean Char z h = refl
not-boolean Boolean z h = absurd (h refl)

-- and a row of another sort than those with a type of their own
pub narrowed-rest : (s : sorts.Sort) (a : As) (z : ℤ) → (s ≡ is.Octet → ⊥) → (s ≡ is.Char → ⊥) → (s ≡ is.Boolean → ⊥) → (s ≡ is.Null → ⊥) → narrowed_as s a z ≡ answer_of (Some s) a z
narrowed-rest is.Integer a z o c b n = refl
narrowed-rest is.Octet a z o c b n = absurd (o refl)
narrowed-rest is.Char a z o c b n = absurd (c refl)
narrowed-rest is.Boolean a z o c b n = absurd (b refl)
narrowed-rest is.Null a z o c b n = absurd (n refl)
narrowed-rest is.Other a z o c b n = refl

-- ---- 0, or 1 for all else

pub one : (z : ℤ) → SFits w64 z → to_z w64 (bool_byte (not (eqb (of_z w64 z) 0))) ≡ truth z
one (pos zero) f = refl
one (pos (suc n)) f = rw (ne_eqb (suc n) 0 (λ e. omega (arith, e)), lt-leb (suc n) 0 (omega arith)) refl
one (negsuc n) f = let l = f.sfits in rw (ne_eqb (2 ^ 64 - suc n) 0 (λ e. omega (arith, e))) refl
