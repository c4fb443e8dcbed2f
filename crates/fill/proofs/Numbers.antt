-- The types and numbers that the code finds in accepted octets.
use mathlib.Core.Path.{◌≡◌, refl, sym, ap, subst, ◌∙◌}
use mathlib.Core.Bool.{Bool, true, false, cond, ◌||◌}
use mathlib.Core.List.{List, [], ◌∷◌}
use Prim.Native.Nat.{ℕ, zero, suc, ◌+◌, ◌-◌, ◌^◌, ◌<◌, ◌≤◌}
use native.Mathlib.Omega.{arith}
use native.Mathlib.Nat.{add-zero}
use lib.ListN.{length, get_or, take, drop, length-append, length-drop}
use lib.Seq.{take_at, get_or-take, get_or-drop}
use lib.Dec.{ltb, eqb}
use lib.IntN.{ℤ, pos, negsuc, ◌-ℤ◌}
use lib.Signed.{mag, lt_z}
use mathlib.Core.Logic.{inl, inr}
use borrow.Author.Tests.{le-leb, lt-ltb, le-ltb, ltb-true, ltb-false, eqb-true}
use mir.Syntax.{w32, w64}
use mir.Val.{SFits, to_z, of_z}
use mir.ValLaws.{to_z_pos}
use Rattle.std.specs.Result.{result_ok}
use Rattle.std.specs.Prelude.{Some, None, Result, Ok, Err, Option}
use Rattle.reading.specs.declared.Refusal.{Refusal}
use Rattle.reading.specs.Reading.{Out, got, stand, follow, ◌>>=◌, return}
use Rattle.reading.proofs.Sound.{never}
use Rattle.reading.proofs.Does.{Does}
use Rattle.integer.specs.Packed.{wide32, wide64, spell_int}
use Rattle.integer.specs.Answers.{out, Past, Knows64}
use Rattle.integer.proofs.Laws.{integer-does, enough32, enough64}
use Rattle.integer.proofs.Signs.{held}
use Rattle.format.specs.Types.{Datum, packed, fixed, code, amount, implied, Sort, integral, Kind, scalar, uncarried, table, kind_of}
use Rattle.format.specs.Values.{Head}
use Rattle.format.specs.Spelling.{identifier}
use Rattle.format.specs.Grammar.{Int32, Element as Elements}
use Rattle.format.specs.Data.{eq_z, bits, big, unsigned, number, spell_number, spell_element, character, spell_char}
use Rattle.laws.proofs.Sound.{owned, unowned}
use Rattle.reading.proofs.Tests.{and_left, and_right}
use Rattle.laws.proofs.Tests.{clash, eq_z-true}
use Rattle.laws.proofs.Types.{All, kind-all}
use Rattle.laws.proofs.Leaves.{number-does, element-does, big_spelt-long}
use Rattle.laws.proofs.Characters.{run-does, character-does}
use Rattle.scalar.specs.declared.Bits.{Bits}
use Rattle.scalar.specs.declared.Bits.TheVariants.{Bits16, Bits32, Bits64}
use Rattle.scalar.specs.Answers.{width_of, big_at, Size, code_out, CodePast, Codes}
use Rattle.decide.specs.Elements.{amount_out, PastAmount, AmountAt, TypeIs, TypeAt}
use Rattle.decide.specs.declared.Form.{Form}
use Rattle.decide.specs.Forms.{Says, unknown, known, says, own_by, own_of, IdentifierIs, TypedBy, TypedAt, OfType}
use Rattle.fill.specs.Numbers.{Begins, StandsBy, Stands, NumberAt, Implied}
use Rattle.fill.proofs.Begins.{unnamed, same_place, same-value, read_is, found, not-refused}

-- ---- types

-- the type of a value that stands in a form
pub typed-is : {o : List ℕ} {form : Form} {at : ℕ} {x : Result (ℕ × ℤ) Refusal} → TypedAt o form at x → (h : Head) → Stands form h → Begins o at (identifier h) → x ≡ Ok (at + length (identifier h), h.ty)
typed-is {o} {form} {at} {x} typed h s b = by (says form) x typed.is s.0
  where
    whole : (y : Result (ℕ × ℤ) Refusal) → IdentifierIs o at y → h.own ≡ 1 → Int32 h.ty → y ≡ Ok (at + length (identifier h), h.ty)
    whole (Ok (from, t)) i a f =
        let w = found (integer-does wide32 enough32 h.ty unnamed f) (subst (Begins o at) (owned h a) b) (sym (i.2 unnamed)) in
        rw (owned h a, ← w.1, ← w.0)
    whole (Err r) i a f = absurd (not-refused (integer-does wide32 enough32 h.ty unnamed f) (subst (Begins o at) (owned h a) b) (sym (i unnamed)))

    by : (k : Says) (y : Result (ℕ × ℤ) Refusal) → TypedBy o k at y → StandsBy k h → y ≡ Ok (at + length (identifier h), h.ty)
    by unknown y i s = whole y i s.0 s.1
    by (known t) (Ok (from, u)) i s = rw (unowned h s.0, add-zero, s.1, i.0, i.1)
    by (known t) (Err r) i s = absurd i

pub own_is : (form : Form) (h : Head) → Stands form h → own_of form ≡ h.own
own_is form h s = by (says form) s.0
  where
    by : (k : Says) → StandsBy k h → own_by k ≡ h.own
    by unknown s = sym s.0
    by (known t) s = sym s.0

-- the type of a value that stands in a form is one that the form may have
pub of-type : (form : Form) (h : Head) → Stands form h → OfType (says form) h.ty
of-type form h s = by (says form) s.0
  where
    by : (k : Says) → StandsBy k h → OfType k h.ty
    by unknown s = tt
    by (known t) s = sym s.1

-- ---- element types, where one stands

abbrev pub PastElement : List ℕ → ℕ → Result (ℕ × ℤ) Refusal → Type 0
PastElement o at (Ok (next, t)) = (at ≤ next) × (next ≤ length o)
PastElement o at (Err r) = Unit {0}

pub record ElementaryAt (o : List ℕ) (on : Bool) (at : ℕ) (r : Result (ℕ × ℤ) Refusal) : Type 0 where
  pub past : PastElement o at r
  pub same : (t : ℤ) → Elements on t → Begins o at (spell_element on t) → r ≡ Ok (at + length (spell_element on t), t)

pub elementary-at : {o : List ℕ} {on : Bool} {at : ℕ} {x : Result (ℕ × ℤ) Refusal} → TypeAt o on at x → ElementaryAt o on at x
elementary-at {o} {on} {at} {x} type_at = by x type_at.is
  where
    by : (y : Result (ℕ × ℤ) Refusal) → TypeIs o on at y → ElementaryAt o on at y
    by (Ok (next, t)) p = record {
      past = (p.1, p.2);
      same = λ y g b. let w = found (element-does on y unnamed g) b (sym (p.3 unnamed)) in rw (← w.1, ← w.0);
    }
    by (Err r) p = record {
      past = tt;
      same = λ y g b. absurd (not-refused (element-does on y unnamed g) b (sym (p unnamed)));
    }

pub element-none : {o : List ℕ} {on : Bool} {at : ℕ} → on ≡ false → at ≤ length o → ElementaryAt o on at (Ok (at, pos 0))
unfolding spell_element
element-none off h = rw off record { past = (omega arith, h); same = λ y g b. rw (add-zero, g) }

-- ---- numbers

narrow : (w : Bits) (z : ℤ) → mag z < (width_of w).bound → mag z < 2 ^ 63
narrow Bits16 z h = omega arith
narrow Bits32 z h = omega arith
narrow Bits64 z h = h

module _ {o : List ℕ} {at : ℕ} {x : Result (ℕ × ℤ) Refusal} (known : Knows64 o at x) where
  -- what is found, where the octets begin with an integer
  int_is : (w : Bits) (y : ℤ) → mag y < (width_of w).bound → (b : Begins o at (spell_int y)) → out (λ z. z) o unnamed x ≡ got y (record { at = at + length (spell_int y); left = b.after; env = unnamed })
  int_is w y g b = known.same unnamed y _ (read_is (integer-does wide64 enough64 y unnamed (narrow w y g)) b)

  int-found : {next : ℕ} {z : ℤ} → x ≡ Ok (next, z) → (w : Bits) → NumberAt o (packed (width_of w)) at (Some (next, z))
  unfolding spell_number stand
  int-found {next} {z} q w = record {
    past = let p = subst (Past o at) q known.past in (omega arith, p.1);
    same = λ y g b. let v = ap (out (λ z. z) o unnamed) (sym q) ∙ int_is w y g b in rw (← same_place v, ← same-value v);
  }

  int-missing : {y : Refusal} → x ≡ Err y → (w : Bits) → NumberAt o (packed (width_of w)) at None
  unfolding spell_number
  int-missing q w = record { past = tt; same = λ y g b. absurd (never (ap (out (λ z. z) o unnamed) (sym q) ∙ int_is w y g b)) }

-- taken as an option
pub int-known : {o : List ℕ} {at : ℕ} (x : Result (ℕ × ℤ) Refusal) {y : Option (ℕ × ℤ)} → Knows64 o at x → y ≡ result_ok x → (w : Bits) → NumberAt o (packed (width_of w)) at y
int-known (Ok (next, z)) k e w = rw e (int-found k refl w)
int-known (Err r) k e w = rw e (int-missing k refl w)

module _ {o : List ℕ} {at : ℕ} {x : Result (ℕ × ℕ) Refusal} (amounts : AmountAt o at x) where
  pub amount-found : {next n : ℕ} → x ≡ Ok (next, n) → NumberAt o amount at (Some (next, pos n))
  amount-found {next} {n} q =
      let p = subst (PastAmount o at) q amounts.past in record {
        past = (omega arith, p.1);
        same = λ y g b.
            let v = found (number-does amount y unnamed refl g) b (ap (amount_out o unnamed) (sym q) ∙ amounts.same unnamed) in
            rw (← v.1, ← v.0);
      }

  pub amount-past : {next n : ℕ} → x ≡ Ok (next, n) → (at < next) × (next ≤ length o) × (n < 2 ^ 31)
  amount-past q = subst (PastAmount o at) q amounts.past

  pub amount-held : {next n : ℕ} → x ≡ Ok (next, n) → to_z w64 n ≡ pos n
  amount-held {next} {n} q = let p = amount-past q in to_z_pos w64 n (omega arith)

  pub amount-number : {next n : ℕ} → x ≡ Ok (next, n) → NumberAt o amount at (Some (next, to_z w64 n))
  amount-number q = rw (amount-held q) (amount-found q)

  pub amount-missing : {y : Refusal} → x ≡ Err y → NumberAt o amount at None
  amount-missing q = record {
    past = tt;
    same = λ y g b. absurd (not-refused (number-does amount y unnamed refl g) b (ap (amount_out o unnamed) (sym q) ∙ amounts.same unnamed));
  }

module _ {o : List ℕ} {at : ℕ} {x : Option (ℕ × ℕ)} (codes : Codes o at x) where
  coded : (y : ℤ) (c : ℕ) → y ≡ pos c → c < 2 ^ 16 → (b : Begins o at (spell_number code y)) → code_out o unnamed x ≡ got c (record { at = at + length (spell_number code y); left = b.after; env = unnamed })
  unfolding spell_number
  coded y c e h b = codes.same unnamed c _ (read_is (subst (λ (v : ℤ). Does character unnamed (spell_char (mag v)) c unnamed) (sym e) (character-does c unnamed h)) b)

  pub code-found : {next n : ℕ} → x ≡ Some (next, n) → NumberAt o code at (Some (next, to_z w64 n))
  unfolding stand
  code-found {next} {n} q =
      let p = subst (CodePast o at) q codes.past in
      rw (to_z_pos w64 n (omega arith)) record {
        past = (omega arith, p.1);
        same = λ y g b.
            let v : got n (stand o next unnamed) ≡ got g.0 (record { at = at + length (spell_number code y); left = b.after; env = unnamed }) = ap (code_out o unnamed) (sym q) ∙ coded y g.0 g.2 g.1 b in
            rw (← same_place v, g.2, ← same-value v);
      }

  pub code-missing : x ≡ None → NumberAt o code at None
  code-missing q = record { past = tt; same = λ y g b. absurd (never (ap (code_out o unnamed) (sym q) ∙ coded y g.0 g.2 g.1 b)) }

-- octets that begin with so many are as many at least
pub begins-long : {o : List ℕ} {at : ℕ} {u : List ℕ} → at ≤ length o → Begins o at u → length u ≤ length o - at
begins-long {o} {at} {u} h b = let e : length (drop at o) ≡ length u + length b.after = ap length b.begins ∙ length-append u b.after in omega (arith, length-drop at o)

few-octets : {n : ℕ} → Size n → n ≤ 8
few-octets (inl e) = omega arith
few-octets (inr (inl e)) = omega arith
few-octets (inr (inr e)) = omega arith

spelt-long : (n : ℕ) (y : ℤ) → length (spell_number (fixed n) y) ≡ n
unfolding spell_number
spelt-long n y = big_spelt-long n (unsigned y)

module _ {o : List ℕ} {at n : ℕ} (size : Size n) (h : at ≤ length o) where
  pub fixed-missing : length o - at < n → NumberAt o (fixed n) at None
  fixed-missing l = record { past = tt; same = λ y g b. absurd (omega (arith, begins-long h b, spelt-long n y)) }

  pub fixed-found : {z : ℤ} → n ≤ length o - at → z ≡ bits (big_at o at n) → mag z < 2 ^ 63 → NumberAt o (fixed n) at (Some (at + n, to_z w64 (of_z w64 z)))
  unfolding number ◌>>=◌ return
  fixed-found {z} l e f =
      rw (held {w = w64} {z = z} (record { sfits = f })) record {
        past = (omega arith, omega arith);
        same = λ y g b.
            let u = spell_number (fixed n) y in
            let long : length u ≡ n = spelt-long n y in
            let front : take n (drop at o) ≡ u = ap (take n) b.begins ∙ take_at u b.after n long in
            let value : bits (big 0 u) ≡ y = same-value (sym (ap (λ (x : Out (List ℕ)). follow x (λ l. return (bits (big 0 l)))) (read_is (run-does n u unnamed long) b)) ∙ read_is (number-does (fixed n) y unnamed (le-leb n 8 (few-octets size)) g) b) in
            rw (long, e, front, value);
      }

-- ---- the number of a type that has its value in itself

abbrev implied_of : Datum → ℤ
implied_of (packed w) = pos 0
implied_of (fixed n) = pos 0
implied_of code = pos 0
implied_of amount = pos 0
implied_of (implied z) = z

implied-is : (t : ℤ) {z : ℤ} {s : Sort} → kind_of t ≡ scalar (implied z) s → implied_of (kind_of t).datum ≡ z
implied-is t e = ap (λ (k : Kind). implied_of k.datum) e

abbrev naught : Kind → Bool
naught k = eq_z (implied_of k.datum) (pos 0)

all-at : (l : List Kind) (i : ℕ) → All naught l ≡ true → naught (get_or l i uncarried) ≡ true
all-at [] i a = refl
all-at (x ∷ l) zero a = and_left (naught x) (All naught l) a
all-at (x ∷ l) (suc i) a = all-at l i (and_right (naught x) (All naught l) a)

low : (n : ℕ) → n < 40 → (n ≡ 33 → ⊥) → implied_of (kind_of (negsuc n)).datum ≡ pos 0
unfolding kind_of
low n h g = rw (lt-ltb n 40 h) (eq_z-true _ (pos 0) (by (ltb n 33) refl))
  where
    by : (b : Bool) → ltb n 33 ≡ b → naught (get_or table n uncarried) ≡ true
    by true e = subst (λ (k : Kind). naught k ≡ true) (get_or-take 33 table n uncarried (ltb-true n 33 e)) (all-at (take 33 table) n refl)
    by false e =
        let a : 33 ≤ n = ltb-false n 33 e in
        let m : 34 + (n - 34) ≡ n = omega arith in
        subst (λ (k : Kind). naught k ≡ true) (get_or-drop 34 table (n - 34) uncarried ∙ ap (λ (i : ℕ). get_or table i uncarried) m) (all-at (drop 34 table) (n - 34) refl)

pub implied-low : (t : ℤ) → lt_z t (negsuc 39) ≡ false → (t ≡ negsuc 33 → ⊥) → Implied t (pos 0)
unfolding kind_of
implied-low (pos n) h g = record { same = λ z s e. implied-is (pos n) e }
implied-low (negsuc n) h g = let l = ltb-false 39 n h in record { same = λ z s e. sym (low n (omega arith) (λ q. g (ap negsuc q))) ∙ implied-is (negsuc n) e }

pub implied-true : {t : ℤ} → t ≡ negsuc 33 → Implied t (pos 1)
unfolding kind_of
implied-true e = rw e record { same = λ z s h. implied-is (negsuc 33) h }

pub implied-high : (t : ℤ) → lt_z t (negsuc 39) ≡ true → Implied t (negsuc 41 -ℤ t)
unfolding kind_of
implied-high (pos n) h = clash (sym h)
implied-high (negsuc n) h = let l = ltb-true 39 n h in record { same = λ z s e. by z s (ltb n 64) (rw (le-ltb n 40 (omega arith)) at e) }
  where
    by : (z : ℤ) (s : Sort) (b : Bool) → cond b (scalar (implied (negsuc 41 -ℤ negsuc n)) integral) uncarried ≡ scalar (implied z) s → negsuc 41 -ℤ negsuc n ≡ z
    by z s true e = ap (λ (k : Kind). implied_of k.datum) e
    by z s false e = clash (sym (ap (λ (k : Kind). k.carried) e))

-- an integer that a type says fits
pub implied-fits : (t : ℤ) → SFits w32 t → SFits w64 (negsuc 41 -ℤ t)
implied-fits (pos zero) f = record { sfits = omega arith }
implied-fits (pos (suc n)) f = let l = f.sfits in record { sfits = omega arith }
implied-fits (negsuc n) f = by (ltb (suc n) 42) refl
  where
    by : (b : Bool) → ltb (suc n) 42 ≡ b → SFits w64 (negsuc 41 -ℤ negsuc n)
    by true h = rw h (record { sfits = omega arith })
    by false h = let l = f.sfits in rw h (record { sfits = omega arith })

-- ---- by the class of a type

-- a number of fixed size has one, four or eight octets
abbrev sizes : Datum → Bool
sizes (packed w) = true
sizes (fixed n) = eqb n 1 || (eqb n 4 || eqb n 8)
sizes code = true
sizes amount = true
sizes (implied z) = true

size_is : (n : ℕ) (a b c : Bool) → eqb n 1 ≡ a → eqb n 4 ≡ b → eqb n 8 ≡ c → a || (b || c) ≡ true → Size n
size_is n true b c p q r h = inl (eqb-true n 1 p)
size_is n false true c p q r h = inr (inl (eqb-true n 4 q))
size_is n false false true p q r h = inr (inr (eqb-true n 8 r))
size_is n false false false p q r h = clash (sym h)

pub fixed-size : (t : ℤ) {n : ℕ} {s : Sort} → kind_of t ≡ scalar (fixed n) s → Size n
fixed-size t {n} i =
    let e : sizes (kind_of t).datum ≡ sizes (fixed n) = ap (λ (k : Kind). sizes k.datum) i in
    size_is n (eqb n 1) (eqb n 4) (eqb n 8) refl refl refl (sym e ∙ kind-all (λ k. sizes k.datum) refl refl refl (λ z. refl) t)
