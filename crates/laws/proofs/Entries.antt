-- What the entries answer, by what is accepted and written.
use mathlib.Core.Path.{◌≡◌, refl, sym, ap, ◌∙◌, subst}
use mathlib.Core.Bool.{Bool, true, false}
use mathlib.Core.Logic.{◌↔◌}
use mathlib.Core.List.{List}
use Prim.Native.Nat.{ℕ, ◌<◌, ◌≤◌}
use native.Mathlib.Omega.{arith}
use lib.ListN.{length}
use lib.Dec.{leb}
use lib.IntN.{ℤ}
use borrow.Author.Tests.{leb-true, le-leb, lt-leb}
use Rattle.reading.specs.declared.Refusal.{Refusal}
use Rattle.reading.specs.Reading.{number_of, reason_of, refusal}
use Rattle.reading.proofs.Sound.{Octets}
use Rattle.format.specs.declared.Row.{Row}
use Rattle.format.specs.Values.{Value}
use Rattle.format.specs.Rows.{rows}
use Rattle.format.specs.Message.{Answer, ok, refused, unless, then, most_octets, within_rows, message, read_message, Frame, frame, read_frame}
use Rattle.format.specs.Writing.{HasRows, written, Table, equal_lengths, write}
use Rattle.format.specs.Exchange.{labelled, Exchanged, renewed, fault, given, demand, exchange}
use Rattle.laws.specs.Words.{rows_in, NoneHave, Exchanging, anew, Renewed}
use Rattle.laws.proofs.Steps.{not-ok}
use Rattle.laws.proofs.Written.{written-exactly, refused-exactly}

-- ---- answers

unless-ok : {A : Type 0} (t : Bool) (n : ℕ) (x : Answer A) (a : A) → unless t n x ≡ ok a → (t ≡ true) × (x ≡ ok a)
unless-ok true n x a e = (refl, e)
unless-ok false n x a e = absurd (not-ok e)

then_ok : {A B : Type 0} (x : Answer A) (f : A → Answer B) (b : B) → then x f ≡ ok b → (a : A) × (x ≡ ok a) × (f a ≡ ok b)
then_ok (ok a) f b e = (a, refl, e)
then_ok (refused r) f b e = absurd (not-ok e)

same_ok : {A : Type 0} {a b : A} → ◌≡◌ {A = Answer A} (ok a) (ok b) → a ≡ b
same_ok e = cc

within-ok : (lent : ℕ) (rs qs : List Row) → within_rows lent rs ≡ ok qs → (rs ≡ qs) × (length qs ≤ lent)
within-ok lent rs qs e =
    let w = unless-ok (leb (length rs) lent) 12 (ok rs) qs e in
    let same = same_ok w.1 in
    (same, subst (λ (l : List Row). length l ≤ lent) same (leb-true (length rs) lent w.0))

within-so : (lent : ℕ) (rs : List Row) → length rs ≤ lent → within_rows lent rs ≡ ok rs
within-so lent rs h = rw (le-leb (length rs) lent h)

-- ---- reading

pub read-exactly : (lent : ℕ) (o : List ℕ) (rs : List Row) → read_message lent o ≡ ok rs ↔ ((v : Value) × (message o ≡ ok v) × (rows v ≡ rs) × (length rs ≤ lent))
unfolding read_message
read-exactly lent o rs = (
  λ e. let w = then_ok (message o) _ rs e in let l = within-ok lent (rows w.0) rs w.2 in (w.0, w.1, l.0, l.1),
  λ h. rw (h.1, h.2) (within-so lent rs h.3),
)

pub read-frame-exactly : (lent : ℕ) (f : List ℕ) (c : ℤ) (from : ℕ) (rs : List Row)
    → read_frame lent f ≡ ok (c, from, rs) ↔ ((old : Frame) × (frame f ≡ ok old) × (old.conversation ≡ c) × (old.from ≡ from) × (rows old.said ≡ rs) × (length rs ≤ lent))
unfolding read_frame
read-frame-exactly lent f c from rs = (
  λ e.
      let w = then_ok (frame f) _ (c, from, rs) e in
      let x = then_ok (within_rows lent (rows w.0.said)) _ (c, from, rs) w.2 in
      let l = within-ok lent (rows w.0.said) x.0 x.1 in
      let all : ◌≡◌ {A = ℤ × ℕ × List Row} (w.0.conversation, w.0.from, x.0) (c, from, rs) = same_ok x.2 in
      let same : x.0 ≡ rs = ap (λ (p : ℤ × ℕ × List Row). p.2) all in
      (w.0, w.1, ap (λ (p : ℤ × ℕ × List Row). p.0) all, ap (λ (p : ℤ × ℕ × List Row). p.1) all, l.0 ∙ same, subst (λ (q : List Row). length q ≤ lent) same l.1),
  λ h. rw (h.1, h.4, within-so lent rs h.5, h.2, h.3),
)

-- ---- writing

pub write-exactly : (t : Table) (c : List ℕ) (room : ℕ) (o : List ℕ) → Octets o
    → write t c room ≡ ok o ↔ ((length c ≤ most_octets) × (equal_lengths t ≡ true) × HasRows c (rows_in t) o × (length o ≤ room))
unfolding write
write-exactly t c room o x = (
  λ e.
      let a = unless-ok (leb (length c) most_octets) 2 _ o e in
      let b = unless-ok (equal_lengths t) 14 _ o a.1 in
      let w = then_ok (written c (rows_in t)) _ o b.1 in
      let d = unless-ok (leb (length w.0) room) 13 (ok w.0) o w.2 in
      let same : w.0 ≡ o = same_ok d.1 in
      (leb-true (length c) most_octets a.0, b.0, (written-exactly c (rows_in t) o x).0 (w.1 ∙ ap ok same), subst (λ (l : List ℕ). length l ≤ room) same (leb-true (length w.0) room d.0)),
  λ h. rw (le-leb (length c) most_octets h.0, h.1, (written-exactly c (rows_in t) o x).1 h.2, le-leb (length o) room h.3),
)

unless-refused : {A : Type 0} (t : Bool) (n : ℕ) (x : Answer A) (m : ℕ) → unless t n x ≡ refused (refusal m 0) → (number_of (reason_of m) ≡ number_of (reason_of n) → ⊥) → (t ≡ true) × (x ≡ refused (refusal m 0))
unless-refused true n x m e d = (refl, e)
unless-refused false n x m e d = let same : refusal n 0 ≡ refusal m 0 = cc in absurd (d (sym (ap (λ (r : Refusal). number_of r.reason) same)))

then-refused : {A B : Type 0} (x : Answer A) (f : A → Answer B) (q : Refusal) → then x f ≡ refused q → ((a : A) → f a ≡ refused q → ⊥) → x ≡ refused q
then-refused (ok a) f q e d = absurd (d a e)
then-refused (refused r) f q e d = let same : r ≡ q = cc in ap refused same

fits-not-14 : (o : List ℕ) (room : ℕ) → unless (leb (length o) room) 13 (ok o) ≡ refused (refusal 14 0) → ⊥
fits-not-14 o room e = let w = unless-refused (leb (length o) room) 13 (ok o) 14 e (λ z. omega arith) in not-ok (sym w.1)

-- 14: the columns have unequal lengths, or no octets have the rows
pub write-14 : (t : Table) (c : List ℕ) (room : ℕ) → Octets c → write t c room ≡ refused (refusal 14 0) ↔ ((length c ≤ most_octets) × (equal_lengths t ≡ true → NoneHave c (rows_in t)))
unfolding write
write-14 t c room x = (
  λ e. let a = unless-refused (leb (length c) most_octets) 2 (rest (equal_lengths t)) 14 e (λ z. omega arith) in (leb-true (length c) most_octets a.0, λ h. none (subst (λ (b : Bool). rest b ≡ refused (refusal 14 0)) h a.1)),
  λ h. rw (le-leb (length c) most_octets h.0) (back (equal_lengths t) h.1),
)
  where
    rest : Bool → Answer (List ℕ)
    rest b = unless b 14 (then (written c (rows_in t)) (λ o. unless (leb (length o) room) 13 (ok o)))

    none : rest true ≡ refused (refusal 14 0) → NoneHave c (rows_in t)
    none e = (refused-exactly c (rows_in t) x).0 (then-refused (written c (rows_in t)) _ (refusal 14 0) e (λ o. fits-not-14 o room))

    back : (b : Bool) → (b ≡ true → NoneHave c (rows_in t)) → rest b ≡ refused (refusal 14 0)
    back true n = rw ((refused-exactly c (rows_in t) x).1 (n refl))
    back false n = refl

-- ---- exchanging

module _ (f r : List ℕ) (i : ℤ) (old : Frame) (w : Value) (meets : Exchanging f r i old w) (room : ℕ) where
  abbrev result : List ℕ
  result = anew i old w

  exchange-is : exchange f r i room ≡ given 3 (frame result) λ _. demand (leb (length result) room) 13 (renewed result)
  unfolding exchange
  exchange-is = rw (meets.old_accepted, meets.replacement_accepted, meets.has_property)

  -- a new frame that is accepted and has room
  pub exchange-renews : (new : Frame) → frame result ≡ ok new → length result ≤ room → exchange f r i room ≡ renewed result
  exchange-renews new e h = exchange-is ∙ rw (e, le-leb (length result) room h)

  -- one that is refused, as input 3
  pub exchange-refuses : (q : Refusal) → frame result ≡ refused q → exchange f r i room ≡ fault 3 q
  exchange-refuses q e = exchange-is ∙ rw e

  -- one that has no room
  pub exchange-overflows : (new : Frame) → frame result ≡ ok new → room < length result → exchange f r i room ≡ fault 1 (refusal 13 0)
  exchange-overflows new e h = exchange-is ∙ rw (e, lt-leb (length result) room h)

given-renewed : {A : Type 0} (n : ℕ) (a : Answer A) (k : A → Exchanged) (o : List ℕ) → given n a k ≡ renewed o → (x : A) × (a ≡ ok x) × (k x ≡ renewed o)
given-renewed n (ok x) k o e = (x, refl, e)
given-renewed n (refused r) k o e = let z : ◌≡◌ {A = ℕ} 0 1 = cc in absurd (omega arith)

demand-renewed : (t : Bool) (n : ℕ) (x : Exchanged) (o : List ℕ) → demand t n x ≡ renewed o → (t ≡ true) × (x ≡ renewed o)
demand-renewed true n x o e = (refl, e)
demand-renewed false n x o e = let z : ◌≡◌ {A = ℕ} 0 1 = cc in absurd (omega arith)

-- all that an exchange that answers has met
exchange-met : (f r : List ℕ) (i : ℤ) (room : ℕ) (o : List ℕ) → exchange f r i room ≡ renewed o → Renewed f r i room o
unfolding exchange
exchange-met f r i room o e =
    let a = given-renewed 1 (frame f) _ o e in
    let b = given-renewed 2 (message r) _ o a.2 in
    let c = demand-renewed (labelled i a.0.said.inside) 16 _ o b.2 in
    let new = anew i a.0 b.0 in
    let d = given-renewed 3 (frame new) _ o c.1 in
    let g = demand-renewed (leb (length new) room) 13 (renewed new) o d.2 in
    let same : new ≡ o = renewed-same g.1 in
    record {
      old = a.0;
      replacement = b.0;
      new = d.0;
      exchanging = record { old_accepted = a.1; replacement_accepted = b.1; has_property = c.0 };
      is_anew = sym same;
      new_accepted = subst (λ (l : List ℕ). frame l ≡ ok d.0) same d.1;
      has_room = subst (λ (l : List ℕ). length l ≤ room) same (leb-true (length new) room g.0);
    }
  where
    renewed-same : {a b : List ℕ} → renewed a ≡ renewed b → a ≡ b
    renewed-same e = cc

pub exchange-exactly : (f r : List ℕ) (i : ℤ) (room : ℕ) (o : List ℕ) → exchange f r i room ≡ renewed o ↔ Renewed f r i room o
exchange-exactly f r i room o = (
  exchange-met f r i room o,
  λ m.
      exchange-renews f r i m.old m.replacement m.exchanging room m.new (subst (λ (l : List ℕ). frame l ≡ ok m.new) m.is_anew m.new_accepted)
      (subst (λ (l : List ℕ). length l ≤ room) m.is_anew m.has_room) ∙ ap renewed (sym m.is_anew),
)
