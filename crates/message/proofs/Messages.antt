-- Reading a message: counted first, then filled in where there is room.
use mathlib.Core.Path.{◌≡◌, refl, sym, ap, subst, ◌∙◌}
use mathlib.Core.Bool.{Bool, true, false}
use mathlib.Core.List.{List}
use Prim.Native.Nat.{ℕ, ◌^◌, ◌<◌, ◌≤◌}
use native.Mathlib.Omega.{arith}
use lib.ListN.{length}
use lib.Dec.{leb}
use borrow.Author.Tests.{le-leb, lt-leb}
use Rattle.std.specs.Prelude.{Result, Ok, Err}
use Rattle.reading.specs.declared.Refusal.{Refusal}
use Rattle.reading.specs.Reading.{refusal}
use Rattle.reading.proofs.Sound.{Octets}
use Rattle.format.specs.declared.Row.{Row}
use Rattle.format.specs.Values.{Value}
use Rattle.format.specs.Spelling.{spell}
use Rattle.format.specs.Grammar.{Valid}
use Rattle.format.specs.Rows.{rows}
use Rattle.format.specs.Writing.{Table}
use Rattle.format.specs.Message.{Answer, ok, refused, then, unless, message, within_rows, read_message}
use Rattle.laws.proofs.Theorems.{accepted-exactly, rows-count}
use Rattle.measure.specs.Entries.{answer_of, rows_needed}
use Rattle.columns.specs.Columns.{shortest}
use Rattle.columns.proofs.Storing.{room_for}
use Rattle.fill.specs.Filling.{Ready, FilledIn}
use Rattle.message.specs.Messages.{Holds, counted, MessageRead, stored_as, RowsStored}

pub can-fill : {o : List ℕ} {n m : ℕ} {t : Table} → m ≡ shortest t → n ≤ m → length o < 2 ^ 32 → n < 2 ^ 32 → Ready o n 0 0 t
can-fill {o} {n} {m} {t} e h s k = record { room = room_for t (subst (λ (m : ℕ). n ≤ m) e h); short = s; few = k; inside = omega arith; below = omega arith }

-- ---- the rows of an accepted message

within_by : {n : ℕ} (lent : ℕ) (rs : List Row) (b : Bool) → n ≡ length rs → leb n lent ≡ b → within_rows lent rs ≡ unless b 12 (ok rs)
within_by lent rs b e k = ap (λ (x : Bool). unless x 12 (ok rs)) (ap (λ (m : ℕ). leb m lent) (sym e) ∙ k)

pub no_room : {o : List ℕ} {n m : ℕ} {t : Table} → m ≡ shortest t → m < n → RowsStored o n t (Err (refusal 12 0)) t
no_room {o} {n} {m} {t} e h = record { stored = λ v g s k. (within_by (shortest t) (rows v) false k (lt-leb n (shortest t) (subst (λ (m : ℕ). m < n) e h)), refl) }

pub stored : {o : List ℕ} {n m : ℕ} {t t' : Table} → m ≡ shortest t → n ≤ m → FilledIn o n t t' → RowsStored o n t (Ok tt) t'
stored {o} {n} {m} {t} e h f = record { stored = λ v g s k. (within_by (shortest t) (rows v) true k (le-leb n (shortest t) (subst (λ (m : ℕ). n ≤ m) e h)), f.same v g s (sym k)) }

-- ---- reading

pub same-refused : {A : Type 0} {q r : Refusal} → ◌≡◌ {A = Answer A} (refused q) (refused r) → q ≡ r
same-refused e = cc

pub same_ok : {A : Type 0} {a b : A} → ◌≡◌ {A = Answer A} (ok a) (ok b) → a ≡ b
same_ok e = cc

-- a message that is accepted
module _ (o : List ℕ) {x : Result ℕ Refusal} {n : ℕ} (h : answer_of x ≡ rows_needed o) (e : x ≡ Ok n) (c : Octets o) where
  said : (v : Value) × (message o ≡ ok v) × (n ≡ length (rows v))
  unfolding rows_needed
  said = by (message o) refl (ap answer_of (sym e) ∙ h)
    where
      by : (x : Answer Value) → message o ≡ x → ok n ≡ then x (λ v. ok (length (rows v))) → (v : Value) × (message o ≡ ok v) × (n ≡ length (rows v))
      by (ok v) k h = (v, k, same_ok h)
      by (refused p) k h = cc

  valid : Valid said.0 × (spell said.0 ≡ o) × (length o ≤ 65535)
  valid = (accepted-exactly o said.0 c).0 said.1

  pub few : (length o < 2 ^ 32) × (n < 2 ^ 32)
  few = (omega (arith, valid.2), omega (arith, said.2, rows-count said.0 valid.0, ap length valid.1, valid.2))

module _ (o : List ℕ) (t : Table) where
  abbrev within : Value → Answer (List Row)
  within v = within_rows (shortest t) (rows v)

  -- a reading that gives x
  read_as : (x : Answer (List Row)) {r : Result ℕ Refusal} {t' : Table} → read_message (shortest t) o ≡ x → answer_of r ≡ then x counted → Holds x t t' → MessageRead o t r t'
  read_as x {r} {t'} e k h = record { told = k ∙ ap (λ (y : Answer (List Row)). then y counted) (sym e); holds = subst (λ (y : Answer (List Row)). Holds y t t') (sym e) h }

  pub read-refused : {x : Result ℕ Refusal} {q : Refusal} → answer_of x ≡ rows_needed o → x ≡ Err q → MessageRead o t (Err q) t
  unfolding rows_needed read_message
  read-refused {q = q} h e = read_as (refused q) (by (message o) (ap answer_of (sym e) ∙ h)) refl refl
    where
      by : (x : Answer Value) → refused q ≡ then x (λ v. ok (length (rows v))) → then x within ≡ refused q
      by (ok v) h = cc
      by (refused p) h = ap refused (sym (same-refused h))

  module _ {x : Result ℕ Refusal} {n : ℕ} (h : answer_of x ≡ rows_needed o) (e : x ≡ Ok n) (c : Octets o) where
    read_by : {r q : Result (Unit {0}) Refusal} {t' : Table} → RowsStored o n t r t' → r ≡ q
        → (read_message (shortest t) o ≡ stored_as q (rows (said o h e c).0)) × Holds (stored_as q (rows (said o h e c).0)) t t'
    unfolding read_message
    read_by {r} {q} {t'} s k =
        let w = s.stored (said o h e c).0 (valid o h e c).0 (sym (valid o h e c).1) (said o h e c).2 in
        subst (λ (x : Result (Unit {0}) Refusal). (read_message (shortest t) o ≡ stored_as x (rows (said o h e c).0)) × Holds (stored_as x (rows (said o h e c).0)) t t') k
        (ap (λ (x : Answer Value). then x within) (said o h e c).1 ∙ w.0, w.1)

    pub read-rows : {r : Result (Unit {0}) Refusal} {u : Unit {0}} {t' : Table} → RowsStored o n t r t' → r ≡ Ok u → MessageRead o t (Ok n) t'
    read-rows s k = let w = read_by s k in read_as (ok (rows (said o h e c).0)) w.0 (ap ok (said o h e c).2) w.1

    pub read_short : {r : Result (Unit {0}) Refusal} {q : Refusal} {t' : Table} → RowsStored o n t r t' → r ≡ Err q → MessageRead o t (Err q) t'
    read_short {q = q} s k = let w = read_by s k in read_as (refused q) w.0 refl w.1
