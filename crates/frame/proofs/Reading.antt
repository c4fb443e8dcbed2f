-- Reading a frame: checked first, then the rows of its message filled in where there is room.
use mathlib.Core.Path.{◌≡◌, refl, sym, ap, subst, ◌∙◌}
use mathlib.Core.List.{List}
use Prim.Native.Nat.{ℕ, ◌-◌, ◌*◌, ◌^◌, ◌<◌, ◌≤◌}
use native.Mathlib.Omega.{arith}
use lib.ListN.{length, take, drop, length-drop}
use lib.Seq.{take_all}
use lib.IntN.{ℤ}
use Rattle.std.specs.Prelude.{Result, Ok, Err}
use Rattle.reading.specs.declared.Refusal.{Refusal}
use Rattle.reading.proofs.Sound.{Octets}
use Rattle.format.specs.declared.Row.{Row}
use Rattle.format.specs.Spelling.{spell}
use Rattle.format.specs.Rows.{rows}
use Rattle.format.specs.Writing.{Table}
use Rattle.format.specs.Message.{Answer, ok, refused, then, within_rows, Frame, frame, read_frame}
use Rattle.format.proofs.Counts.{value-rows}
use Rattle.laws.proofs.Theorems.{frame-exactly, frame-says, rows-count}
use Rattle.columns.specs.Columns.{shortest}
use Rattle.message.specs.Messages.{Holds, stored_as, RowsStored}
use Rattle.message.proofs.Messages.{same-refused, same_ok}
use Rattle.frame.specs.declared.FramePlace.{FramePlace}
use Rattle.frame.specs.Frames.{answer_of, needed, needs, told, rows_of, FrameRead}
use Rattle.frame.specs.declared.Frame.{Frame as Framed}

same-told : {c d : ℤ} {i j m n : ℕ} → c ≡ d → i ≡ j → m ≡ n → ◌≡◌ {A = Answer (ℤ × ℕ × ℕ)} (ok (c, i, m)) (ok (d, j, n))
same-told h j k = rw (h, j, k)

-- the octets of a frame from its message on
abbrev onward : List ℕ → FramePlace → List ℕ
onward o from = take (length o - from.0) (drop from.0 o)

-- an accepted frame
module _ (o : List ℕ) {x : Result Framed Refusal} {g : Framed} (h : answer_of x ≡ needs o) (e : x ≡ Ok g) (b : Octets o) where
  said : (f : Frame) × (frame o ≡ ok f) × (g.conversation ≡ f.conversation) × (g.message.0 ≡ f.from) × (g.rows ≡ length (rows f.said))
  unfolding needs
  said = by (frame o) refl (ap answer_of (sym e) ∙ h)
    where
      by : (x : Answer Frame) → frame o ≡ x → ok (g.conversation, g.message.0, g.rows) ≡ then x needed → (f : Frame) × (frame o ≡ ok f) × (g.conversation ≡ f.conversation) × (g.message.0 ≡ f.from) × (g.rows ≡ length (rows f.said))
      by (ok f) k h = let w = same_ok h in (f, k, ap (λ (a : ℤ × ℕ × ℕ). a.0) w, ap (λ (a : ℤ × ℕ × ℕ). a.1) w, ap (λ (a : ℤ × ℕ × ℕ). a.2) w)
      by (refused p) k h = cc

  -- its message stands in it from `from` on
  spelt : onward o g.message ≡ spell said.0.said
  spelt = take_all (length o - g.message.0) (drop g.message.0 o) (omega (arith, length-drop g.message.0 o)) ∙ ap (λ (k : ℕ). drop k o) said.3 ∙ (frame-says o said.0 b said.1).0

  long : length o - g.message.0 ≡ length (spell said.0.said)
  long = sym (length-drop g.message.0 o) ∙ ap (λ (k : ℕ). length (drop k o)) said.3 ∙ ap length (frame-says o said.0 b said.1).0

  rows_few : 2 * length (rows said.0.said) ≤ 3 * length (spell said.0.said)
  rows_few = rows-count said.0.said ((frame-exactly o said.0 b).0 said.1).valid

  pub starts-within : g.message.0 ≤ length o
  starts-within = omega (arith, long, rows_few, value-rows said.0.said)

  pub few : (length (onward o g.message) < 2 ^ 32) × (g.rows < 2 ^ 32)
  few = let short = ((frame-exactly o said.0 b).0 said.1).short in (omega (arith, ap length spelt, long, short), omega (arith, said.4, rows_few, long, short))

module _ (o : List ℕ) (t : Table) where
  abbrev within : Frame → Answer (ℤ × ℕ × List Row)
  within f = then (within_rows (shortest t) (rows f.said)) (λ r. ok (f.conversation, f.from, r))

  -- a reading that gives x
  read_as : (x : Answer (ℤ × ℕ × List Row)) {r : Result Framed Refusal} {t' : Table} → read_frame (shortest t) o ≡ x → answer_of r ≡ then x told → Holds (then x rows_of) t t' → FrameRead o t r t'
  read_as x {r} {t'} e k h = record {
    says = k ∙ ap (λ (y : Answer (ℤ × ℕ × List Row)). then y told) (sym e);
    holds = subst (λ (y : Answer (ℤ × ℕ × List Row)). Holds (then y rows_of) t t') (sym e) h;
  }

  pub read-refused : {x : Result Framed Refusal} {q : Refusal} → answer_of x ≡ needs o → x ≡ Err q → FrameRead o t (Err q) t
  unfolding needs read_frame
  read-refused {q = q} h e = read_as (refused q) (by (frame o) (ap answer_of (sym e) ∙ h)) refl refl
    where
      by : (x : Answer Frame) → refused q ≡ then x needed → then x within ≡ refused q
      by (ok f) h = cc
      by (refused p) h = ap refused (sym (same-refused h))

  module _ {x : Result Framed Refusal} {g : Framed} (h : answer_of x ≡ needs o) (e : x ≡ Ok g) (b : Octets o) where
    abbrev f : Frame
    f = (said o h e b).0

    abbrev framed : Answer (List Row) → Answer (ℤ × ℕ × List Row)
    framed x = then x (λ r. ok (f.conversation, f.from, r))

    read_by : {y z : Result (Unit {0}) Refusal} {t' : Table} → RowsStored (onward o g.message) g.rows t y t' → y ≡ z
        → (read_frame (shortest t) o ≡ framed (stored_as z (rows f.said))) × Holds (stored_as z (rows f.said)) t t'
    unfolding read_frame
    read_by {t' = t'} s k =
        let w = s.stored f.said ((frame-exactly o f b).0 (said o h e b).1).valid (spelt o h e b) (said o h e b).4 in
        subst (λ (y : Result (Unit {0}) Refusal). (read_frame (shortest t) o ≡ framed (stored_as y (rows f.said))) × Holds (stored_as y (rows f.said)) t t') k
        (ap (λ (x : Answer Frame). then x within) (said o h e b).1 ∙ ap framed w.0, w.1)

    pub read-rows : {y : Result (Unit {0}) Refusal} {u : Unit {0}} {t' : Table} → RowsStored (onward o g.message) g.rows t y t' → y ≡ Ok u → FrameRead o t (Ok g) t'
    read-rows s k =
        let w = read_by s k in
        read_as (ok (f.conversation, f.from, rows f.said)) w.0 (same-told (said o h e b).2 (said o h e b).3 (said o h e b).4) w.1

    pub read_short : {y : Result (Unit {0}) Refusal} {q : Refusal} {t' : Table} → RowsStored (onward o g.message) g.rows t y t' → y ≡ Err q → FrameRead o t (Err q) t'
    read_short {q = q} s k = let w = read_by s k in read_as (refused q) w.0 refl w.1
