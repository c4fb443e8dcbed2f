-- What is read into the columns, and the answer that begins with it.
use Rattle.std.specs.Prelude.{Result, Ok, Err}
use mathlib.Core.Path.{◌≡◌, refl, sym, ap, subst, ◌∙◌}
use mathlib.Core.List.{List, [], ◌∷◌, ◌++◌}
use Prim.Native.Nat.{ℕ}
use native.Mathlib.Omega.{arith}
use lib.ListN.{length}
use lib.IntN.{ℤ, pos}
use borrow.Author.Tests.{eq-eqb, ne_eqb}
use Rattle.reading.specs.declared.Refusal.{Refusal}
use Rattle.format.specs.declared.Row.{Row}
use Rattle.format.specs.Desk.{feed}
use Rattle.format.specs.Message.{Answer, ok, refused, then, read_message, read_frame}
use Rattle.format.specs.Writing.{Table, tabled}
use Rattle.columns.specs.Columns.{Roomy, Filled}
use Rattle.measure.specs.Entries.{answer_of}
use Rattle.columns.specs.Columns.{shortest}
use Rattle.message.specs.Messages.{Holds, counted, MessageRead}
use Rattle.message.proofs.Messages.{same-refused, same_ok}
use Rattle.frame.specs.declared.FramePlace.{FramePlace}
use Rattle.frame.specs.declared.Frame.{Frame}
use Rattle.frame.specs.Frames.{FrameRead}
use Rattle.records.proofs.Records.{filled-rows, filled-room}
use Rattle.listing.specs.Listing.{Listed}
use Rattle.listing.proofs.Listing.{frame_refused, frame-given, frame-rows, frame-room}
use Rattle.replies.specs.Cases.{row_parts, Reply, alone, accepted, refused_by, reply, message_rows, frame_rows, lent, alone_text, octets_reply, case_reply, case_text}
use Rattle.answers.specs.declared.Begun.{Begun}
use Rattle.answers.specs.Replies.{Lent, Begins}

pub shortest-lent : {t : Table} → Lent t → shortest t ≡ lent
unfolding shortest
shortest-lent h = rw (h.ty_lent, h.own_lent, h.label_lent, h.number_lent, h.first_lent, h.second_lent, h.place_lent, h.below_lent, h.start_lent, h.end_lent)

-- no rows follow
pub begins-alone : {v : List ℕ} {at e : ℕ} {l out : List ℕ} (t : Table) → Listed v at l e out → Begins (alone v) at l (record { end = e; rows = 0 }) out t
unfolding tabled
begins-alone t w = record {
  listed = w;
  same = refl;
  room = record { ty_room = omega arith; own_room = omega arith; label_room = omega arith; number_room = omega arith; first_room = omega arith; second_room = omega arith; place_room = omega arith; below_room = omega arith; start_room = omega arith; end_room = omega arith };
}

-- ---- a message

module _ (o : List ℕ) {t t' : Table} {x : Result ℕ Refusal} (h : MessageRead o t x t') (s : Lent t) where
  by-limit : answer_of x ≡ then (read_message lent o) counted
  by-limit = subst (λ (k : ℕ). answer_of x ≡ then (read_message k o) counted) (shortest-lent s) h.told

  message-refused : {q : Refusal} → x ≡ Err q → read_message lent o ≡ refused q
  message-refused {q} e = by (read_message lent o) (ap answer_of (sym e) ∙ by-limit)
    where
      by : (y : Answer (List Row)) → refused q ≡ then y counted → y ≡ refused q
      by (ok a) k = let z : ◌≡◌ {A = ℕ} 0 1 = cc in absurd (omega arith)
      by (refused p) k = ap refused (sym (same-refused k))

  message-given : {n : ℕ} → x ≡ Ok n → (rs : List Row) × (read_message lent o ≡ ok rs) × (n ≡ length rs)
  message-given {n} e = by (read_message lent o) refl (ap answer_of (sym e) ∙ by-limit)
    where
      by : (y : Answer (List Row)) → read_message lent o ≡ y → ok n ≡ then y counted → (rs : List Row) × (read_message lent o ≡ ok rs) × (n ≡ length rs)
      by (ok rs) k h = (rs, k, same_ok h)
      by (refused p) k h = let z : ◌≡◌ {A = ℕ} 0 1 = cc in absurd (omega arith)

  module _ {at e : ℕ} {l out : List ℕ} where
    pub message-no : {q : Refusal} → x ≡ Err q → Listed (refused_by q) at l e out → Begins (reply message_rows (read_message lent o)) at l (record { end = e; rows = 0 }) out t'
    message-no q w = subst (λ (y : Answer (List Row)). Begins (reply message_rows y) at l (record { end = e; rows = 0 }) out t') (sym (message-refused q)) (begins-alone t' w)

    pub message-rows : {n : ℕ} → x ≡ Ok n → Listed (accepted (pos n ∷ [])) at l e out → Begins (reply message_rows (read_message lent o)) at l (record { end = e; rows = n }) out t'
    message-rows {n} q w =
        let g = message-given q in
        let f : Filled 0 g.0 t t' = subst (λ (y : Answer (List Row)). Holds y t t') (ap (λ (k : ℕ). read_message k o) (shortest-lent s) ∙ g.1) h.holds in
        subst (λ (y : Answer (List Row)). Begins (reply message_rows y) at l (record { end = e; rows = n }) out t') (sym g.1) (record {
          listed = subst (λ (k : ℕ). Listed (accepted (pos k ∷ [])) at l e out) g.2 w;
          same = ap (tabled t' 0) g.2 ∙ filled-rows f;
          room = subst (λ (k : ℕ). Roomy k t') (sym g.2) (filled-room f);
        })

-- ---- a frame

module _ (o : List ℕ) {t t' : Table} {x : Result Frame Refusal} (h : FrameRead o t x t') (s : Lent t) {at e : ℕ} {l out : List ℕ} where
  pub frame-no : {q : Refusal} → x ≡ Err q → Listed (refused_by q) at l e out → Begins (reply frame_rows (read_frame lent o)) at l (record { end = e; rows = 0 }) out t'
  frame-no q w = subst (λ (y : Answer (ℤ × ℕ × List Row)). Begins (reply frame_rows y) at l (record { end = e; rows = 0 }) out t') (sym (frame_refused o h (shortest-lent s) q)) (begins-alone t' w)

  pub frame-begins : {from : FramePlace} {n : ℕ} {c z : ℤ} → x ≡ Ok (record { message = from; rows = n; conversation = c }) → z ≡ c → Listed (accepted (z ∷ pos n ∷ [])) at l e out → Begins (reply frame_rows (read_frame lent o)) at l (record { end = e; rows = n }) out t'
  frame-begins {n = n} {c} {z} q j w =
      let g = frame-given o h (shortest-lent s) q in
      subst (λ (y : Answer (ℤ × ℕ × List Row)). Begins (reply frame_rows y) at l (record { end = e; rows = n }) out t') (sym g.1) (record {
        listed = subst (λ (z : ℤ). Listed (accepted (z ∷ pos (length g.0.2) ∷ [])) at l e out) (j ∙ g.2) (subst (λ (k : ℕ). Listed (accepted (z ∷ pos k ∷ [])) at l e out) g.3 w);
        same = frame-rows o h (shortest-lent s) q;
        room = frame-room o h (shortest-lent s) q;
      })

-- ---- by the kind

pub begins-same : {a b : Reply} {at : ℕ} {l : List ℕ} {r : Begun} {out : List ℕ} {t : Table} → a ≡ b → Begins b at l r out t → Begins a at l r out t
begins-same {at = at} {l} {r} {out} {t} e w = subst (λ (a : Reply). Begins a at l r out t) (sym e) w

module _ (k : ℕ) (o : List ℕ) where
  pub octets-message : k ≡ 0x4D → octets_reply k o ≡ reply message_rows (read_message lent o)
  unfolding octets_reply
  octets-message e = rw (eq-eqb k 0x4D e)

  pub octets-frame : (k ≡ 0x4D → ⊥) → k ≡ 0x46 → octets_reply k o ≡ reply frame_rows (read_frame lent o)
  unfolding octets_reply
  octets-frame n e = rw (ne_eqb k 0x4D n, eq-eqb k 0x46 e)

  pub octets-alone : (k ≡ 0x4D → ⊥) → (k ≡ 0x46 → ⊥) → octets_reply k o ≡ alone (alone_text k o)
  unfolding octets_reply
  octets-alone n m = rw (ne_eqb k 0x4D n, ne_eqb k 0x46 m)

-- ---- the whole line

-- what the answer begins with, the rows of the columns, and a line feed
pub whole-line : (line : List ℕ) {at : ℕ} {l : List ℕ} {r : Begun} {out : List ℕ} {t : Table} → Begins (case_reply line) at l r out t → case_text line ≡ (case_reply line).head ++ (row_parts (tabled t 0 r.rows) ++ feed)
whole-line line b = ap (λ (rs : List Row). (case_reply line).head ++ (row_parts rs ++ feed)) (sym b.same)
