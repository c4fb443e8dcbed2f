-- Frames: an accepted one is the frame written afresh of what it says.
use mathlib.Core.Path.{◌≡◌, refl, sym, ap, ◌∙◌, subst, ap₂}
use mathlib.Core.Bool.{true, false}
use mathlib.Core.Logic.{◌↔◌}
use mathlib.Core.List.{List, [], ◌++◌, append_assoc, append-nil}
use Prim.Native.Nat.{ℕ, ◌+◌, ◌≤◌}
use native.Mathlib.Omega.{arith}
use native.Mathlib.Nat.{zero-add}
use lib.ListN.{length, length-append, drop}
use lib.Seq.{drop_at}
use lib.Dec.{leb}
use lib.IntN.{ℤ, pos}
use lib.Signed.{mag, non_neg}
use borrow.Author.Tests.{leb-true, le-leb}
use Rattle.reading.specs.Reading.{Env, State, got, ◌>>=◌, return, require, here, ahead, start}
use Rattle.reading.proofs.Sound.{Octets}
use Rattle.integer.specs.Packed.{wide32, integer, spell_int}
use Rattle.integer.proofs.Laws.{integer-leaf, integer-only, enough32, integer-does}
use Rattle.format.specs.Values.{Value, empty, child_of}
use Rattle.format.specs.Spelling.{spell}
use Rattle.format.specs.Message.{ok, most_octets, whole_message, message, Frame, is_user, whole_frame, frame}
use Rattle.format.specs.Exchange.{afresh}
use Rattle.format.specs.Grammar.{Int32, Whole, Shaped, Named, Valid}
use Rattle.laws.specs.Words.{fresh, message_place, Framed}
use Rattle.laws.proofs.Tests.{pos-mag}
use Rattle.laws.proofs.Steps.{steps, required, same-result, past-here, past-ahead, took, reads, reads_so}
use Rattle.laws.proofs.Sound.{outermost-sound}
use Rattle.laws.proofs.Messages.{whole_is}
use Rattle.laws.proofs.Complete.{past, whole-does, valid-accepted}
use Rattle.laws.proofs.Only.{outermost-only}

-- the steps of reading a frame: its length n, its conversation, its message
record Framing (f : List ℕ) (old : Frame) : Type 0 where
  amount : ℤ
  after_amount : State
  after_conversation : State
  at_end : State
  amount_read : integer wide32 (start f) ≡ got amount after_amount
  amount-whole : non_neg amount ≡ true
  enough : leb (mag amount) (length after_amount.left) ≡ true
  no_more : leb (length after_amount.left) (mag amount) ≡ true
  conversation-read : integer wide32 after_amount ≡ got old.conversation after_conversation
  message_read : whole_message after_conversation ≡ got old.said at_end
  user : is_user old.said ≡ true
  from_is : old.from ≡ after_conversation.at

framing : (f : List ℕ) (old : Frame) (s : State) → whole_frame (start f) ≡ got old s → Framing f old
unfolding whole_frame return
framing f old s e =
    let a = steps (integer wide32) _ (start f) old s (past-here _ (start f) old s e) in
    let b = required _ _ _ _ a.state old s a.then in
    let c = required _ _ _ _ a.state old s (past-ahead _ a.state old s (past-here _ a.state old s b.1)) in
    let d = required _ _ _ _ a.state old s c.1 in
    let g = steps (integer wide32) _ a.state old s d.1 in
    let h = steps whole_message _ g.state old s (past-here _ g.state old s g.then) in
    let k = required (is_user h.result) 16 0 (λ _. return (record { conversation = g.result; from = g.state.at; said = h.result })) h.state old s h.then in
    by a.result g.result h.result a.state g.state h.state (same-result {a = record { conversation = g.result; from = g.state.at; said = h.result }} k.1) a.did b.0 c.0 d.0 g.did h.did k.0
  where
    by : (n c : ℤ) (v : Value) (s₁ s₂ s₃ : State) → record { conversation = c; from = s₂.at; said = v } ≡ old
        → integer wide32 (start f) ≡ got n s₁ → non_neg n ≡ true → leb (mag n) (length s₁.left) ≡ true → leb (length s₁.left) (mag n) ≡ true
        → integer wide32 s₁ ≡ got c s₂ → whole_message s₂ ≡ got v s₃ → is_user v ≡ true → Framing f old
    by n c v s₁ s₂ s₃ made e₁ e₂ e₃ e₄ e₅ e₆ e₇ = subst (Framing f) made (record {
      amount = n;
      after_amount = s₁;
      after_conversation = s₂;
      at_end = s₃;
      amount_read = e₁;
      amount-whole = e₂;
      enough = e₃;
      no_more = e₄;
      conversation-read = e₅;
      message_read = e₆;
      user = e₇;
      from_is = refl;
    })

pub framed_is : (f : List ℕ) (old : Frame) → Octets f → frame f ≡ ok old → Framed f old
unfolding frame
framed_is f old x e =
    let r = reads whole_frame f old e in
    let g = framing f old r.state r.read in
    let a = took (integer-leaf wide32) (start f) x g.amount g.after_amount g.amount_read in
    let b = took (integer-leaf wide32) g.after_amount a.rest_octets old.conversation g.after_conversation g.conversation-read in
    let w = whole_is g.after_conversation g.at_end old.said g.message_read in
    let t = (outermost-sound g.after_conversation).sound b.rest_octets old.said g.at_end w.0 in
    let clean : g.after_conversation.env ≡ fresh = b.env_same ∙ a.env_same in
    let all : g.after_conversation.left ≡ spell old.said = t.1.split ∙ ap (λ (l : List ℕ). t.0 ++ l) w.1 ∙ append-nil t.0 ∙ t.2.1 in
    let rest : g.after_amount.left ≡ spell_int old.conversation ++ spell old.said = b.split ∙ ap (λ (l : List ℕ). spell_int old.conversation ++ l) all in
    let count : g.amount ≡ pos (length (spell_int old.conversation ++ spell old.said)) =
    counted g.amount g.after_amount.left g.amount-whole g.enough g.no_more ∙ ap (λ (l : List ℕ). pos (length l)) rest in
    record {
      short = r.short;
      conversation_fits = b.has;
      valid = record { outermost = t.2.0; shaped = t.2.2.shaped; deep = t.2.2.deep; named = subst (λ (z : Env). Named z (child_of 0 old.said empty)) clean t.2.2.named };
      user = g.user;
      spelt = sym (a.split ∙ ap₂ (λ (z : ℤ) (l : List ℕ). spell_int z ++ l) count rest);
      from_is = g.from_is ∙ b.moved ∙ ap (λ (n : ℕ). n + length (spell_int old.conversation)) (a.moved ∙ zero-add (length (spell_int g.amount)) ∙ ap (λ (z : ℤ). length (spell_int z)) count);
    }
  where
    counted : (n : ℤ) (l : List ℕ) → non_neg n ≡ true → leb (mag n) (length l) ≡ true → leb (length l) (mag n) ≡ true → n ≡ pos (length l)
    counted n l h k m = sym (pos-mag n h) ∙ ap pos (omega (arith, leb-true (mag n) (length l) k, leb-true (length l) (mag n) m))

afresh-read : (c : ℤ) (v : Value) → Int32 c → Valid v → is_user v ≡ true → length (afresh c v) ≤ most_octets → frame (afresh c v) ≡ ok (record { conversation = c; from = message_place c v; said = v })
unfolding frame whole_frame here ahead return require ◌>>=◌
afresh-read c v fits valid user short =
    let n = pos (length (spell_int c ++ spell v)) in
    let few : length (spell_int c ++ spell v) ≤ most_octets = omega (arith, length-append (spell_int n) (spell_int c ++ spell v)) in
    let one = (integer-does wide32 enough32 n fresh (omega arith)).does 0 (spell_int c ++ spell v) in
    let two = (integer-does wide32 enough32 c fresh fits).does (0 + length (spell_int n)) (spell v) in
    let three = whole-does v (0 + length (spell_int n) + length (spell_int c)) valid in
    let same = le-leb (length (spell_int c ++ spell v)) (length (spell_int c ++ spell v)) (omega arith) in
    let end : State = record { at = 0 + length (spell_int n) + length (spell_int c) + length (spell v); left = []; env = past fresh v } in
    let place : 0 + length (spell_int n) + length (spell_int c) ≡ message_place c v = omega arith in
    reads_so whole_frame (afresh c v) (record { conversation = c; from = message_place c v; said = v })
    (record { short = short; state = end; read = rw (one, same, two, three, user) (ap (λ (m : ℕ). got (record { conversation = c; from = m; said = v }) end) place) })

-- a frame is accepted exactly if it is written afresh of a valid value of a user type, of at most 65,535 octets
pub frame-exactly : (f : List ℕ) (old : Frame) → Octets f → frame f ≡ ok old ↔ Framed f old
frame-exactly f old x = (
  framed_is f old x,
  λ g.
      let c = old.conversation in
      let v = old.said in
      subst (λ (l : List ℕ). frame l ≡ ok old) g.spelt
      (afresh-read c v g.conversation_fits g.valid g.user (subst (λ (l : List ℕ). length l ≤ most_octets) (sym g.spelt) g.short) ∙ ap (λ (m : ℕ). ok (record { conversation = c; from = m; said = v })) (sym g.from_is)),
)

-- from its place on, a frame is a message on its own, which says what the frame says
pub frame-says : (f : List ℕ) (old : Frame) → Framed f old → (drop old.from f ≡ spell old.said) × (message (spell old.said) ≡ ok old.said)
frame-says f old g =
    let c = old.conversation in
    let rest = spell_int c ++ spell old.said in
    let count = spell_int (pos (length rest)) in
    let before : length (count ++ spell_int c) ≡ old.from = length-append count (spell_int c) ∙ sym g.from_is in (
      ap (drop old.from) (sym g.spelt ∙ sym (append_assoc count (spell_int c) (spell old.said))) ∙ drop_at (count ++ spell_int c) (spell old.said) old.from before,
      valid-accepted old.said g.valid (omega (arith, g.short, ap length g.spelt, length-append count rest, length-append (spell_int c) (spell old.said))),
    )

-- the frame written afresh of a value of the grammar's shape says just that, if it is accepted
pub afresh-only : (c : ℤ) (v : Value) (new : Frame) → Whole false v.top → Shaped v → frame (afresh c v) ≡ ok new → (new.conversation ≡ c) × (new.said ≡ v)
unfolding frame
afresh-only c v new w q e =
    let r = reads whole_frame (afresh c v) new e in
    let g = framing (afresh c v) new r.state r.read in
    let a = (integer-only wide32 (pos (length (spell_int c ++ spell v)))).only (start (afresh c v)) (spell_int c ++ spell v) refl g.amount g.after_amount g.amount_read in
    let b = (integer-only wide32 c).only g.after_amount (spell v) a.1 new.conversation g.after_conversation g.conversation-read in
    let d = (outermost-only v w q).only g.after_conversation [] (b.1 ∙ sym (append-nil (spell v))) new.said g.at_end (whole_is g.after_conversation g.at_end new.said g.message_read).0 in
    (b.0, d.0)
