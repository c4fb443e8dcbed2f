-- A frame, step by step.
use mathlib.Core.Path.{◌≡◌, refl, sym, ap, subst, ◌∙◌}
use mathlib.Core.Bool.{Bool, true, false}
use mathlib.Core.List.{List}
use Prim.Native.Nat.{ℕ, suc, ◌+◌, ◌-◌, ◌<◌, ◌≤◌}
use native.Mathlib.Omega.{arith}
use lib.ListN.{length, drop, length-drop}
use lib.Dec.{leb}
use lib.IntN.{ℤ, pos}
use lib.Signed.{mag, non_neg}
use borrow.Author.Tests.{le-leb, lt-leb}
use Rattle.std.specs.Prelude.{Result, Ok, Err}
use Rattle.reading.specs.declared.Refusal.{Refusal}
use Rattle.reading.specs.Reading.{State, Out, got, stop, refusal, Reader, stand, follow, ◌>>=◌, ◌>>◌, return, require, here, ahead}
use Rattle.integer.specs.Packed.{wide32, integer}
use Rattle.integer.specs.declared.Signed.{Signed}
use Rattle.integer.specs.declared.Signed.TheVariants.{Positive, Negative}
use Rattle.integer.specs.Answers.{out, Past, Reads, signed, PastSigned, ReadsSigned}
use Rattle.format.specs.Types.{Kind}
use Rattle.format.specs.Values.{Head, Value, front, each, data_of, outermost}
use Rattle.format.specs.Rows.{count}
use Rattle.format.specs.Message.{Answer, ok, refused, then, answer, ends, Frame, is_user, whole_message, whole_frame, frame}
use Rattle.format.proofs.Counts.{value-rows, reading-long, reading-short}
use Rattle.laws.proofs.Steps.{steps, required, past-here, same-result}
use Rattle.measure.specs.Tally.{value_rows}
use Rattle.measure.specs.Cycle.{step_out}
use Rattle.measure.specs.Entries.{none, FirstAt}
use Rattle.measure.proofs.Entries.{ends-left, ends-all, counted-out, refused-out}
use Rattle.frame.specs.declared.FramePlace.{FramePlace}
use Rattle.frame.specs.Frames.{message_in, opened_out, PastOpened, OpenedBy, conversation_out, Conversation, UserAt, answer_of, needed, MessageIn, needs}
use Rattle.frame.specs.declared.Frame.{Frame as Framed}

-- ---- up to the message

-- after the length n, read at p, and after the conversation number
unfoldable after_length : ℕ → ℤ → Reader Frame
after_length p n = do
  require (non_neg n) 5 p
  q ← here
  l ← ahead
  require (leb (mag n) (length l)) 1 (q + length l)
  require (leb (length l) (mag n)) 11 (q + mag n)
  c ← integer wide32
  from ← here
  message_in from c

unfoldable after_conversation : ℤ → Reader Frame
after_conversation c = here >>= λ from. message_in from c

frame-by : (s : State) (x : Out ℤ) → x ≡ integer wide32 s → follow x (after_length s.at) ≡ whole_frame s
unfolding whole_frame after_length message_in ◌>>=◌ here
frame-by s x e = ap (λ (x : Out ℤ). follow x (after_length s.at)) e

-- what was read, by the case of it
pub signed-as : {x : Result (ℕ × Signed) Refusal} {next : ℕ} {z w : Signed} → x ≡ Ok (next, z) → z ≡ w → x ≡ Ok (next, w)
signed-as {next = next} q e = q ∙ ap (λ (z : Signed). Ok (next, z)) e

module _ (o : List ℕ) where
  pub conversation-refused : {at : ℕ} {x : Result (ℕ × ℤ) Refusal} {r : Refusal} → Reads (λ z. z) wide32 o at x → x ≡ Err r → Conversation o at (Err r)
  conversation-refused h e = record { same = ap (out (λ (z : ℤ). z) o none) (sym e) ∙ h.same none; past = tt }

  pub conversation-read : {at next : ℕ} {x : Result (ℕ × ℤ) Refusal} {c z : ℤ} → Reads (λ z. z) wide32 o at x → x ≡ Ok (next, c) → z ≡ c → Conversation o at (Ok (record { 0 = next }, z))
  conversation-read {at} {next} {x} h e k = record {
    same = ap (λ (y : ℤ). got y (stand o next none)) k ∙ ap (out (λ (z : ℤ). z) o none) (sym e) ∙ h.same none;
    past = let q = subst (Past o at) e h.past in q.1;
  }

  module _ {x : Result (ℕ × Signed) Refusal} (h : ReadsSigned o 0 x) where
    pub opened-faulty : {r : Refusal} → x ≡ Err r → OpenedBy o (Err r)
    unfolding stand
    opened-faulty e = record { same = frame-by (stand o 0 none) _ (ap (out signed o none) (sym e) ∙ h.same none); past = tt }

    pub opened-negative : {next n : ℕ} → x ≡ Ok (next, Negative n) → OpenedBy o (Err (refusal 5 0))
    unfolding after_length ◌>>=◌ require stand
    opened-negative e = record { same = frame-by (stand o 0 none) _ (ap (out signed o none) (sym e) ∙ h.same none); past = tt }

    module _ {next n : ℕ} (e : x ≡ Ok (next, Positive n)) where
      bounds : PastSigned o 0 (Ok (next, Positive n))
      bounds = subst (PastSigned o 0) e h.past

      left : length (drop next o) ≡ length o - next
      left = length-drop next o

      begun : after_length 0 (pos n) (stand o next none) ≡ whole_frame (stand o 0 none)
      unfolding stand
      begun = frame-by (stand o 0 none) _ (ap (out signed o none) (sym e) ∙ h.same none)

      short : length o - next < n → after_length 0 (pos n) (stand o next none) ≡ stop (refusal 1 (length o))
      unfolding after_length ◌>>=◌ require here ahead stand
      short k = rw (lt-leb n (length (drop next o)) (omega (arith, left, k))) (ap (λ (p : ℕ). stop (refusal 1 p)) (omega (arith, left, bounds.1)))

      pub opened-short : length o - next < n → OpenedBy o (Err (refusal 1 (length o)))
      opened-short k = record { same = sym (short k) ∙ begun; past = tt }

      over : n < length o - next → after_length 0 (pos n) (stand o next none) ≡ stop (refusal 11 (next + n))
      unfolding after_length ◌>>=◌ require here ahead stand
      over k = rw (le-leb n (length (drop next o)) (omega (arith, left, k)), lt-leb (length (drop next o)) n (omega (arith, left, k)))

      pub opened-over : n < length o - next → OpenedBy o (Err (refusal 11 (next + n)))
      opened-over k = record { same = sym (over k) ∙ begun; past = tt }

      fits : n ≤ length o - next → length o - next ≤ n → after_length 0 (pos n) (stand o next none) ≡ follow (integer wide32 (stand o next none)) after_conversation
      unfolding after_length after_conversation ◌>>=◌ require here ahead stand
      fits a b = rw (le-leb n (length (drop next o)) (omega (arith, left, a)), le-leb (length (drop next o)) n (omega (arith, left, b)))

      goes_on : (r : Result (FramePlace × ℤ) Refusal) → conversation_out o r ≡ integer wide32 (stand o next none) → opened_out o r ≡ follow (integer wide32 (stand o next none)) after_conversation
      unfolding after_conversation ◌>>=◌ here stand
      goes_on (Ok (from, c)) k = ap (λ (x : Out ℤ). follow x after_conversation) k
      goes_on (Err r) k = ap (λ (x : Out ℤ). follow x after_conversation) k

      pub opened : {r : Result (FramePlace × ℤ) Refusal} → n ≤ length o - next → length o - next ≤ n → Conversation o next r → OpenedBy o r
      opened {r} a b c = record { same = goes_on r c.same ∙ sym (fits a b) ∙ begun; past = c.past }

pub next-within : {o : List ℕ} {x : Result (ℕ × Signed) Refusal} {next n : ℕ} → ReadsSigned o 0 x → x ≡ Ok (next, Positive n) → next ≤ length o
next-within {o} h e = (subst (PastSigned o 0) e h.past).1

-- ---- the message

-- a value's type is the identifier that was read
front-type : (k : Kind) (t : ℤ) (own : ℕ) (s : State) (h : Head) (s' : State) → front k t own s ≡ got h s' → h.ty ≡ t
unfolding front return
front-type k t own s h s' e =
    let a = steps _ _ s h s' e in
    let b = steps _ _ a.state h s' a.then in
    let c = steps _ _ b.state h s' b.then in
    let d = steps _ _ c.state h s' c.then in
    ap (λ (x : Head). x.ty) (sym (same-result d.then))

data-type : (lv : ℕ) (t : ℤ) (own p : ℕ) (s : State) (v : Value) (s' : State) → data_of (suc lv) t own p s ≡ got v s' → v.top.ty ≡ t
unfolding data_of return
data-type lv t own p s v s' e =
    let a = steps _ _ s v s' (past-here _ s v s' e) in
    let b = steps _ _ a.state v s' a.then in
    let c = steps _ _ b.state v s' b.then in
    let d = steps _ _ c.state v s' c.then in
    ap (λ (x : Value). x.top.ty) (sym (same-result d.then)) ∙ front-type _ t own s a.result a.state a.did

outermost-type : (s : State) (v : Value) (s' : State) → outermost s ≡ got v s' → (s₁ : State) × (integer wide32 s ≡ got v.top.ty s₁)
unfolding outermost each
outermost-type s v s' e =
    let a = steps (integer wide32) _ s v s' (past-here _ s v s' e) in
    let b = required _ _ _ _ a.state v s' a.then in
    let c = required _ _ _ _ a.state v s' b.1 in
    (a.state, a.did ∙ ap (λ (t : ℤ). got t a.state) (sym (data-type 15 a.result 1 s.at a.state v s' c.1)))

module _ (o : List ℕ) where
  pub user-faulty : {at : ℕ} {x : Result (ℕ × Signed) Refusal} {r : Refusal} → ReadsSigned o at x → x ≡ Err r → UserAt o at false
  user-faulty h e = record { user = λ z s k. let q = ap (out signed o none) (sym e) ∙ h.same none ∙ k in cc }

  pub user-negative : {at next n : ℕ} {x : Result (ℕ × Signed) Refusal} → ReadsSigned o at x → x ≡ Ok (next, Negative n) → UserAt o at false
  user-negative h e = record { user = λ z s k. ap non_neg (same-result (ap (out signed o none) (sym e) ∙ h.same none ∙ k)) }

  pub user-positive : {at next n : ℕ} {x : Result (ℕ × Signed) Refusal} → ReadsSigned o at x → x ≡ Ok (next, Positive n) → UserAt o at true
  user-positive h e = record { user = λ z s k. ap non_neg (same-result (ap (out signed o none) (sym e) ∙ h.same none ∙ k)) }

module _ (o : List ℕ) (from : FramePlace) (c : ℤ) {r : Result (ℕ × ℕ) Refusal} (f : FirstAt o from.0 r) where
  abbrev framed : Value → Reader Frame
  framed v = require (is_user v) 16 0 >>= λ _. return (record { conversation = c; from = from.0; said = v })

  abbrev here_on : Value → Reader Frame
  here_on v = ends >>= λ _. framed v

  abbrev read-on : Value → Reader Value
  read-on v = ends >>= λ _. return v

  by_value : (x : Out Value) → outermost (stand o from.0 none) ≡ x → then (answer (message_in from.0 c (stand o from.0 none))) needed ≡ then (answer (follow x here_on)) needed
  unfolding message_in whole_message ◌>>=◌ return
  by_value x e = ap (λ (y : Out Value). then (answer (follow {B = Frame} (follow {B = Value} y read-on) framed)) needed) e ∙ by x
    where
      ended : (v : Value) (y : Out (Unit {0})) → follow {B = Frame} (follow {B = Value} y (λ _. return v)) framed ≡ follow {B = Frame} y (λ _. framed v)
      ended v (got u s) = refl
      ended v (stop r) = refl

      by : (x : Out Value) → then (answer (follow {B = Frame} (follow {B = Value} x read-on) framed)) needed ≡ then (answer (follow {B = Frame} x here_on)) needed
      by (got v s) = ap (λ (y : Out Frame). then (answer y) needed) (ended v (ends s))
      by (stop r) = refl

  pub message-refused : {q : Refusal} → r ≡ Err q → MessageIn o from c (Err q)
  unfolding value_rows ◌>>=◌
  message-refused {q} e = record { same = sym (by_value (stop q) (refused-out o f.after (outermost (stand o from.0 none)) (ap (step_out o f.after) (sym e) ∙ f.same))) }

  module _ {next n : ℕ} (e : r ≡ Ok (next, n)) where
    accepted : (v : Value) × (outermost (stand o from.0 none) ≡ got v (stand o next f.after)) × (n ≡ suc (count v.inside))
    unfolding value_rows ◌>>=◌
    accepted = counted-out o f.after next n (outermost (stand o from.0 none)) (ap (step_out o f.after) (sym e) ∙ f.same)

    over-value : (v : Value) → next < length o → then (answer (here_on v (stand o next f.after))) needed ≡ refused (refusal 11 next)
    unfolding ◌>>=◌
    over-value v h = ap (λ (x : Out (Unit {0})). then (answer (follow {B = Frame} x (λ _. framed v))) needed) (ends-left o next f.after h)

    pub message-left : next < length o → MessageIn o from c (Err (refusal 11 next))
    message-left h = record { same = sym (by_value _ accepted.1 ∙ over-value accepted.0 h) }

    all_read : (v : Value) (u : Bool) → length o ≤ next → u ≡ is_user v → here_on v (stand o next f.after) ≡ (require u 16 0 >>= λ _. return (record { conversation = c; from = from.0; said = v })) (stand o next f.after)
    unfolding ◌>>=◌ require
    all_read v u h k = ap (λ (x : Out (Unit {0})). follow {B = Frame} x (λ _. framed v)) (ends-all o next f.after h) ∙ rw k

    module _ {u : Bool} (user : UserAt o from.0 u) (h : length o ≤ next) where
      judged : then (answer (message_in from.0 c (stand o from.0 none))) needed ≡ then (answer ((require u 16 0 >>= λ _. return (record { conversation = c; from = from.0; said = accepted.0 })) (stand o next f.after))) needed
      judged = by_value _ accepted.1 ∙ ap (λ (y : Out Frame). then (answer y) needed) (all_read accepted.0 u h (user.user _ _ (outermost-type _ _ _ accepted.1).1))

      pub message-alien : u ≡ false → MessageIn o from c (Err (refusal 16 0))
      unfolding ◌>>=◌ require
      message-alien k = record { same = sym (judged ∙ rw k) }

      pub message-rows : {z : ℤ} → z ≡ c → u ≡ true → MessageIn o from c (Ok (record { message = from; rows = n; conversation = z }))
      unfolding ◌>>=◌ require return
      message-rows {z} q k = record { same = sym (judged ∙ rw (k, q) (ap (λ (m : ℕ). ok (c, from.0, m)) (value-rows accepted.0 ∙ sym accepted.2))) }

-- ---- the frame

module _ (o : List ℕ) where
  by-frame : length o ≤ 65535 → needs o ≡ then (answer (whole_frame (stand o 0 none))) needed
  unfolding needs frame
  by-frame s = ap (λ (x : Answer Frame). then x needed) (reading-short whole_frame o s)

  pub frame-long : 65535 < length o → refused (refusal 2 0) ≡ needs o
  unfolding needs frame
  frame-long h = sym (ap (λ (x : Answer Frame). then x needed) (reading-long whole_frame o h))

  module _ {x : Result (FramePlace × ℤ) Refusal} (h : OpenedBy o x) (s : length o ≤ 65535) where
    pub frame_refused : {r : Refusal} → x ≡ Err r → refused r ≡ needs o
    frame_refused e = sym (by-frame s ∙ ap (λ (y : Out Frame). then (answer y) needed) (sym h.same ∙ ap (opened_out o) e))

    pub message-starts : {from : FramePlace} {c : ℤ} → x ≡ Ok (from, c) → from.0 ≤ length o
    message-starts e = subst (PastOpened o) e h.past

    pub frame-read : {from : FramePlace} {c z : ℤ} {r : Result Framed Refusal} → x ≡ Ok (from, c) → z ≡ c → MessageIn o from z r → answer_of r ≡ needs o
    frame-read {from} {r = r} e q w = let m = subst (λ (y : ℤ). MessageIn o from y r) q w in m.same ∙ sym (by-frame s ∙ ap (λ (y : Out Frame). then (answer y) needed) (sym h.same ∙ ap (opened_out o) e))
