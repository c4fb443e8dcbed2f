-- The lines of rows, one after another; and the text for a frame and for a line.
use Rattle.std.specs.Prelude.{Result, Ok, Err}
use mathlib.Core.Path.{◌≡◌, refl, sym, ap, subst, ◌∙◌}
use mathlib.Core.Bool.{true, false}
use mathlib.Core.List.{List, ◌++◌}
use Prim.Native.Nat.{ℕ, ◌+◌, ◌^◌, ◌≤◌, ◌<◌}
use native.Mathlib.Omega.{arith}
use lib.ListN.{length, take}
use lib.IntN.{ℤ}
use lib.Signed.{mag}
use Rattle.reading.specs.declared.Refusal.{Refusal}
use Rattle.reading.specs.Reading.{refusal}
use Rattle.reading.proofs.Sound.{Octets}
use Rattle.format.specs.declared.Row.{Row}
use Rattle.format.specs.Message.{Answer, ok, refused, then, read_frame}
use Rattle.format.specs.Desk.{row_text, rows_text, printed, is_line, octets_of, line_text}
use Rattle.format.specs.Writing.{Table, row_at, tabled}
use Rattle.integer.specs.Writes.{Room, Wrote}
use Rattle.laws.proofs.Theorems.{read-frame-exactly}
use Rattle.columns.specs.Columns.{Roomy, Filled}
use Rattle.columns.specs.Columns.{shortest}
use Rattle.message.specs.Messages.{Holds}
use Rattle.message.proofs.Messages.{same-refused, same_ok}
use Rattle.frame.specs.declared.FramePlace.{FramePlace}
use Rattle.frame.specs.declared.Frame.{Frame}
use Rattle.frame.specs.Frames.{answer_of, told, rows_of, FrameRead}
use Rattle.text.specs.Text.{accepted}
use Rattle.text.proofs.Digits.{line-most}
use Rattle.text.proofs.Writes.{wrote-front, wrote-append, wrote_kept}
use Rattle.text.proofs.Lengths.{row-length, accepted-length, refused-length, accepted-first}
use Rattle.columns.specs.Columns.{RowOf}
use Rattle.records.proofs.Records.{filled-rows, filled-room, last-text}
use Rattle.listing.specs.Listing.{Fits, RowsListed, Listed}

-- ---- rows one after another

one_more : (t : Table) (n : ℕ) → rows_text (tabled t 0 (n + 1)) ≡ rows_text (tabled t 0 n) ++ row_text (row_at t n)
unfolding rows_text
one_more t n = let z : 0 + n ≡ n = omega arith in last-text row_text rows_text refl (λ r rs. refl) t 0 n ∙ ap (λ (k : ℕ). rows_text (tabled t 0 n) ++ row_text (row_at t k)) z

pub rowed-none : (t : Table) {at : ℕ} {l : List ℕ} → RowsListed t at l 0 at l
unfolding rows_text tabled
rowed-none t = record { wrote = record { past = omega arith; holds = refl }; few = omega arith }

module _ {t : Table} {at : ℕ} {l : List ℕ} {k next : ℕ} {out : List ℕ} (w : RowsListed t at l k next out) {r : Row} (h : RowOf t k r) where
  pub rowed-room : {n : ℕ} → Fits at n l → k < n → Room (row_text r) next out
  rowed-room f g = record { room = omega (arith, w.few, f.fits, g, row-length h.held, wrote_kept w.wrote) }

  pub rowed-again : {end : ℕ} {after : List ℕ} → Wrote (row_text r) next out end after → RowsListed t at l (k + 1) end after
  rowed-again {end} {after} x = record {
    wrote = subst (λ (v : List ℕ). Wrote v at l end after) (ap (λ (q : Row). rows_text (tabled t 0 k) ++ row_text q) h.same ∙ sym (one_more t k)) (wrote-append w.wrote x);
    few = omega (arith, w.few, x.past, row-length h.held);
  }

pub rowed-all : {t : Table} {at n k next : ℕ} {l out : List ℕ} → n ≤ k → (k ≤ n) × RowsListed t at l k next out → RowsListed t at l n next out
rowed-all {t} {at} {n} {k} {next} {l} {out} h w = let e : k ≡ n = omega (arith, h, w.0) in subst (λ (k : ℕ). RowsListed t at l k next out) e w.1

-- ---- the text for a frame

pub room-28 : (q : Refusal) {at : ℕ} {l : List ℕ} → q.place < 2 ^ 64 → at + 32768 ≤ length l → Room (printed (refused q)) at l
room-28 q g k = record { room = omega (arith, refused-length q g, k) }

pub room-36 : {c z : ℤ} {n at : ℕ} {l : List ℕ} → z ≡ c → mag c < 2 ^ 31 → n < 2 ^ 64 → at + 32768 ≤ length l → Room (accepted z n) at l
room-36 {c} {z} {n} e h g k = record { room = omega (arith, accepted-length z n (subst (λ (c : ℤ). mag c < 2 ^ 31) (sym e) h) g, k) }

-- what a reading into columns gives, by the rows that they are lent for
module _ (o : List ℕ) {t t' : Table} {x : Result Frame Refusal} (h : FrameRead o t x t') {lim : ℕ} (s : shortest t ≡ lim) where
  by-limit : answer_of x ≡ then (read_frame lim o) told
  by-limit = subst (λ (k : ℕ). answer_of x ≡ then (read_frame k o) told) s h.says

  pub frame_refused : {q : Refusal} → x ≡ Err q → read_frame lim o ≡ refused q
  frame_refused {q} e = by (read_frame lim o) (ap answer_of (sym e) ∙ by-limit)
    where
      by : (y : Answer (ℤ × ℕ × List Row)) → refused q ≡ then y told → y ≡ refused q
      by (ok a) k = let z : ◌≡◌ {A = ℕ} 0 1 = cc in absurd (omega arith)
      by (refused p) k = ap refused (sym (same-refused k))

  module _ {from : FramePlace} {n : ℕ} {c : ℤ} (e : x ≡ Ok (record { message = from; rows = n; conversation = c })) where
    pub frame-given : (a : ℤ × ℕ × List Row) × (read_frame lim o ≡ ok a) × (c ≡ a.0) × (n ≡ length a.2)
    frame-given = by (read_frame lim o) refl (ap answer_of (sym e) ∙ by-limit)
      where
        by : (y : Answer (ℤ × ℕ × List Row)) → read_frame lim o ≡ y → ok (c, from.0, n) ≡ then y told → (a : ℤ × ℕ × List Row) × (read_frame lim o ≡ ok a) × (c ≡ a.0) × (n ≡ length a.2)
        by (ok a) k h = let w = same_ok h in (a, k, ap (λ (a : ℤ × ℕ × ℕ). a.0) w, ap (λ (a : ℤ × ℕ × ℕ). a.2) w)
        by (refused p) k h = let z : ◌≡◌ {A = ℕ} 0 1 = cc in absurd (omega arith)

    -- the columns hold the rows
    filled : Filled 0 frame-given.0.2 t t'
    filled = subst (λ (y : Answer (List Row)). Holds y t t') (ap (λ (k : ℕ). then (read_frame k o) rows_of) s ∙ ap (λ (y : Answer (ℤ × ℕ × List Row)). then y rows_of) frame-given.1) h.holds

    pub frame-rows : tabled t' 0 n ≡ frame-given.0.2
    frame-rows = ap (tabled t' 0) frame-given.3 ∙ filled-rows filled

    pub frame-room : Roomy n t'
    frame-room = subst (λ (m : ℕ). Roomy m t') (sym frame-given.3) (filled-room filled)

module _ (o : List ℕ) {t t' : Table} {x : Result Frame Refusal} (h : FrameRead o t x t') (s : shortest t ≡ 256) where
  pub listed-refused : {q : Refusal} {at next : ℕ} {l out : List ℕ} → x ≡ Err q → q.place < 2 ^ 64 → Wrote (printed (refused q)) at l next out → Listed (printed (read_frame 256 o)) at l next out
  listed-refused {q} {at} {next} {l} {out} e k w =
      subst (λ (y : Answer (ℤ × ℕ × List Row)). Listed (printed y) at l next out) (sym (frame_refused o h s e)) (record { wrote = w; short = omega (arith, refused-length q k) })

  module _ {from : FramePlace} {n : ℕ} {c : ℤ} (e : x ≡ Ok (record { message = from; rows = n; conversation = c })) (b : Octets o) {z : ℤ} (q : z ≡ c) (g : mag c < 2 ^ 31) {at mid : ℕ} {l some : List ℕ} (w : Wrote (accepted z n) at l mid some) where
    abbrev given : (a : ℤ × ℕ × List Row) × (read_frame 256 o ≡ ok a) × (c ≡ a.0) × (n ≡ length a.2)
    given = frame-given o h s e

    few : n ≤ 256
    few = omega (arith, given.3, ((read-frame-exactly 256 o _ _ given.0.2 b).0 given.1).5)

    short : length (accepted z n) ≤ 36
    short = accepted-length z n (subst (λ (c : ℤ). mag c < 2 ^ 31) (sym q) g) (omega (arith, few))

    pub rows_fit : at + 32768 ≤ length l → Roomy n t' × Fits mid n some
    rows_fit k = (frame-room o h s e, record { fits = omega (arith, w.past, short, few, k, wrote_kept w) })

    pub listed-rows : {next : ℕ} {out : List ℕ} → RowsListed t' mid some n next out → Listed (printed (read_frame 256 o)) at l next out
    listed-rows {next} {out} r =
        let both = wrote-append w r.wrote in
        let all = subst (λ (v : List ℕ). Listed v at l next out) same (record { wrote = both; short = omega (arith, both.past, w.past, r.few, few, short) }) in
        subst (λ (y : Answer (ℤ × ℕ × List Row)). Listed (printed y) at l next out) (sym given.1) all
      where
        same : accepted z n ++ rows_text (tabled t' 0 n) ≡ printed (ok given.0)
        same = ap (λ (z : ℤ). accepted z n ++ rows_text (tabled t' 0 n)) (q ∙ given.2) ∙ ap (λ (k : ℕ). accepted given.0.0 k ++ rows_text (tabled t' 0 n)) given.3
            ∙ ap (λ (rs : List Row). accepted given.0.0 (length given.0.2) ++ rows_text rs) (frame-rows o h s e) ∙ sym (accepted-first given.0)

-- ---- the text for a line

-- the octets of a line
pub line-octets : (line : List ℕ) {l after : List ℕ} {n : ℕ} → is_line line ≡ true → Wrote (octets_of line) 0 l n after → 4096 ≤ length l → (take n after ≡ octets_of line) × (n ≤ length after)
line-octets line e w k = let few = line-most line e in (wrote-front w (omega (arith, few, k)), omega (arith, w.past, few, k, wrote_kept w))

module _ (line : List ℕ) {l out : List ℕ} {at next : ℕ} where
  pub listed-other : is_line line ≡ false → Wrote (printed (refused (refusal 17 0))) at l next out → Listed (line_text line) at l next out
  unfolding line_text
  listed-other e w = rw e (record { wrote = w; short = omega (arith, refused-length (refusal 17 0) (omega arith)) })

  pub listed-line : {o : List ℕ} → is_line line ≡ true → o ≡ octets_of line → Listed (printed (read_frame 256 o)) at l next out → Listed (line_text line) at l next out
  unfolding line_text
  listed-line e k w = rw (e, sym k) w
