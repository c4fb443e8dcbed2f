-- Octets written in parts.
use mathlib.Core.Path.{◌≡◌, refl, sym, ap, ◌∙◌}
use mathlib.Core.List.{List, [], ◌∷◌, ◌++◌}
use Prim.Native.Nat.{ℕ, suc, ◌+◌, ◌<◌, ◌≤◌}
use native.Mathlib.Omega.{arith}
use lib.ListN.{length, take, drop, set, length-set, length-append}
use lib.Seq.{sets, set_comm, length-sets, sets-eq, take-append_seam}
use Rattle.integer.specs.Writes.{Room, Wrote}
use Rattle.integer.proofs.Writes.{wrote-more, room-one, room-more}

-- a store before a run of stores
pub set-sets : (vs l : List ℕ) (i j b : ℕ) → i < j → set (sets l j vs) i b ≡ sets (set l i b) j vs
set-sets [] l i j b h = refl
set-sets (a ∷ vs) l i j b h = set-sets vs (set l j a) i (suc j) b (omega arith) ∙ ap (λ (r : List ℕ). sets r (suc j) vs) (set_comm l j i a b (λ e. omega arith))

-- one run of stores after another
pub sets-append : (u v l : List ℕ) (i : ℕ) → sets l i (u ++ v) ≡ sets (sets l i u) (i + length u) v
sets-append [] v l i = let e : i + 0 ≡ i = omega arith in rw e
sets-append (a ∷ u) v l i = let e : i + suc (length u) ≡ suc i + length u = omega arith in sets-append u v (set l i a) (suc i) ∙ rw e

-- what was written at the front
pub wrote-front : {v l : List ℕ} {n : ℕ} {after : List ℕ} → Wrote v 0 l n after → length v ≤ length l → take n after ≡ v
wrote-front {v} {l} {n} w h =
    let all : n ≡ length v = omega (arith, w.past) in
    rw (all, w.holds, sets-eq v l 0 (omega arith)) (take-append_seam v (drop (0 + length v) l))

-- one text after another
pub wrote-append : {u v l some after : List ℕ} {at mid end : ℕ} → Wrote u at l mid some → Wrote v mid some end after → Wrote (u ++ v) at l end after
wrote-append {u} {v} {l} {some} {after} {at} {mid} x y = record {
  past = omega (arith, x.past, y.past, length-append u v);
  holds = y.holds ∙ ap (λ (l : List ℕ). sets l mid v) x.holds ∙ ap (λ (i : ℕ). sets (sets l at u) i v) x.past ∙ sym (sets-append u v l at);
}

pub wrote_kept : {v l after : List ℕ} {at end : ℕ} → Wrote v at l end after → length after ≡ length l
wrote_kept {v} {l} {at = at} w = ap length w.holds ∙ length-sets l at v

-- v is to be written from `at` on into l. Of it `left` is left, from `next` on, where the slice holds `out`.
pub record Left (v : List ℕ) (at : ℕ) (l left : List ℕ) (next : ℕ) (out : List ℕ) : Type 0 where
  pub rest : {end : ℕ} {after : List ℕ} → Wrote left next out end after → Wrote v at l end after
  pub room : Room left next out
  pub kept : length out ≡ length l

pub left-all : {v : List ℕ} {at : ℕ} {l : List ℕ} → Room v at l → Left v at l v at l
left-all h = record { rest = λ w. w; room = h; kept = refl }

module _ {v : List ℕ} {at : ℕ} {l left : List ℕ} {next : ℕ} {out : List ℕ} (k : Left v at l left next out) where
  -- one octet is written
  pub left_one : {b : ℕ} {vs : List ℕ} → left ≡ b ∷ vs → Left v at l vs (next + 1) (set out next b)
  left_one {b} e = record { rest = λ w. k.rest (wrote-more e w); room = room-more e k.room; kept = length-set out next b ∙ k.kept }

  pub left-place : {b : ℕ} {vs : List ℕ} → left ≡ b ∷ vs → next < length out
  left-place e = room-one e k.room

  pub left-within : {b : ℕ} {vs : List ℕ} → left ≡ b ∷ vs → next < length l
  left-within e = omega (arith, left-place e, k.kept)

  -- a part is written
  pub left-part : {u : List ℕ} (vs : List ℕ) {mid : ℕ} {some : List ℕ} → left ≡ u ++ vs → Wrote u next out mid some → Left v at l vs mid some
  left-part {u} vs {mid} {some} e w = record {
    rest = λ {end} {after} x. k.rest (rw e (record {
      past = omega (arith, w.past, x.past, length-append u vs);
      holds = x.holds ∙ rw (w.holds, w.past) (sym (sets-append u vs out next));
    }));
    room = record { room = omega (arith, w.past, k.room.room, ap length e, length-append u vs, same) };
    kept = same ∙ k.kept;
  }
    where
      same : length some ≡ length out
      same = ap length w.holds ∙ length-sets out next u

  pub left-fits : (u vs : List ℕ) → left ≡ u ++ vs → Room u next out
  left-fits u vs e = record { room = omega (arith, k.room.room, ap length e, length-append u vs) }

  -- a part fits after one octet
  pub left_after : {b to : ℕ} (u vs : List ℕ) (x : ℕ) → left ≡ b ∷ (u ++ vs) → to ≤ next + 1 → Room u to (set out next x)
  left_after u vs x e h = record { room = omega (arith, k.room.room, ap length e, length-append u vs, length-set out next x) }

  -- all is written
  pub left-none : left ≡ [] → Wrote v at l next out
  left-none e = k.rest (rw e (record { past = omega arith; holds = refl }))
