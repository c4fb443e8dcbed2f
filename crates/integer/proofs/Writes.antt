-- A run of octets, `b` and then `vs`, that is written by one store and a call for what is left.
use mathlib.Core.Path.{◌≡◌, refl, ap, ◌∙◌}
use mathlib.Core.List.{List, [], ◌∷◌}
use Prim.Native.Nat.{ℕ, ◌+◌, ◌<◌}
use native.Mathlib.Omega.{arith}
use native.Mathlib.Numerals.{add-one}
use lib.ListN.{length, set, length-set}
use Rattle.integer.specs.Writes.{Room, Wrote}

pub wrote-last : {v : List ℕ} {b : ℕ} (l : List ℕ) (at : ℕ) → v ≡ b ∷ [] → Wrote v at l (at + 1) (set l at b)
wrote-last l at e = rw e (record { past = refl; holds = refl })

pub wrote-more : {v vs l : List ℕ} {b at next : ℕ} {after : List ℕ} → v ≡ b ∷ vs → Wrote vs (at + 1) (set l at b) next after → Wrote v at l next after
wrote-more e w = rw e (record { past = omega (arith, w.past); holds = w.holds ∙ rw add-one })

pub room-one : {v vs l : List ℕ} {b at : ℕ} → v ≡ b ∷ vs → Room v at l → at < length l
room-one e h = omega (arith, ap length e, h.room)

pub room-more : {v vs l : List ℕ} {b at : ℕ} → v ≡ b ∷ vs → Room v at l → Room vs (at + 1) (set l at b)
room-more {l} {b} {at} e h = record { room = omega (arith, ap length e, h.room, length-set l at b) }
