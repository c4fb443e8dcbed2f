-- Octets moved to the front.
use mathlib.Core.Path.{◌≡◌, sym, ap, ◌∙◌}
use mathlib.Core.List.{List, ◌++◌}
use Prim.Native.Nat.{ℕ, ◌+◌, ◌-◌, ◌≤◌}
use native.Mathlib.Omega.{arith}
use lib.ListN.{length, take, drop, length-drop}
use lib.Seq.{take-append_seam, length-take-le}
use Rattle.std.specs.List.{copy_within}
use Rattle.input.specs.Input.{Moved}

pub moved : {l after : List ℕ} {from end : ℕ} → (from ≤ end) × (end ≤ length l) → after ≡ copy_within l from end 0 → Moved l from end (end - from) after
moved {l} {after} {from} {end} h e =
    let n : ℕ = end - from in
    let front : List ℕ = take n (drop from l) in
    let long : length front ≡ n = length-take-le n (drop from l) (omega (arith, length-drop from l, h)) in
    record { many = omega (arith, h); front = ap (take n) e ∙ ap (λ (k : ℕ). take k (front ++ drop (0 + n) l)) (sym long) ∙ take-append_seam front (drop (0 + n) l) }
