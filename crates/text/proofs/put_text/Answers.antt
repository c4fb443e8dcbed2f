use mathlib.Core.Path.{◌≡◌, refl, sym, ◌∙◌, ap}
use mathlib.Core.List.{List, ◌++◌, append_assoc}
use Prim.Native.Nat.{ℕ, ◌+◌, ◌-◌}
use native.Mathlib.Omega.{arith}
use lib.ListN.{length, take, drop}
use lib.Seq.{sets-eq, drop-drop}
use Rattle.text.proofs.put_text.Goals as goal

pub returns : goal.returns
returns c =
    let l : List ℕ = c.args.out.now in
    let v : List ℕ = c.args.text.now in
    let n : c.args.at + length v - c.args.at ≡ length v = omega arith in
    let stored = append_assoc (take c.args.at l) v (drop (c.args.at + length v) l) ∙ ap (λ (e : List ℕ). take c.args.at l ++ (v ++ e)) (sym (drop-drop (length v) c.args.at l)) in
    record { past = refl; holds = rw (c.copy_from_slice.ensures.after, n) (sym (sets-eq v l c.args.at c.requires.room ∙ stored)) }
