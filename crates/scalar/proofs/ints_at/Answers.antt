use Rattle.std.proofs.lemmas.List.{length-replicate}
use native.Mathlib.Omega.{arith}
use Rattle.std.proofs.Common.{rules, ◌≡◌, Err}
use Rattle.scalar.proofs.Passing.{read-small}
use Rattle.scalar.proofs.Moments.{turn-first, turn-again, turn-stop, turn-last, kept}
use Rattle.scalar.proofs.ints_at.Goals as goal

pub loop-k-init : goal.loop-k-init
loop-k-init g c = turn-first _ _ _ _ (length-replicate _ _)

pub bounds-values-k : goal.bounds-values-k
bounds-values-k g c = c.loop-k-test.true

pub loop-k-preserved : goal.loop-k-preserved
loop-k-preserved g c = let small = read-small c.int_at.ensures c.in_ok-past.was (λ i. (c.type_inv.src i).fits) in rw (kept c.in_ok-past.v small) (turn-again c.loop-k.invariant c.loop-k-test.true c.int_at.ensures small c.in_ok-past.was)

pub returns-in_err-past : goal.returns-in_err-past
returns-in_err-past g c =
    let q : c.from_residual.result ≡ Err c.in_err-past.field-0.0 = search rules in
    rw q (turn-stop c.loop-k.invariant c.loop-k-test.true c.int_at.ensures c.in_err-past.was)

pub returns : goal.returns
returns g c = turn-last c.loop-k.invariant c.requires (omega arith)
