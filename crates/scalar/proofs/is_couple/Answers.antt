use mathlib.Core.Path.{◌≡◌, sym}
use native.Mathlib.Omega.{arith}
use borrow.Author.Tests.{eqb-true, eqb-false}
use Rattle.scalar.proofs.Chars.{char-no, char-if, is-two, is-null, two-told}
use Rattle.scalar.proofs.is_couple.Goals as goal

pub returns-then-b-ne2 : goal.returns-then-b-ne2
returns-then-b-ne2 c = char-no _ λ t. c.if-b-ne2.true (two-told _ _ t).second

pub returns-then-a-gt193 : goal.returns-then-a-gt193
returns-then-a-gt193 c = sym (is-two _ _ (omega arith) (omega arith) (omega arith))

pub returns-then-a-eq193 : goal.returns-then-a-eq193
returns-then-a-eq193 c = char-no _ λ t. omega (arith, (two-told _ _ t).far (omega arith))

pub returns : goal.returns
returns c = char-if _ _ (λ e. is-null (omega arith) (eqb-true _ _ e)) (λ e t. let n : c.args.b ≡ 128 → ⊥ = eqb-false _ _ e in omega (arith, (two-told _ _ t).far (omega arith)))
