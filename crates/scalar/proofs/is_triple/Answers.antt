use mathlib.Core.Path.{sym}
use native.Mathlib.Omega.{arith}
use borrow.Author.Tests.{leb-true, leb-false}
use Rattle.scalar.proofs.Chars.{char-no, char-if, is-three, three-told}
use Rattle.scalar.proofs.is_triple.Goals as goal

pub returns-then-b-ne2 : goal.returns-then-b-ne2
returns-then-b-ne2 c = char-no _ λ t. c.if-b-ne2.true (three-told _ _ _ t).second

pub returns-then-c-ne2 : goal.returns-then-c-ne2
returns-then-c-ne2 c = char-no _ λ t. c.if-c-ne2.true (three-told _ _ _ t).third

pub returns-then-a-gt224 : goal.returns-then-a-gt224
returns-then-a-gt224 c = sym (is-three _ _ _ (omega arith) (omega arith) (omega arith) (omega arith) (omega arith))

pub returns : goal.returns
returns c = char-if _ _ (λ e. is-three _ _ _ (omega arith) (omega arith) (omega arith) (omega arith) (omega (arith, leb-true _ _ e))) (λ e t. omega (arith, (three-told _ _ _ t).far, leb-false _ _ e))
