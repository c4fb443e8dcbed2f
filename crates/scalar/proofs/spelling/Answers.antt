use native.Mathlib.Omega.{arith}
use Rattle.scalar.proofs.Chars.{counted, spells_one, spells-two, spells-three, misspelt-two, misspelt-three, two-told, three-told}
use Rattle.scalar.proofs.spelling.Goals as goal

pub returns-then-a-lt128 : goal.returns-then-a-lt128
returns-then-a-lt128 c = spells_one _ _ _ c.requires.0 c.requires.1 c.if-a-lt128.true (counted _ _ c.then_some.ensures c.is_single.ensures)

pub returns-then-a-lt192 : goal.returns-then-a-lt192
returns-then-a-lt192 c = misspelt-two _ _ _ c.requires.0 c.requires.1 c.if-a-lt128.false (omega arith) λ w t. omega (arith, (two-told _ _ t).low)

pub returns-then-a-gt239 : goal.returns-then-a-gt239
returns-then-a-gt239 c = misspelt-three _ _ _ c.requires.0 c.requires.1 (omega arith) λ w t. omega (arith, (three-told _ _ _ t).high)

pub returns-then-end-at-lt2 : goal.returns-then-end-at-lt2
returns-then-end-at-lt2 c = misspelt-two _ _ _ c.requires.0 c.requires.1 c.if-a-lt128.false (omega arith) λ w t. omega arith

pub returns-then-a-lt224 : goal.returns-then-a-lt224
returns-then-a-lt224 c = spells-two _ _ _ c.requires.0 c.requires.1 (omega arith) (omega arith) (omega arith) (counted _ _ c.then_some-then-a-lt224.ensures c.is_couple.ensures)

pub returns-then-end-at-lt3 : goal.returns-then-end-at-lt3
returns-then-end-at-lt3 c = misspelt-three _ _ _ c.requires.0 c.requires.1 (omega arith) λ w t. omega arith

pub returns : goal.returns
returns c = spells-three _ _ _ c.requires.0 c.requires.1 (omega arith) (omega arith) (counted _ _ c.then_some-2.ensures c.is_triple.ensures)
