use mathlib.Core.Path.{sym, ◌∙◌}
use native.Mathlib.Omega.{arith}
use Rattle.scalar.proofs.Character.{outside-refused, cut-refused, misspelt-refused, spelt-passed}
use Rattle.scalar.proofs.long_char.Goals as goal

pub returns-then-not-begins : goal.returns-then-not-begins
returns-then-not-begins c = outside-refused _ _ c.requires.0 c.requires.1 (sym c.begins.ensures ∙ c.if-not-begins.true)

pub returns-then-src-at : goal.returns-then-src-at
returns-then-src-at c = cut-refused _ _ c.requires.0 c.requires.1 (sym c.begins.ensures ∙ c.if-not-begins.false) (omega (arith, c.size_of.ensures))

pub returns-in_default : goal.returns-in_default
returns-in_default c = misspelt-refused _ _ c.requires.0 c.requires.1 (sym c.begins.ensures ∙ c.if-not-begins.false) (omega (arith, c.size_of.ensures)) c.spelling.ensures c.in_default.is

pub returns : goal.returns
returns c = spelt-passed _ _ c.requires.0 c.requires.1 (sym c.begins.ensures ∙ c.if-not-begins.false) (omega (arith, c.size_of.ensures)) c.spelling.ensures c.in-Some.is
