use native.Mathlib.Omega.{arith}
use Rattle.queries.proofs.Split.{word-not, word-last}
use Rattle.queries.proofs.last_word.Goals as goal

pub returns-in-Some : goal.returns-in-Some
returns-in-Some c = word-not c.args.line.now c.args.at c.requires c.in-Some.ensures.0 c.in-Some.ensures.1

pub returns-in-None : goal.returns-in-None
returns-in-None c = word-last c.args.line.now c.args.at c.requires c.in-None.ensures (omega arith) c.word_of.ensures
