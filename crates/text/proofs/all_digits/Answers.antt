use mathlib.Core.Path.{◌∙◌}
use Rattle.std.proofs.Common.{rules, tests}
use Rattle.std.proofs.lemmas.Iterator.{YieldsList-from_slice}
use Rattle.std.proofs.lemmas.Iterator.Search.{all_from_yields_List}
use Rattle.format.specs.Desk.{is_digit}
use Rattle.format.proofs.Every.{every-all}
use Rattle.text.proofs.all_digits.Goals as goal

pub returns : goal.returns
returns c = all_from_yields_List is_digit _ _ c.all.result c.all.ensures.ran (YieldsList-from_slice c.args.line.now cc) (λ x b q k. search (rules, tests)) ∙ every-all is_digit c.args.line.now
