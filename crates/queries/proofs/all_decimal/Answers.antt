use mathlib.Core.Path.{◌∙◌}
use Rattle.std.proofs.Common.{rules, tests}
use Rattle.std.proofs.lemmas.Iterator.{YieldsList-from_slice}
use Rattle.std.proofs.lemmas.Iterator.Search.{all_from_yields_List}
use Rattle.queries.specs.Numerals.{is_decimal}
use Rattle.format.proofs.Every.{every-all}
use Rattle.queries.proofs.all_decimal.Goals as goal

pub returns : goal.returns
returns c = all_from_yields_List is_decimal _ _ c.all.result c.all.ensures.ran (YieldsList-from_slice c.args.digits.now cc) (λ x b q k. search (rules, tests)) ∙ every-all is_decimal c.args.digits.now
