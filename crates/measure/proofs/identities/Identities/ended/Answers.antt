use Rattle.std.proofs.Common.{◌≡◌, ◌∙◌, length, arith, rules}
use Rattle.measure.proofs.Ids.{has-listed}
use Rattle.measure.proofs.identities.Identities.ended.Goals as goal

pub returns : goal.returns
returns c = let l = c.args.self.now in let long : length l.ended ≡ 64 = search rules in c.among.ensures ∙ has-listed l.ended _ _ (omega (arith, l.few, l.some))
