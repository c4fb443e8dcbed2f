use mathlib.Core.Path.{sym}
use native.Mathlib.Omega.{arith}
use borrow.Author.Rules.{rules}
use Rattle.replies.proofs.Fields.{pairs-room, pairs}
use Rattle.replies.proofs.field_octets.Goals as goal

pub put_octets-requires : goal.put_octets-requires
put_octets-requires c = (search rules, pairs-room _ c.requires)

pub returns : goal.returns
returns c = pairs c.args.field.now c.requires (omega arith) c.if-n-ne0.false (sym c.if-not-all_digits.ensures) c.put_octets.ensures
