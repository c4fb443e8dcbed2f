use Rattle.std.proofs.Common.{rules, tests}
use Rattle.text.proofs.Digits.{line-room}
use Rattle.text.proofs.line_octets.Goals as goal

pub put_octets-requires : goal.put_octets-requires
put_octets-requires c = (search rules, line-room c.args.line.now (search (rules, tests)) c.requires)
