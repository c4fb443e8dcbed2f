use Rattle.octets.proofs.Octets.{some, none}
use Rattle.octets.proofs.find.Goals as goal

pub returns-in-Some : goal.returns-in-Some
returns-in-Some c = some c.args.b c.args.from c.args.to c.args.src.now c.requires.0 c.requires.1 c.in-Some.k c.memchr.ensures c.in-Some.is

pub returns-in-None : goal.returns-in-None
returns-in-None c = none c.args.b c.args.from c.args.to c.args.src.now c.requires.0 c.requires.1 c.memchr.ensures c.in-None.is
