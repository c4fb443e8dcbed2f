use Rattle.fill.proofs.Numbers.{int-known}
use Rattle.fill.proofs.int_number.Goals as goal

pub returns : goal.returns
returns c = int-known _ c.known64_at.ensures c.ok.ensures.value
