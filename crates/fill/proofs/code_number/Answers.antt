use Rattle.fill.proofs.Numbers.{code-found, code-missing}
use Rattle.fill.proofs.code_number.Goals as goal

pub returns-in_err-next : goal.returns-in_err-next
returns-in_err-next c = rw c.from_residual.ensures (code-missing c.code_at.ensures c.in_err-next.was)

pub returns : goal.returns
returns c = code-found c.code_at.ensures c.in_ok-next.was
