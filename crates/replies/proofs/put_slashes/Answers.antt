use Rattle.replies.proofs.Slashes.{slashing-again}
use Rattle.replies.proofs.put_slashes.Goals as goal

pub loop-i-preserved : goal.loop-i-preserved
loop-i-preserved c = rw c.slash.ensures (slashing-again c.loop-i.invariant c.loop-i-test.true)
