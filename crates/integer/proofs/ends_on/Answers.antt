use Rattle.integer.proofs.Windows.{moved-is, moved-fits}
use Rattle.integer.proofs.ends_on.Goals as goal

pub overflow_add-result : goal.overflow_add-result
overflow_add-result c = record { fits = moved-fits c.args.near c.args.far c.args.z c.requires c.ranges.near.fits }

pub returns : goal.returns
returns c = moved-is c.args.near c.args.far c.args.z c.requires c.ranges.near.fits
