use Rattle.std.proofs.Common.{rules}
use Rattle.measure.proofs.Cycle.{deep-untyped, deep-typed}
use Rattle.measure.proofs.too_deep.Goals as goal

pub returns-in-Err : goal.returns-in-Err
returns-in-Err c = deep-untyped c.typed_at.ensures c.in-Err.is

pub returns-in-Ok : goal.returns-in-Ok
returns-in-Ok c = deep-typed c.typed_at.ensures c.requires c.in-Ok.is (search rules) c.class_of.ensures c.once_of.ensures c.deep_reason.ensures
