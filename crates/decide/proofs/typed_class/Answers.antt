use Rattle.std.proofs.Common.{rules, ◌≡◌, Err}
use Rattle.decide.proofs.Forms.{class-typed, class-untyped}
use Rattle.decide.proofs.typed_class.Goals as goal

pub returns-in_err-from : goal.returns-in_err-from
returns-in_err-from c =
    let q : c.from_residual.result ≡ Err c.in_err-from.field-0.0 = search rules in
    rw q (class-untyped c.typed_at.ensures c.in_err-from.was)

pub returns : goal.returns
returns c = class-typed c.typed_at.ensures c.in_ok-from.was (search rules) c.class_of.ensures
