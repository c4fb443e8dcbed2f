use Rattle.format.specs.Data.{part}
use mathlib.Core.Path.{◌∙◌}
use lib.Dec.{lit<}
use Rattle.std.proofs.Common.{rules, ◌≡◌, Err}
use Rattle.scalar.proofs.Moments.{offset-told, offsets-cut, offsets-fit, offsets-unfit, parts-small, of-two, listed}
use Rattle.scalar.proofs.offset_past.Goals as goal

pub returns-then-both : goal.returns-then-both
returns-then-both c =
    let s = c.args in
    let l = c.in_ok-next.field-0-1 in
    let p = parts-small c.ints_at.ensures c.in_ok-next.was in
    let told = offset-told s.fits (part 0 l) (part 1 l) (p.1 0 (lit< tt)) (p.1 1 (lit< tt)) c.between.ensures c.between-2.ensures c.both.ensures c.both-2.ensures in
    offsets-fit s.fits s.from s.n c.ints_at.ensures (listed c.in_ok-next.was (of-two _ p.0)) (told ∙ c.if-both.true)

pub returns-in_err-next : goal.returns-in_err-next
returns-in_err-next c =
    let q : c.from_residual.result ≡ Err c.in_err-next.field-0.0 = search rules in
    rw q (offsets-cut c.args.fits c.args.from c.args.n c.ints_at.ensures c.in_err-next.was)

pub returns : goal.returns
returns c =
    let s = c.args in
    let l = c.in_ok-next.field-0-1 in
    let p = parts-small c.ints_at.ensures c.in_ok-next.was in
    let told = offset-told s.fits (part 0 l) (part 1 l) (p.1 0 (lit< tt)) (p.1 1 (lit< tt)) c.between.ensures c.between-2.ensures c.both.ensures c.both-2.ensures in
    offsets-unfit s.fits s.from s.n c.ints_at.ensures (listed c.in_ok-next.was (of-two _ p.0)) (told ∙ c.if-both.false)
