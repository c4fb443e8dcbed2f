use native.Mathlib.Omega.{arith}
use Rattle.scalar.proofs.Text.{text-short, text-octets, text-bad, text-good}
use Rattle.scalar.proofs.text_past.Goals as goal

pub returns-then-left-n : goal.returns-then-left-n
returns-then-left-n c = text-short c.args.n c.args.chars c.requires (omega arith)

pub returns-then-not-chars : goal.returns-then-not-chars
returns-then-not-chars c = text-octets c.args.n (omega arith) c.if-not-chars.true

pub returns-then-p-end : goal.returns-then-p-end
returns-then-p-end c = text-bad c.args.n (omega arith) c.if-not-chars.false c.text_at-p.ensures c.if-p-end.true

pub returns : goal.returns
returns c = text-good c.args.n (omega arith) c.if-not-chars.false c.text_at-p.ensures c.if-p-end.false
