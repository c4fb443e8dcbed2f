use mathlib.Core.Path.{◌≡◌, refl}
use Rattle.std.proofs.Common.{rules}
use Rattle.columns.proofs.Storing.{roomy, nest_room}
use Rattle.fill.proofs.Bounds.{ready-kept}
use Rattle.fill.proofs.Whole.{filled-whole, one-count}
use Rattle.fill.proofs.fill.Goals as goal

pub clear-requires : goal.clear-requires
clear-requires c = nest_room c.requires.room

pub fill_elements-requires : goal.fill_elements-requires
fill_elements-requires c = let e : c.default.result.end ≡ 0 = search rules in rw e (ready-kept c.clear.ensures.lent.kept c.requires, one-count c.alike.ensures)

pub returns-clause-filled : goal.returns-clause-filled
returns-clause-filled c = let e : c.default.result.end ≡ 0 = search rules in filled-whole c.clear.ensures.cleared c.alike.ensures c.fill_elements.ensures.filled refl e (roomy c.clear.ensures.lent.kept c.requires.room)
