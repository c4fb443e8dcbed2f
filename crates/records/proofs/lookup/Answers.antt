use mathlib.Core.Path.{◌∙◌, sym}
use lib.Seq.{length-take-le}
use Rattle.records.proofs.Records.{row-asked, no_row, found-room, labels-room}
use Rattle.records.proofs.lookup.Goals as goal

pub slice_bounds-find-end : goal.slice_bounds-find-end
slice_bounds-find-end c = sym (length-take-le _ c.args.columns.label.now (labels-room _ c.shortest-n.ensures))

pub row-requires : goal.row-requires
row-requires c = found-room _ c.args.sought c.shortest-n.ensures c.find.ensures c.in-Some.is

pub returns-in-Some : goal.returns-in-Some
returns-in-Some c = c.ask.ensures ∙ row-asked _ c.args.sought c.shortest-n.ensures _ c.find.ensures c.in-Some.is c.row.ensures

pub returns-in-None : goal.returns-in-None
returns-in-None c = no_row _ c.args.sought c.shortest-n.ensures _ c.find.ensures c.in-None.is
