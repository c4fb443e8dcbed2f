use mathlib.Core.Path.{sym, ◌∙◌}
use Rattle.replies.proofs.Fields.{asks-yes}
use Rattle.replies.proofs.begin_plain.Goals as goal

pub slice_bounds-begin_query-count : goal.slice_bounds-begin_query-count
slice_bounds-begin_query-count c = (asks-yes _ (sym c.asks_row.ensures ∙ c.if-asks_row.true)).0

pub slice_bounds-begin_query-start : goal.slice_bounds-begin_query-start
slice_bounds-begin_query-start c = (asks-yes _ (sym c.asks_row.ensures ∙ c.if-asks_row.true)).0
