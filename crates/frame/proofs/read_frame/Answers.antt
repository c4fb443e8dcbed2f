use Rattle.std.proofs.lemmas.Result.{err_from_is_err_and}
use Rattle.frame.proofs.Reading.{starts-within, few, read-refused, read-rows, read_short}
use Rattle.frame.proofs.read_frame.Goals as goal

pub slice_bounds-store_rows-count : goal.slice_bounds-store_rows-count
slice_bounds-store_rows-count c = starts-within _ c.check_frame.ensures c.in_ok-frame.was (λ i. (c.type_inv.src i).fits)

pub slice_bounds-store_rows-start : goal.slice_bounds-store_rows-start
slice_bounds-store_rows-start c = starts-within _ c.check_frame.ensures c.in_ok-frame.was (λ i. (c.type_inv.src i).fits)

pub store_rows-requires : goal.store_rows-requires
store_rows-requires c = few _ c.check_frame.ensures c.in_ok-frame.was (λ i. (c.type_inv.src i).fits)

pub returns-in_err-frame-clause-read : goal.returns-in_err-frame-clause-read
returns-in_err-frame-clause-read c = let p = err_from_is_err_and c.from_residual.result c.from_residual.ensures.1 in rw (p.1, p.2) (read-refused _ _ c.check_frame.ensures c.in_err-frame.was)

pub returns-in-Err-clause-read : goal.returns-in-Err-clause-read
returns-in-Err-clause-read c = read_short _ _ c.check_frame.ensures c.in_ok-frame.was (λ i. (c.type_inv.src i).fits) c.store_rows.ensures.stored c.in-Err.is

pub returns-in-Ok-clause-read : goal.returns-in-Ok-clause-read
returns-in-Ok-clause-read c = read-rows _ _ c.check_frame.ensures c.in_ok-frame.was (λ i. (c.type_inv.src i).fits) c.store_rows.ensures.stored c.in-Ok.is
