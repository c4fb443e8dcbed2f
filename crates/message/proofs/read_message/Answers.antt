use Rattle.std.proofs.lemmas.Result.{err_from_is_err_and}
use Rattle.message.proofs.Messages.{few, read-refused, read-rows, read_short}
use Rattle.message.proofs.read_message.Goals as goal

pub store_rows-requires : goal.store_rows-requires
store_rows-requires c = few _ c.count_rows.ensures c.in-Ok.is (λ i. (c.type_inv.src i).fits)

pub returns-in-Err-clause-read : goal.returns-in-Err-clause-read
returns-in-Err-clause-read c = read-refused _ _ c.count_rows.ensures c.in-Err.is

pub returns-in_err-store_rows-clause-read : goal.returns-in_err-store_rows-clause-read
returns-in_err-store_rows-clause-read c =
    let p = err_from_is_err_and c.from_residual.result c.from_residual.ensures.1 in
    rw (p.1, p.2) (read_short _ _ c.count_rows.ensures c.in-Ok.is (λ i. (c.type_inv.src i).fits) c.store_rows.ensures.stored c.in_err-store_rows.was)

pub returns-clause-read : goal.returns-clause-read
returns-clause-read c = read-rows _ _ c.count_rows.ensures c.in-Ok.is (λ i. (c.type_inv.src i).fits) c.store_rows.ensures.stored c.in_ok-store_rows.was
