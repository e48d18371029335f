-- `good_row` meets its contract: the Usn, the id, and the name where the row says that it stands.
use native.Mathlib.Omega.{arith}
use Rattle.file_table.proofs.Judging.{negative-bad, last-bad, by_name}
use Rattle.file_table.proofs.good_row.Goals as goal

pub returns-then-get-ge9223372036854775808 : goal.returns-then-get-ge9223372036854775808
returns-then-get-ge9223372036854775808 c =
    let a = c.args in
    negative-bad a.table.now a.at a.pool.now c.get.result c.get.ensures.0 (omega arith)

pub returns-then-is_last : goal.returns-then-is_last
returns-then-is_last c =
    let a = c.args in
    last-bad a.table.now a.at a.pool.now c.get.result c.get.ensures.0 (omega arith) c.is_last.result c.is_last.ensures c.if-is_last.true

pub returns : goal.returns
returns c =
    let a = c.args in
    by_name a.table.now a.at a.pool.now c.get.result c.get.ensures.0 (omega arith) c.is_last.result c.is_last.ensures c.if-is_last.false
    c.get-place.result c.get-length.result c.get-place.ensures.0 c.get-length.ensures.0 c.good_in.result c.good_in.ensures
