-- `find` meets its contract: a table that is right has whole rows.
use Rattle.file_table.proofs.Places.{table-whole}
use Rattle.file_table.proofs.Table.find.Goals as goal

pub find_row-requires : goal.find_row-requires
find_row-requires c =
    let t = c.args.self.now in (table-whole t.pool.now t.bytes.now t.right, t.rises)
