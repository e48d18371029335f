-- `first_file` meets its contract: by the order of the table.
use Rattle.file_table.proofs.Places.{table-whole, table-distinct}
use Rattle.file_enumeration.proofs.first_file.Goals as goal

pub next_file-requires : goal.next_file-requires
next_file-requires c =
    let t = c.args.table.now in
    let r = c.requires c.in-Rising.is in
    (table-whole t.pool.now t.bytes.now t.right, r.0, r.1, t.rises c.in-Rising.is, r.2)

pub lowest_file-requires : goal.lowest_file-requires
lowest_file-requires c =
    let t = c.args.table.now in (table-whole t.pool.now t.bytes.now t.right, table-distinct t.pool.now t.bytes.now t.right)
