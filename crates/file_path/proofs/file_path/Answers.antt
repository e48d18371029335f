-- `file_path` meets its contract: the table, and then the path.
use mathlib.Core.Path.{refl}
use lib.ListN.{length}
use Rattle.file_table.proofs.Judging.{told-bad, told-right}
use Rattle.file_path.proofs.Replying.{bad-reply, right-reply}
use Rattle.file_path.proofs.file_path.Goals as goal

pub returns-in-None : goal.returns-in-None
returns-in-None c =
    let a = c.args in
    rw (bad-reply a.table.now a.pool.now a.id a.root (length a.output.now) (told-bad a.pool.now a.table.now c.in-None.ensures.0))
    (record { answered = c.from.ensures; output = refl })

pub returns-in-Some : goal.returns-in-Some
returns-in-Some c =
    let a = c.args in
    let t = c.in-Some.ensures in
    rw (right-reply a.table.now a.pool.now a.id a.root (length a.output.now) (told-right a.pool.now a.table.now c.in-Some.table.order t.0))
    (rw (t.1.0, t.1.1) at c.path_in.ensures)
