use mathlib.Core.Path.{◌≡◌, ◌∙◌}
use Prim.Native.Nat.{◌%◌}
use native.Mathlib.Omega.{arith}
use lib.ListN.{length}
use Rattle.file_table.proofs.Places.{table-whole}
use Rattle.usnpaths.proofs.show_rows.Goals as goal

pub put_path_line-n-requires : goal.put_path_line-n-requires
put_path_line-n-requires g c =
    let t = c.args.table.now in
    let whole : length t.bytes.now % 56 ≡ 0 = table-whole t.pool.now t.bytes.now t.right in
    (omega (arith, whole), c.loop-at.invariant.0, omega arith)

pub loop-at-preserved : goal.loop-at-preserved
loop-at-preserved g c =
    let t = c.args.table.now in
    let whole : length t.bytes.now % 56 ≡ 0 = table-whole t.pool.now t.bytes.now t.right in
    (omega arith, omega (arith, whole), c.put_path_line-n.auto.out ∙ c.loop-at.invariant.2)
