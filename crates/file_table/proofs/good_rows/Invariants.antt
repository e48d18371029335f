-- `good_rows` meets its contract: the rows so far are good.
use mathlib.Core.Path.{◌≡◌}
use Prim.Native.Nat.{◌-◌, ◌≤◌}
use lib.ListN.{length, drop}
use Rattle.file_table.specs.Table.{rows, good_rows}
use Rattle.file_table.proofs.good_rows.Given as goal

abbrev pub invariant-loop-at : goal.invariant-loop-at
invariant-loop-at l = (l.at ≤ length l.table) × (good_rows l.pool (rows l.table) ≡ good_rows l.pool (rows (drop l.at l.table)))

abbrev pub decreases-loop-at : goal.decreases-loop-at
decreases-loop-at l = length l.table - l.at
