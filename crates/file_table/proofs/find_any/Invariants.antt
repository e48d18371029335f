-- `find_any` meets its contract: the rows before have other ids.
use mathlib.Core.Path.{◌≡◌}
use Prim.Native.Nat.{◌-◌, ◌%◌, ◌≤◌}
use lib.ListN.{length, drop}
use Rattle.file_table.specs.Table.{rows, find}
use Rattle.file_table.proofs.find_any.Given as goal

abbrev pub invariant-loop-at : goal.invariant-loop-at
invariant-loop-at l =
    (l.at ≤ length l.table) × (l.at % 56 ≡ 0) × (find l.id (rows l.table) ≡ find l.id (rows (drop l.at l.table)))

abbrev pub decreases-loop-at : goal.decreases-loop-at
decreases-loop-at l = length l.table - l.at
