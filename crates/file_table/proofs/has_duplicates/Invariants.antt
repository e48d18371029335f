-- `has_duplicates` meets its contract: no id of the rows so far stands again.
use mathlib.Core.Path.{◌≡◌}
use Prim.Native.Nat.{◌-◌, ◌≤◌}
use lib.ListN.{length, drop}
use Rattle.file_table.specs.Table.{rows, distinct}
use Rattle.file_table.proofs.has_duplicates.Given as goal

abbrev pub invariant-loop-at : goal.invariant-loop-at
invariant-loop-at l = (l.at ≤ length l.table) × (distinct (rows l.table) ≡ distinct (rows (drop l.at l.table)))

abbrev pub decreases-loop-at : goal.decreases-loop-at
decreases-loop-at l = length l.table - l.at
