-- `rises` meets its contract: each id so far is below the next.
use mathlib.Core.Path.{◌≡◌}
use Prim.Native.Nat.{◌-◌, ◌≤◌}
use lib.ListN.{length, drop}
use Rattle.file_table.specs.Table.{rows, rising}
use Rattle.file_table.proofs.rises.Given as goal

abbrev pub invariant-loop-at : goal.invariant-loop-at
invariant-loop-at l = (l.at ≤ length l.table) × (rising (rows l.table) ≡ rising (rows (drop l.at l.table)))

abbrev pub decreases-loop-at : goal.decreases-loop-at
decreases-loop-at l = length l.table - l.at
