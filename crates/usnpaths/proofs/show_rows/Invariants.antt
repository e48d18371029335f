-- `show_rows` is safe and ends: before each turn `at` is the place of a row, or the table's end.
use mathlib.Core.Path.{◌≡◌}
use Prim.Native.Nat.{◌-◌, ◌%◌, ◌≤◌}
use lib.ListN.{length}
use Rattle.usnpaths.proofs.show_rows.Given as goal

abbrev pub invariant-loop-at : goal.invariant-loop-at
invariant-loop-at g l =
    (l.at % 56 ≡ 0) × (l.at ≤ length l.table.bytes.now) × (length l.line ≡ length l.initial.line)

abbrev pub decreases-loop-at : goal.decreases-loop-at
decreases-loop-at g l = length l.table.bytes.now - l.at
