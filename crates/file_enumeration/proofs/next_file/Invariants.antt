-- `next_file` meets its contract: no file stands before `at`.
use mathlib.Core.Path.{◌≡◌}
use Prim.Native.Nat.{◌-◌, ◌%◌, ◌≤◌}
use lib.ListN.{length}
use Rattle.file_enumeration.specs.Steps.{Ahead}
use Rattle.file_enumeration.proofs.next_file.Given as goal

abbrev pub invariant-loop-at : goal.invariant-loop-at
invariant-loop-at l = (l.at ≤ length l.table) × (l.at % 56 ≡ 0) × (Ahead l.q l.table l.at)

abbrev pub decreases-loop-at : goal.decreases-loop-at
decreases-loop-at l = length l.table - l.at
