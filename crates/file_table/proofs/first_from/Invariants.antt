-- `first_from` meets its contract: the place lies between the rows `low` and `high`.
use Prim.Native.Nat.{◌-◌}
use Rattle.file_table.proofs.Finding.{Between}
use Rattle.file_table.proofs.first_from.Given as goal

abbrev pub invariant-loop-low : goal.invariant-loop-low
invariant-loop-low l = Between l.id l.table l.low l.high

abbrev pub decreases-loop-low : goal.decreases-loop-low
decreases-loop-low l = l.high - l.low
