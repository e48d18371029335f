-- `add_records` meets its contract: before each turn the records before `at` are added, and what is taken lies inside.
use Prim.Native.Nat.{◌-◌}
use lib.ListN.{length}
use Rattle.usnpaths.proofs.Filling.{Filled}
use Rattle.usnpaths.proofs.table.add_records.Given as goal

abbrev pub invariant-loop-at : goal.invariant-loop-at
invariant-loop-at l =
    Filled l.initial.table l.initial.pool (record { rows = l.initial.rows; names = l.initial.names }) l.s l.table l.pool l.at l.rows l.names

abbrev pub decreases-loop-at : goal.decreases-loop-at
decreases-loop-at l = length l.s - l.at
