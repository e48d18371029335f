-- `lowest_file` meets its contract: of the rows so far, `best` is where the file with the lowest id stands.
use Prim.Native.Nat.{◌-◌}
use lib.ListN.{length}
use Rattle.file_enumeration.proofs.Finding.{Best}
use Rattle.file_enumeration.proofs.lowest_file.Given as goal

abbrev pub invariant-loop-at : goal.invariant-loop-at
invariant-loop-at l = Best l.q l.table l.best l.at

abbrev pub decreases-loop-at : goal.decreases-loop-at
decreases-loop-at l = length l.table - l.at
