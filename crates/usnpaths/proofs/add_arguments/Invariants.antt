-- `add_arguments` meets its contract: what is taken lies inside after each file.
use mathlib.Core.Path.{◌≡◌}
use Prim.Native.Nat.{◌-◌}
use lib.ListN.{length}
use Rattle.usnpaths.specs.Rows.{Inside}
use Rattle.usnpaths.proofs.add_arguments.Given as goal

abbrev pub invariant-loop-i : goal.invariant-loop-i
invariant-loop-i g l =
    (length l.table ≡ length l.initial.table) × (length l.pool ≡ length l.initial.pool) × (Inside (length l.initial.table) (length l.initial.pool) l.taken.extent.rows l.taken.extent.names)

abbrev pub decreases-loop-i : goal.decreases-loop-i
decreases-loop-i g l = l.count - l.i
