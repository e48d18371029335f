-- `has_duplicate` meets its contract: the rows between have other ids.
use mathlib.Core.Path.{◌≡◌}
use Prim.Native.Nat.{◌+◌, ◌-◌, ◌≤◌}
use lib.ListN.{length, drop}
use Rattle.file_table.specs.Table.{rows, has_id}
use Rattle.file_table.specs.Steps.{id_at}
use Rattle.file_table.proofs.has_duplicate.Given as goal

abbrev pub invariant-loop-next : goal.invariant-loop-next
invariant-loop-next l =
    (l.next ≤ length l.table) × (has_id (id_at l.table l.at) (rows (drop (l.at + 56) l.table)) ≡ has_id (id_at l.table l.at) (rows (drop l.next l.table)))

abbrev pub decreases-loop-next : goal.decreases-loop-next
decreases-loop-next l = length l.table - l.next
