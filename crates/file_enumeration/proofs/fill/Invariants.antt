-- `fill` meets its contract: what is written, joined with the page from the next file on in the room that is left, is the whole page.
use Prim.Native.Nat.{◌-◌}
use lib.ListN.{length}
use Rattle.file_enumeration.specs.declared.Query.{Query}
use Rattle.file_enumeration.proofs.Filling.{Filled}
use Rattle.file_enumeration.proofs.fill.Given as goal

abbrev pub invariant-loop-place : goal.invariant-loop-place
invariant-loop-place l =
    let q : Query = record { start = l.initial.next; low = l.low; high = l.high } in
    Filled l.v l.table.pool.now l.table.bytes.now l.initial.out l.table.right q l.out l.next l.place l.done

abbrev pub decreases-loop-place : goal.decreases-loop-place
decreases-loop-place l = length l.initial.out - l.done
