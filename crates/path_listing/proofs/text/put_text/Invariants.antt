-- `put_text` meets its contract: before each turn the text of the first `at` bytes of the path is written, at most three bytes for each.
use Prim.Native.Nat.{◌-◌}
use lib.ListN.{length}
use Rattle.path_listing.proofs.Characters.{Shown}
use Rattle.path_listing.proofs.text.put_text.Given as goal

abbrev pub invariant-loop-at : goal.invariant-loop-at
invariant-loop-at l = Shown l.initial.out l.path l.out l.at l.done

abbrev pub decreases-loop-at : goal.decreases-loop-at
decreases-loop-at l = length l.path - l.at
