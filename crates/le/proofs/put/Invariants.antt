-- `put` meets its contract: after i turns the i low bytes stand in front, and `rest` is the number without them.
use mathlib.Core.Path.{◌≡◌}
use mathlib.Core.List.{◌++◌}
use lib.ListN.{drop}
use Rattle.le.specs.Numbers.{le}
use Rattle.le.proofs.Numbers.{shifted}
use Rattle.le.proofs.put.Given as goal

abbrev pub invariant-loop-byte : goal.invariant-loop-byte
invariant-loop-byte l =
    (l.rest ≡ shifted l.byte-index l.value) × (l.byte-items ≡ le l.byte-index l.value ++ drop l.byte-index l.initial.byte-items)
