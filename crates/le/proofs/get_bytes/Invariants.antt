-- `get_bytes` meets its contract: the bytes that are left stand before those that it has seen, and `value` is the number of these.
use mathlib.Core.Path.{◌≡◌}
use mathlib.Core.List.{List, ◌++◌}
use Prim.Native.Nat.{ℕ}
use lib.ListN.{drop, take}
use Rattle.std.specs.Iterator.Adapters.{rev_source}
use Rattle.std.specs.Slice.Iter.{iter_rest}
use Rattle.le.specs.Numbers.{unle}
use Rattle.le.proofs.get_bytes.Given as goal

abbrev pub invariant-loop-byte : goal.invariant-loop-byte
invariant-loop-byte l =
    (seen : List ℕ) × (take l.width (drop l.at l.s) ≡ iter_rest (rev_source l.byte-iterator) ++ seen) × (l.value ≡ unle seen)
    × (goal.iterator-loop-byte).can_next l.byte-iterator × (goal.iterator-loop-byte).is_finite l.byte-iterator
