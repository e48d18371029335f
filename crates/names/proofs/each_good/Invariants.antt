-- `each_good` meets its contract: the units that are left, from some place on, are good exactly if all are.
use mathlib.Core.Path.{◌≡◌}
use Prim.Native.Nat.{ℕ, ◌≤◌}
use lib.ListN.{length, drop}
use Rattle.std.specs.Slice.Iter.{chunks_exact_rest, chunks_exact_size}
use Rattle.names.specs.Names.{good_units}
use Rattle.names.proofs.each_good.Given as goal

abbrev pub invariant-loop-unit : goal.invariant-loop-unit
invariant-loop-unit l =
    (i : ℕ) × (i ≤ length l.s) × (drop i l.s ≡ chunks_exact_rest l.unit-iterator) × (chunks_exact_size l.unit-iterator ≡ 2)
    × (good_units (drop i l.s) ≡ good_units l.s)
    × (goal.iterator-loop-unit).can_next l.unit-iterator × (goal.iterator-loop-unit).is_finite l.unit-iterator
