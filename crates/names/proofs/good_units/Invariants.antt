-- `good_units` meets its contract: as long as the bits of `seen` are set, the units that are left, from some place on, are good exactly if
-- all are.
use mathlib.Core.Path.{◌≡◌}
use Prim.Native.Nat.{ℕ, ◌≤◌, ◌%◌}
use lib.ListN.{length, drop}
use Rattle.std.specs.Slice.Iter.{chunks_exact_rest, chunks_exact_size}
use Rattle.names.specs.Names.{good_units}
use Rattle.names.proofs.Words.{Set}
use Rattle.names.proofs.good_units.Given as goal

abbrev pub invariant-loop-word : goal.invariant-loop-word
invariant-loop-word l =
    (i : ℕ) × (i ≤ length l.s) × (drop i l.s ≡ chunks_exact_rest l.word-iterator) × (chunks_exact_size l.word-iterator ≡ 8)
    × (Set l.seen → good_units (drop i l.s) ≡ good_units l.s) × (i % 8 ≡ 0)
    × (goal.iterator-loop-word).can_next l.word-iterator × (goal.iterator-loop-word).is_finite l.word-iterator
