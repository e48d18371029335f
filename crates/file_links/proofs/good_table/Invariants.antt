-- `good_table` meets its contract: the judgement of the links from i on is that of the whole table.
use mathlib.Core.Path.{◌≡◌}
use lib.ListN.{length}
use Rattle.file_links.specs.Links.{good_table}
use Rattle.file_links.proofs.Tables.{good_from}
use Rattle.file_links.proofs.good_table.Given as goal

abbrev pub invariant-loop-i : goal.invariant-loop-i
invariant-loop-i l =
    (l.n ≡ length l.places) × (length l.lengths ≡ length l.places) × (length l.shorts ≡ length l.places) × (good_from l.pool l.places l.lengths l.shorts l.i ≡ good_table l.pool l.places l.lengths l.shorts)
