-- What the search from an index on finds is what the whole search finds.
use Rattle.std.proofs.Common.{length, ◌-◌, ◌≤◌}
use Rattle.link_table.proofs.Laws.{Rest, search}
use Rattle.link_table.proofs.first_link.Given as goal

abbrev pub invariant-loop-i : goal.invariant-loop-i
invariant-loop-i l = record {
  in_range : l.i ≤ length l.links;
  rest : Rest (search l.short l.links l.other) l.links l.i;
}

abbrev pub decreases-loop-i : goal.decreases-loop-i
decreases-loop-i l = length l.links - l.i
