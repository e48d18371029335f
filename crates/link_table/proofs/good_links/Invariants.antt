-- The links from an index on are right if and only if the whole table is.
use Rattle.file_links.specs.Links.{good_links}
use Rattle.link_table.proofs.Laws.{Rest}
use Rattle.link_table.proofs.good_links.Given as goal

abbrev pub invariant-loop-link : goal.invariant-loop-link
invariant-loop-link l = Rest (good_links l.pool) l.links l.link-index
