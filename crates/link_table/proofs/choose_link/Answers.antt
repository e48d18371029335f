-- `choose_link` meets its contract: the search for a short name, where no name was found before but an empty one.
use Rattle.link_table.proofs.Laws.{chosen}
use Rattle.link_table.proofs.choose_link.Goals as goal

pub returns : goal.returns
returns c = chosen c.args.links.now _ _ _ c.no_link.ensures c.first_link-named.ensures c.first_link.ensures
