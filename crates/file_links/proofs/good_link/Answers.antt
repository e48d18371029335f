-- `good_link` meets its contract: it is judged as any name in a pool.
use Rattle.file_links.specs.Links.{good_link}
use Rattle.file_links.proofs.good_link.Goals as goal

pub returns : goal.returns
unfolding good_link
returns c =
    c.good_in.ensures
