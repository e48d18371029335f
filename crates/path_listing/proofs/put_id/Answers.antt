-- `put_id` meets its contract: the upper half, and behind it the lower.
use Rattle.path_listing.proofs.Ways.{id-out}
use Rattle.path_listing.proofs.put_id.Goals as goal

pub returns : goal.returns
returns c =
    id-out c.args.id c.args.out.now c.put_half.new.out c.put_half-2.new.out c.requires c.put_half.ensures c.put_half-2.ensures
