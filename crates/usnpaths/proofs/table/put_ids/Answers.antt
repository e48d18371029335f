-- `put_ids` meets its contract: the parent's id stands behind the file's.
use Rattle.file_ids.proofs.Given.{array-id}
use Rattle.usnpaths.proofs.Filling.{ids-out}
use Rattle.usnpaths.proofs.table.put_ids.Goals as goal

pub returns : goal.returns
returns c =
    ids-out c.args.id c.args.parent c.args.out.now c.copy.new.out c.copy-2.new.out (array-id _ _ c.well_formed.1.0) (array-id _ _ c.well_formed.1.1.0)
    c.requires c.copy.ensures c.copy-2.ensures
