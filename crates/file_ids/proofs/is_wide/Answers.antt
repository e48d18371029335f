-- `is_wide` meets its contract: `get` reads the upper eight bytes as one number, by `wide-upper`.
use Rattle.file_ids.proofs.Given.{array-id}
use Rattle.file_ids.proofs.Ids.{wide-upper}
use Rattle.file_ids.proofs.is_wide.Goals as goal

pub returns : goal.returns
returns c =
    wide-upper c.args.id (array-id _ _ c.well_formed.0) c.get.result c.get.ensures.0
