-- `id_number` meets its contract: byte by byte, by `id-read`.
use Rattle.file_ids.proofs.Given.{array-id}
use Rattle.file_ids.proofs.Ids.{id-read}
use Rattle.file_ids.proofs.id_number.Goals as goal

pub returns : goal.returns
returns c =
    id-read c.args.id (array-id _ _ c.well_formed.0) _ c.from_le_bytes.ensures
