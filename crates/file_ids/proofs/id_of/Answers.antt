-- `id_of` meets its contract: eight bytes in front of eight zeroes, by `id-of`.
use native.Mathlib.Omega.{arith}
use Rattle.file_ids.proofs.Ids.{id-of}
use Rattle.file_ids.proofs.id_of.Goals as goal

pub returns : goal.returns
returns c =
    id-of c.args.low _ (omega (arith, c.ranges.low)) c.put.ensures
