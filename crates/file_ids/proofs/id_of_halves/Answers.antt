-- `id_of_halves` meets its contract: two numbers of eight bytes are one of sixteen, by `id-of-halves`.
use native.Mathlib.Omega.{arith}
use Rattle.file_ids.proofs.Ids.{id-of-halves}
use Rattle.file_ids.proofs.id_of_halves.Goals as goal

pub returns : goal.returns
returns c =
    id-of-halves c.args.low c.args.high _ (omega (arith, c.ranges.low)) (omega (arith, c.ranges.high)) c.put_two.ensures
