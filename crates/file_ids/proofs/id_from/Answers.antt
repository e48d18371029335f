-- `id_from` meets its contract: bytes at the start of sixteen zeroes, by `id-made`.
use native.Mathlib.Omega.{arith}
use Rattle.file_ids.proofs.Ids.{id-made}
use Rattle.file_ids.proofs.id_from.Goals as goal

pub returns : goal.returns
returns c =
    id-made c.args.s.now _ (λ i. omega (arith, c.type_inv.s i)) c.requires c.copy.ensures
