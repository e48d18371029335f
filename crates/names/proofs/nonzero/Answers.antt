-- `nonzero` meets its contract: the sum fits a word.
use native.Mathlib.Omega.{arith}
use Rattle.names.proofs.Words.{room}
use Rattle.names.proofs.nonzero.Goals as goal

pub overflow_add-result : goal.overflow_add-result
overflow_add-result c =
    omega (arith, room c.args.z)
