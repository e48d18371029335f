-- `is_last` meets its contract.
use mathlib.Core.Path.{ap}
use Prim.Native.Nat.{ℕ, ◌-◌, ◌^◌}
use lib.Dec.{eqb}
use Rattle.usnpaths.proofs.table.is_last.Goals as goal

pub returns : goal.returns
returns c =
    ap (λ (n : ℕ). eqb n (2 ^ 64 - 1)) c.id_number.ensures
