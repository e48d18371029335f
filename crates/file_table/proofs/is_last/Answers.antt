-- `is_last` meets its contract.
use mathlib.Core.Path.{ap, ◌∙◌}
use Prim.Native.Nat.{ℕ, ◌-◌, ◌^◌}
use lib.Dec.{eqb}
use Rattle.file_table.proofs.Rows.{id-number}
use Rattle.file_table.proofs.is_last.Goals as goal

pub returns : goal.returns
returns c =
    ap (λ (n : ℕ). eqb n (2 ^ 64 - 1)) (c.key_at.ensures ∙ id-number c.args.table.now c.args.at)
