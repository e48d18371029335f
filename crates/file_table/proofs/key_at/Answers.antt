-- `key_at` meets its contract: the sixteen bytes are two halves.
use mathlib.Core.Path.{sym, ap₂, ◌∙◌}
use Prim.Native.Nat.{ℕ, ◌+◌, ◌*◌, ◌^◌}
use native.Mathlib.Omega.{arith}
use Rattle.le.proofs.Places.{number-split}
use Rattle.file_table.proofs.key_at.Goals as goal

pub returns : goal.returns
returns c =
    ap₂ (λ (low high : ℕ). low + 2 ^ 64 * high) c.get-low.ensures.0 c.get-high.ensures.0 ∙ sym (number-split c.args.table.now c.args.at 8 8 (omega (arith, c.requires)))
