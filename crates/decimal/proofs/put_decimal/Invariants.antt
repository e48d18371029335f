-- `put_decimal` meets its contract: the digits written stand from i on, and `rest`, of at most i digits, is what they leave.
use mathlib.Core.Path.{◌≡◌}
use Prim.Native.Nat.{◌≤◌, ◌<◌, ◌^◌}
use lib.ListN.{length, drop}
use Rattle.decimal.specs.Decimal.{decimal_to, decimal}
use Rattle.decimal.proofs.put_decimal.Given as goal

abbrev pub invariant-loop-rest : goal.invariant-loop-rest
invariant-loop-rest l =
    (1 ≤ l.i) × (l.i ≤ 20) × (length l.digits ≡ 20) × (l.rest < 10 ^ l.i) × (decimal l.value ≡ decimal_to l.i l.rest (drop l.i l.digits))

abbrev pub decreases-loop-rest : goal.decreases-loop-rest
decreases-loop-rest l = l.i
