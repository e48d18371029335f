-- `put_hex` meets its contract: after i turns the first i bytes stand in front, in two digits each.
use mathlib.Core.Path.{◌≡◌}
use mathlib.Core.List.{◌++◌}
use Prim.Native.Nat.{◌*◌}
use lib.ListN.{take, drop}
use Rattle.hex_text.specs.Hex.{hex_bytes}
use Rattle.hex_text.proofs.put_hex.Given as goal

abbrev pub invariant-loop-i : goal.invariant-loop-i
invariant-loop-i l = l.out ≡ hex_bytes (take l.i l.s) ++ drop (2 * l.i) l.initial.out
