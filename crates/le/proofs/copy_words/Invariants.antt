-- `copy_words` meets its contract: after i turns the first 8 * i bytes of `src` stand in front.
use mathlib.Core.Path.{◌≡◌}
use mathlib.Core.List.{◌++◌}
use Prim.Native.Nat.{◌*◌}
use lib.ListN.{length, take, drop}
use Rattle.le.proofs.copy_words.Given as goal

abbrev pub invariant-loop-i : goal.invariant-loop-i
invariant-loop-i l = (l.out ≡ take (8 * l.i) l.src ++ drop (8 * l.i) l.initial.out) × (length l.out ≡ length l.initial.out)
