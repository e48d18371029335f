-- `read_on` meets its contract: the reads from here on lead where all of them do.
use mathlib.Core.Path.{◌≡◌}
use Prim.Native.Nat.{◌-◌}
use Rattle.update_steps.specs.Service.{reads_to}
use Rattle.update_steps.proofs.read_on.Given as goal

abbrev pub invariant-loop : goal.invariant-loop
invariant-loop g l = reads_to (16 - l.counter) l.v l.ring l.id l.at ≡ reads_to 16 l.v l.ring l.id l.start
