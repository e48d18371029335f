-- `post_changes` meets its contract: the changes from here on lead where all of them do.
use mathlib.Core.Path.{◌≡◌}
use Rattle.update_steps.specs.Update.{updated}
use Rattle.update_steps.proofs.post_changes.Given as goal

abbrev pub invariant-loop-i : goal.invariant-loop-i
invariant-loop-i g l =
    updated (record { volume = l.v; ring = l.ring }) l.i l.to ≡ updated (record { volume = l.initial.v; ring = l.initial.ring }) l.from l.to
