use native.Mathlib.Omega.{arith}
use Rattle.update_steps.proofs.Posting.{updated_next}
use Rattle.update_steps.proofs.post_changes.Goals as goal

pub loop-i-preserved : goal.loop-i-preserved
loop-i-preserved g c =
    updated_next (record { volume = c.loop-i.v; ring = c.loop-i.ring }) _ c.loop-i.i c.args.to c.loop-i.invariant _ (omega arith) c.post_change.ensures
