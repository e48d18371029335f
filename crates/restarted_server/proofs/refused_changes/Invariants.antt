-- `refused_changes` meets its contract: each changed image is refused once at most.
use Rattle.std.proofs.Common.{◌≤◌}
use Rattle.restarted_server.proofs.refused_changes.Given as goal

abbrev pub invariant-loop-i : goal.invariant-loop-i
invariant-loop-i l = l.refused ≤ l.i
