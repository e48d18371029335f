-- `refused_parts` meets its contract: each part is refused once at most.
use Rattle.std.proofs.Common.{◌≤◌}
use Rattle.restarted_server.proofs.refused_parts.Given as goal

abbrev pub invariant-loop-n : goal.invariant-loop-n
invariant-loop-n l = l.refused ≤ l.n
