-- `create_fresh` meets its contract: only the end of the name is drawn, each time.
use Rattle.std.proofs.Common.{◌≡◌, ◌-◌, length, take}
use Rattle.image_file.proofs.create_fresh.Given as goal

abbrev pub invariant-loop : goal.invariant-loop
invariant-loop g l =
    (length l.name ≡ length l.initial.name) × (take (length l.initial.name - 6) l.name ≡ take (length l.initial.name - 6) l.initial.name)
