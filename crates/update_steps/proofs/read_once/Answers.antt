-- `read_once` meets its contract: a reply of less than a position leaves the reader.
use native.Mathlib.Omega.{arith}
use Rattle.update_steps.specs.Service.{read_to}
use Rattle.update_steps.proofs.Reading.{stays}
use Rattle.update_steps.proofs.read_once.Goals as goal

pub returns-then-count-lt8 : goal.returns-then-count-lt8
unfolding read_to
returns-then-count-lt8 g c =
    stays _ _ c.read_from-answer.result _ _ c.read_from-answer.ensures (omega arith)
