-- `get_4` meets its contract: its two halves make the whole.
use native.Mathlib.Omega.{arith}
use Rattle.le.proofs.Places.{number-halves}
use Rattle.le.proofs.get_4.Goals as goal

pub returns : goal.returns
returns c =
    let a = c.args in
    number-halves a.s.now a.at 2 c.get_2.result c.get_2-2.result (omega arith) c.get_2.ensures c.get_2-2.ensures
