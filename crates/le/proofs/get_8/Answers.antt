-- `get_8` meets its contract: its two halves make the whole.
use native.Mathlib.Omega.{arith}
use Rattle.le.proofs.Places.{number-halves}
use Rattle.le.proofs.get_8.Goals as goal

pub returns : goal.returns
returns c =
    let a = c.args in
    number-halves a.s.now a.at 4 c.get_4.result c.get_4-2.result (omega arith) c.get_4.ensures c.get_4-2.ensures
