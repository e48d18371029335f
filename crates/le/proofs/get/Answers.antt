-- `get` meets its contract: each width is read by its own function.
use native.Mathlib.Omega.{arith}
use Rattle.le.proofs.get.Goals as goal

pub get_2-requires : goal.get_2-requires
get_2-requires c =
    omega (arith, c.in-2.is)

pub get_4-requires : goal.get_4-requires
get_4-requires c =
    omega (arith, c.in-4.is)

pub get_8-requires : goal.get_8-requires
get_8-requires c =
    omega (arith, c.in-8.is)

pub returns-in-2 : goal.returns-in-2
returns-in-2 c =
    rw c.in-2.is c.get_2.ensures

pub returns-in-4 : goal.returns-in-4
returns-in-4 c =
    rw c.in-4.is c.get_4.ensures

pub returns-in-8 : goal.returns-in-8
returns-in-8 c =
    rw c.in-8.is c.get_8.ensures

pub returns-in_default : goal.returns-in_default
returns-in_default c =
    c.get_bytes.ensures
