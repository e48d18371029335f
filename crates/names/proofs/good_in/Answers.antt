-- `good_in` meets its contract: a name that ends past the pool is none, and one inside it is judged as it stands.
use Prim.Native.Nat.{◌+◌, ◌-◌}
use native.Mathlib.Omega.{arith}
use Rattle.names.proofs.Names.{past-pool, inside-pool}
use Rattle.names.proofs.good_in.Goals as goal

pub returns-then-pool-n : goal.returns-then-pool-n
returns-then-pool-n c =
    let a = c.args in past-pool a.pool.now a.place a.length (omega arith)

pub returns-then-pool-n-2 : goal.returns-then-pool-n-2
returns-then-pool-n-2 c =
    let a = c.args in past-pool a.pool.now a.place a.length (omega arith)

pub returns : goal.returns
returns c =
    let a = c.args in
    inside-pool a.pool.now a.place a.length (a.place + a.length - a.place) c.good_name.result (omega arith) (omega arith) c.good_name.ensures
