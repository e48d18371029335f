-- `get_2` meets its contract: its two bytes are the halves that make the whole.
use Prim.Native.Nat.{ℕ, ◌+◌, ◌<◌}
use native.Mathlib.Omega.{arith}
use lib.ListN.{get_or}
use Rattle.le.proofs.Places.{number-one, number-halves}
use Rattle.le.proofs.get_2.Goals as goal

pub overflow_cast-result : goal.overflow_cast-result
overflow_cast-result c =
    omega (arith, c.type_inv.s c.args.at)

pub overflow_cast-result-2 : goal.overflow_cast-result-2
overflow_cast-result-2 c =
    let byte : (i : ℕ) → get_or c.args.s.now i 0 < 256 =
    λ i. omega (arith, c.type_inv.s i) in
    omega (arith, byte (c.args.at + 1))

pub overflow_mul-result : goal.overflow_mul-result
overflow_mul-result c =
    let byte : (i : ℕ) → get_or c.args.s.now i 0 < 256 =
    λ i. omega (arith, c.type_inv.s i) in
    omega (arith, byte (c.args.at + 1))

pub overflow_add-result-2 : goal.overflow_add-result-2
overflow_add-result-2 c =
    let byte : (i : ℕ) → get_or c.args.s.now i 0 < 256 =
    λ i. omega (arith, c.type_inv.s i) in
    omega (arith, byte c.args.at, byte (c.args.at + 1))

pub returns : goal.returns
returns c =
    let byte : (i : ℕ) → get_or c.args.s.now i 0 < 256 =
    λ i. omega (arith, c.type_inv.s i) in
    let a = c.args in
    let s = a.s.now in
    let i = a.at in
    number-halves s i 1 (get_or s i 0) (get_or s (i + 1) 0) (omega arith) (number-one s i (omega arith), byte i) (number-one s (i + 1) (omega arith), byte (i + 1))
