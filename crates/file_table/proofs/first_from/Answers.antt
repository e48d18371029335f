use mathlib.Core.Path.{◌≡◌, ◌∙◌}
use Prim.Native.Nat.{ℕ, ◌+◌, ◌-◌, ◌*◌, ◌/◌}
use native.Mathlib.Omega.{arith}
use Rattle.file_table.specs.Steps.{id_at}
use Rattle.file_table.proofs.Rows.{id-number}
use Rattle.file_table.proofs.Finding.{between-all, between_none, between-upper, between_lower}
use Rattle.file_table.proofs.first_from.Goals as goal

pub loop-low-init : goal.loop-low-init
loop-low-init c =
    between-all _ _ c.requires.0

pub overflow_sub-middle : goal.overflow_sub-middle
overflow_sub-middle c =
    omega (arith, c.loop-low-test.true)

pub overflow_add-middle : goal.overflow_add-middle
overflow_add-middle c =
    omega (arith, c.loop-low-test.true)

pub overflow_mul-middle : goal.overflow_mul-middle
overflow_mul-middle c =
    omega (arith, c.loop-low-test.true, c.loop-low.invariant.inside)

pub key_at-requires : goal.key_at-requires
key_at-requires c =
    omega (arith, c.loop-low-test.true, c.loop-low.invariant.inside)

pub overflow_add-low : goal.overflow_add-low
overflow_add-low c =
    omega (arith, c.loop-low-test.true)

pub loop-low-smaller-then-key_at-id : goal.loop-low-smaller-then-key_at-id
loop-low-smaller-then-key_at-id c =
    omega (arith, c.loop-low-test.true)

pub loop-low-preserved-then-key_at-id : goal.loop-low-preserved-then-key_at-id
loop-low-preserved-then-key_at-id c =
    let middle : ℕ = c.loop-low.low + (c.loop-low.high - c.loop-low.low) / 2 in
    let e : c.key_at.result ≡ id_at c.args.table.now (middle * 56) = c.key_at.ensures ∙ id-number c.args.table.now (middle * 56) in
    between-upper c.args.id c.args.table.now c.requires.1 c.loop-low.low c.loop-low.high middle c.loop-low.invariant (omega arith) (omega (arith, c.loop-low-test.true))
    (omega (arith, e, c.if-key_at-id.true))

pub loop-low-smaller : goal.loop-low-smaller
loop-low-smaller c =
    omega (arith, c.loop-low-test.true)

pub loop-low-preserved : goal.loop-low-preserved
loop-low-preserved c =
    let middle : ℕ = c.loop-low.low + (c.loop-low.high - c.loop-low.low) / 2 in
    let e : c.key_at.result ≡ id_at c.args.table.now (middle * 56) = c.key_at.ensures ∙ id-number c.args.table.now (middle * 56) in
    between_lower c.args.id c.args.table.now c.requires.1 c.loop-low.low c.loop-low.high middle c.loop-low.invariant (omega arith) (omega (arith, c.loop-low-test.true)) c.requires.0
    (omega (arith, e, c.if-key_at-id.false))

pub overflow_mul-result : goal.overflow_mul-result
overflow_mul-result c =
    omega (arith, c.loop-low.invariant.inside, c.loop-low.invariant.order)

pub returns : goal.returns
returns c =
    between_none c.args.id c.args.table.now c.loop-low.low c.loop-low.high c.loop-low.invariant c.loop-low-test.false
