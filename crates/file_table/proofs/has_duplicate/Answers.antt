use mathlib.Core.Path.{◌≡◌, refl, sym, ap, ◌∙◌}
use mathlib.Core.Bool.{Bool, ◌||◌}
use Prim.Native.Nat.{◌+◌}
use native.Mathlib.Omega.{arith}
use lib.Dec.{eqb}
use lib.ListN.{drop}
use Rattle.file_table.specs.Table.{rows, has_id}
use Rattle.file_table.specs.Steps.{id_at}
use Rattle.file_table.proofs.Rows.{id-number}
use Rattle.file_table.proofs.Judging.{has_end, has-next}
use Rattle.file_table.proofs.has_duplicate.Goals.{After-is_at}
use Rattle.file_table.proofs.has_duplicate.Goals as goal

-- the next row has the id, or it is looked for behind
met : (c : After-is_at) → (b : Bool) → c.is_at.result ≡ b → let a = c.args in
    has_id (id_at a.table.now a.at) (rows (drop (a.at + 56) a.table.now))
    ≡ (b || has_id (id_at a.table.now a.at) (rows (drop (c.loop-next.next + 56) a.table.now)))
met c b e =
    let a = c.args in
    let id = id_at a.table.now a.at in
    let k : c.key_at-id.result ≡ id = c.key_at-id.ensures ∙ id-number a.table.now a.at in
    c.loop-next.invariant.1 ∙ has-next a.table.now c.loop-next.next id (omega (arith, c.loop-next-test.true, c.loop-next.invariant.0))
    ∙ ap (λ (b : Bool). b || has_id id (rows (drop (c.loop-next.next + 56) a.table.now))) (ap (eqb (id_at a.table.now c.loop-next.next)) (sym k) ∙ sym c.is_at.ensures ∙ e)

pub loop-next-init : goal.loop-next-init
loop-next-init c =
    (omega arith, refl)

pub overflow_sub-table : goal.overflow_sub-table
overflow_sub-table c =
    omega (arith, c.loop-next.invariant.0)

pub is_at-requires : goal.is_at-requires
is_at-requires c =
    omega (arith, c.loop-next-test.true, c.loop-next.invariant.0)

pub returns-then-is_at : goal.returns-then-is_at
returns-then-is_at c =
    sym (met (goal.at.returns-then-is_at c).After-is_at _ c.if-is_at.true)

pub overflow_add-next-in-loop-next : goal.overflow_add-next-in-loop-next
overflow_add-next-in-loop-next c =
    omega (arith, c.loop-next-test.true)

pub loop-next-smaller : goal.loop-next-smaller
loop-next-smaller c =
    omega (arith, c.loop-next-test.true)

pub loop-next-preserved : goal.loop-next-preserved
loop-next-preserved c =
    let m = met (goal.at.loop-next-preserved c).After-is_at _ c.if-is_at.false in
    (omega (arith, c.loop-next-test.true, c.loop-next.invariant.0), m)

pub returns : goal.returns
returns c =
    let a = c.args in
    sym (c.loop-next.invariant.1 ∙ has_end a.table.now c.loop-next.next (id_at a.table.now a.at) (omega (arith, c.loop-next-test.false)))
