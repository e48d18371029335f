use mathlib.Core.Path.{◌≡◌, refl, sym, ap, ◌∙◌}
use mathlib.Core.Bool.{Bool, ◌&&◌}
use Prim.Native.Nat.{◌+◌}
use native.Mathlib.Omega.{arith}
use lib.ListN.{drop}
use Rattle.file_table.specs.Table.{rows, good_rows}
use Rattle.file_table.proofs.Judging.{good-end, good-next}
use Rattle.file_table.proofs.good_rows.Goals.{After-good_row}
use Rattle.file_table.proofs.good_rows.Goals as goal

-- the row is good, and so are those behind it
met : (c : After-good_row) → (b : Bool) → c.good_row.result ≡ b → let a = c.args in
    good_rows a.pool.now (rows a.table.now) ≡ (b && good_rows a.pool.now (rows (drop (c.loop-at.at + 56) a.table.now)))
met c b e =
    let a = c.args in
    c.loop-at.invariant.1 ∙ good-next a.table.now c.loop-at.at a.pool.now (omega (arith, c.loop-at-test.true, c.loop-at.invariant.0))
    ∙ ap (λ (x : Bool). x && good_rows a.pool.now (rows (drop (c.loop-at.at + 56) a.table.now))) (sym c.good_row.ensures ∙ e)

pub loop-at-init : goal.loop-at-init
loop-at-init c =
    (omega arith, refl)

pub overflow_sub-table : goal.overflow_sub-table
overflow_sub-table c =
    omega (arith, c.loop-at.invariant.0)

pub good_row-requires : goal.good_row-requires
good_row-requires c =
    omega (arith, c.loop-at-test.true, c.loop-at.invariant.0)

pub returns-then-not-good_row : goal.returns-then-not-good_row
returns-then-not-good_row c =
    sym (met (goal.at.returns-then-not-good_row c).After-good_row _ c.if-not-good_row.true)

pub overflow_add-at : goal.overflow_add-at
overflow_add-at c =
    omega (arith, c.loop-at-test.true)

pub loop-at-smaller : goal.loop-at-smaller
loop-at-smaller c =
    omega (arith, c.loop-at-test.true)

pub loop-at-preserved : goal.loop-at-preserved
loop-at-preserved c =
    let m = met (goal.at.loop-at-preserved c).After-good_row _ c.if-not-good_row.false in
    (omega (arith, c.loop-at-test.true, c.loop-at.invariant.0), m)

pub returns : goal.returns
returns c =
    let a = c.args in
    sym (c.loop-at.invariant.1 ∙ good-end a.table.now c.loop-at.at a.pool.now (omega (arith, c.loop-at-test.false)))
