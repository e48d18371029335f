use mathlib.Core.Path.{◌≡◌, refl, sym, ap, ◌∙◌}
use mathlib.Core.Bool.{Bool, not, ◌&&◌}
use Prim.Native.Nat.{◌+◌}
use native.Mathlib.Omega.{arith}
use lib.ListN.{drop}
use Rattle.file_table.specs.Table.{rows, distinct}
use Rattle.file_table.proofs.Judging.{distinct-end, distinct-next}
use Rattle.file_table.proofs.has_duplicates.Goals.{After-has_duplicate}
use Rattle.file_table.proofs.has_duplicates.Goals as goal

-- the row's id stands once more behind it, or the rows behind it are looked at
met : (c : After-has_duplicate) → (b : Bool) → c.has_duplicate.result ≡ b → let a = c.args in
    distinct (rows a.table.now) ≡ (not b && distinct (rows (drop (c.loop-at.at + 56) a.table.now)))
met c b e =
    let a = c.args in
    c.loop-at.invariant.1 ∙ distinct-next a.table.now c.loop-at.at (omega (arith, c.loop-at-test.true, c.loop-at.invariant.0))
    ∙ ap (λ (x : Bool). not x && distinct (rows (drop (c.loop-at.at + 56) a.table.now))) (sym c.has_duplicate.ensures ∙ e)

pub loop-at-init : goal.loop-at-init
loop-at-init c =
    (omega arith, refl)

pub overflow_sub-table : goal.overflow_sub-table
overflow_sub-table c =
    omega (arith, c.loop-at.invariant.0)

pub has_duplicate-requires : goal.has_duplicate-requires
has_duplicate-requires c =
    omega (arith, c.loop-at-test.true, c.loop-at.invariant.0)

pub returns-then-has_duplicate : goal.returns-then-has_duplicate
returns-then-has_duplicate c =
    sym (met (goal.at.returns-then-has_duplicate c).After-has_duplicate _ c.if-has_duplicate.true)

pub overflow_add-at : goal.overflow_add-at
overflow_add-at c =
    omega (arith, c.loop-at-test.true)

pub loop-at-smaller : goal.loop-at-smaller
loop-at-smaller c =
    omega (arith, c.loop-at-test.true)

pub loop-at-preserved : goal.loop-at-preserved
loop-at-preserved c =
    let m = met (goal.at.loop-at-preserved c).After-has_duplicate _ c.if-has_duplicate.false in
    (omega (arith, c.loop-at-test.true, c.loop-at.invariant.0), m)

pub returns : goal.returns
returns c =
    let a = c.args in
    sym (c.loop-at.invariant.1 ∙ distinct-end a.table.now c.loop-at.at (omega (arith, c.loop-at-test.false)))
