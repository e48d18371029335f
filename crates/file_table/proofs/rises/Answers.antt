use mathlib.Core.Path.{◌≡◌, refl, sym, ap, ◌∙◌}
use mathlib.Core.Bool.{Bool, ◌&&◌}
use Prim.Native.Nat.{◌+◌}
use native.Mathlib.Omega.{arith}
use lib.ListN.{drop}
use Rattle.file_table.specs.Table.{rows, rising}
use Rattle.file_table.proofs.Judging.{rising-end, rising-next}
use Rattle.file_table.proofs.rises.Goals as goal

pub loop-at-init : goal.loop-at-init
loop-at-init c =
    (omega arith, refl)

pub overflow_sub-table : goal.overflow_sub-table
overflow_sub-table c =
    omega (arith, c.loop-at.invariant.0)

pub overflow_add-next : goal.overflow_add-next
overflow_add-next c =
    omega (arith, c.loop-at-test.true)

pub is_below-requires : goal.is_below-requires
is_below-requires c =
    omega (arith, c.loop-at-test.true, c.loop-at.invariant.0)

pub returns-then-not-is_below : goal.returns-then-not-is_below
returns-then-not-is_below c =
    let met : (b : Bool) → c.is_below.result ≡ b → let a = c.args in rising (rows a.table.now) ≡ (b && rising (rows (drop (c.loop-at.at + 56) a.table.now))) =
    λ b e. let a = c.args in
    c.loop-at.invariant.1 ∙ rising-next a.table.now c.loop-at.at (omega (arith, c.loop-at-test.true, c.loop-at.invariant.0))
    ∙ ap (λ (x : Bool). x && rising (rows (drop (c.loop-at.at + 56) a.table.now))) (sym c.is_below.ensures ∙ e) in
    sym (met _ c.if-not-is_below.true)

pub loop-at-smaller : goal.loop-at-smaller
loop-at-smaller c =
    omega (arith, c.loop-at-test.true)

pub loop-at-preserved : goal.loop-at-preserved
loop-at-preserved c =
    let met : (b : Bool) → c.is_below.result ≡ b → let a = c.args in rising (rows a.table.now) ≡ (b && rising (rows (drop (c.loop-at.at + 56) a.table.now))) =
    λ b e. let a = c.args in
    c.loop-at.invariant.1 ∙ rising-next a.table.now c.loop-at.at (omega (arith, c.loop-at-test.true, c.loop-at.invariant.0))
    ∙ ap (λ (x : Bool). x && rising (rows (drop (c.loop-at.at + 56) a.table.now))) (sym c.is_below.ensures ∙ e) in
    (omega (arith, c.loop-at-test.true, c.loop-at.invariant.0), met _ c.if-not-is_below.false)

pub returns : goal.returns
returns c =
    let a = c.args in
    sym (c.loop-at.invariant.1 ∙ rising-end a.table.now c.loop-at.at (omega (arith, c.loop-at-test.false)))
