use mathlib.Core.Path.{sym, ◌∙◌}
use native.Mathlib.Omega.{arith}
use Rattle.file_enumeration.proofs.Finding.{next-none, next-at, next_more}
use Rattle.file_enumeration.proofs.next_file.Goals as goal

pub loop-at-init : goal.loop-at-init
loop-at-init c =
    (c.requires.1, c.requires.2, c.requires.4)

pub is_selected-requires : goal.is_selected-requires
is_selected-requires c =
    omega (arith, c.loop-at-test.true, c.loop-at.invariant.1, c.requires.0)

pub loop-at-preserved : goal.loop-at-preserved
loop-at-preserved c =
    let a = c.args in
    let i = c.loop-at.invariant in
    let h = c.loop-at-test.true in
    (omega (arith, h, i.1, c.requires.0), omega (arith, i.1), next_more a.q a.table.now c.requires.0 c.requires.3 c.loop-at.at i.1 h (sym c.is_selected.ensures ∙ c.if-is_selected.false) i.2)

pub returns-then-is_selected : goal.returns-then-is_selected
returns-then-is_selected c =
    let a = c.args in
    let i = c.loop-at.invariant in
    next-at a.q a.table.now c.requires.0 c.requires.3 c.loop-at.at i.1 c.loop-at-test.true (sym c.is_selected.ensures ∙ c.if-is_selected.true) i.2

pub returns : goal.returns
returns c =
    let a = c.args in
    let i = c.loop-at.invariant in next-none a.q a.table.now c.requires.0 c.requires.3 c.loop-at.at i.1 c.loop-at-test.false i.2
