use mathlib.Core.Path.{◌≡◌, refl, sym, ap, ◌∙◌}
use mathlib.Core.Bool.{Bool, cond}
use Rattle.std.specs.Prelude.{Some}
use Prim.Native.Nat.{◌+◌}
use native.Mathlib.Omega.{arith}
use lib.ListN.{drop}
use Rattle.file_table.specs.Table.{rows, find}
use Rattle.file_table.specs.Steps.{row_at}
use Rattle.file_table.proofs.Finding.{find-end, find-next}
use Rattle.file_table.proofs.find_any.Goals.{After-is_at}
use Rattle.file_table.proofs.find_any.Goals as goal

-- the row at the place has the id, or it is looked for behind
met : (c : After-is_at) → (b : Bool) → c.is_at.result ≡ b → let a = c.args in
    find a.id (rows a.table.now) ≡ cond b (Some (row_at a.table.now c.loop-at.at)) (find a.id (rows (drop (c.loop-at.at + 56) a.table.now)))
met c b e =
    let a = c.args in
    c.loop-at.invariant.2 ∙ find-next a.id a.table.now c.loop-at.at (omega (arith, c.loop-at-test.true, c.loop-at.invariant.1, c.requires))
    ∙ ap (λ (x : Bool). cond x (Some (row_at a.table.now c.loop-at.at)) (find a.id (rows (drop (c.loop-at.at + 56) a.table.now)))) (sym c.is_at.ensures ∙ e)

pub loop-at-init : goal.loop-at-init
loop-at-init c =
    (omega arith, omega arith, refl)

-- a row stands at the place
pub is_at-requires : goal.is_at-requires
is_at-requires c =
    omega (arith, c.loop-at-test.true, c.loop-at.invariant.1, c.requires)

pub returns-then-is_at : goal.returns-then-is_at
returns-then-is_at c =
    let m = met (goal.at.returns-then-is_at c).After-is_at _ c.if-is_at.true in
    (m, omega (arith, c.loop-at-test.true, c.loop-at.invariant.1, c.requires), c.loop-at.invariant.1)

pub loop-at-preserved : goal.loop-at-preserved
loop-at-preserved c =
    let m = met (goal.at.loop-at-preserved c).After-is_at _ c.if-is_at.false in
    (omega (arith, c.loop-at-test.true, c.loop-at.invariant.1, c.requires), omega (arith, c.loop-at.invariant.1), m)

pub returns : goal.returns
returns c =
    c.loop-at.invariant.2 ∙ find-end c.args.id c.args.table.now c.loop-at.at c.loop-at-test.false
