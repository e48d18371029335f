use mathlib.Core.Path.{sym, subst}
use Prim.Native.Nat.{◌+◌}
use Rattle.std.specs.Prelude.{Option}
use Prim.Native.Nat.{ℕ}
use Rattle.file_enumeration.proofs.Finding.{Best, best-start, best-inside, best-here, best-next, best-end}
use Rattle.file_enumeration.proofs.lowest_file.Goals as goal

pub loop-at-init : goal.loop-at-init
loop-at-init c =
    best-start c.args.q c.args.table.now

pub lower_file-best-requires : goal.lower_file-best-requires
lower_file-best-requires c =
    let a = c.args in
    let l = c.loop-at in
    (best-here a.q a.table.now c.requires.0 l.at c.loop-at-test.true l.best l.invariant, best-inside a.q a.table.now l.best l.at l.invariant)

pub loop-at-preserved : goal.loop-at-preserved
loop-at-preserved c =
    let a = c.args in
    let l = c.loop-at in
    subst (λ (n : Option ℕ). Best a.q a.table.now n (l.at + 56)) (sym c.lower_file-best.ensures) (best-next a.q a.table.now c.requires.0 l.at c.loop-at-test.true l.best l.invariant)

pub returns : goal.returns
returns c =
    let l = c.loop-at in best-end c.args.q c.args.table.now l.best l.at l.invariant c.requires.1 c.loop-at-test.false
