use Rattle.std.proofs.lemmas.Bool.{not_from_true, not_from_false}
use mathlib.Core.Path.{refl}
use native.Mathlib.Omega.{arith}
use borrow.Author.Tests.{eq-eqb, ne_eqb}
use Rattle.file_links.specs.Links.{good_table}
use Rattle.file_links.proofs.Tables.{good-from-good, good-from-bad, good-from-end}
use Rattle.file_links.proofs.good_table.Goals as goal

pub returns-then-lengths-n : goal.returns-then-lengths-n
unfolding good_table
returns-then-lengths-n c =
    rw (ne_eqb _ _ c.if-lengths-n.true)

pub returns-then-shorts-n : goal.returns-then-shorts-n
unfolding good_table
returns-then-shorts-n c =
    rw (eq-eqb _ _ c.if-lengths-n.false, ne_eqb _ _ c.if-shorts-n.true)

pub loop-i-init : goal.loop-i-init
unfolding good_table
loop-i-init c =
    (refl, c.if-lengths-n.false, c.if-shorts-n.false, rw (eq-eqb _ _ c.if-lengths-n.false, eq-eqb _ _ c.if-shorts-n.false))

pub returns-then-not-good_link : goal.returns-then-not-good_link
returns-then-not-good_link c =
    let v = c.loop-i.invariant in
    good-from-bad _ _ _ _ v.1 v.2 c.loop-i.i (omega arith) _ c.good_link.ensures (not_from_false _ c.if-not-good_link.true) v.3

pub loop-i-preserved : goal.loop-i-preserved
loop-i-preserved c =
    let v = c.loop-i.invariant in
    (refl, v.1, v.2, good-from-good _ _ _ _ v.1 v.2 c.loop-i.i (omega arith) _ c.good_link.ensures (not_from_true _ c.if-not-good_link.false) v.3)

pub returns : goal.returns
returns c =
    good-from-end _ _ _ _ c.loop-i.i (omega arith) c.loop-i.invariant.3
