use mathlib.Core.Path.{sym, ◌∙◌}
use native.Mathlib.Omega.{arith}
use Rattle.file_links.proofs.Choosing.{first_more, first-here, first-end}
use Rattle.file_links.proofs.first_nonzero.Goals as goal

pub loop-i-init : goal.loop-i-init
loop-i-init c =
    (omega arith, omega arith)

pub loop-i-preserved : goal.loop-i-preserved
loop-i-preserved c =
    (omega arith, c.loop-i.invariant.1 ∙ first_more c.args.s.now c.loop-i.i (omega arith) c.if-s-i-ne0.false)

pub returns-then-s-i : goal.returns-then-s-i
returns-then-s-i c =
    (sym (c.loop-i.invariant.1 ∙ first-end c.args.s.now c.loop-i.i c.if-s-i.true), c.loop-i.invariant.0)

pub returns-then-s-i-ne0 : goal.returns-then-s-i-ne0
returns-then-s-i-ne0 c =
    (sym (c.loop-i.invariant.1 ∙ first-here c.args.s.now c.loop-i.i (omega arith) c.if-s-i-ne0.true), c.loop-i.invariant.0)
