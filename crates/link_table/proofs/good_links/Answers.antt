-- `good_links` meets its contract: each turn judges one more link, and the first bad one refuses the table.
use Rattle.std.proofs.Common.{sym, ◌∙◌, arith}
use Rattle.link_table.proofs.Laws.{all-good, one-bad, good-on}
use Rattle.link_table.proofs.good_links.Goals as goal

pub returns-then-not-good_link : goal.returns-then-not-good_link
returns-then-not-good_link c = one-bad c.args.pool.now c.args.links.now c.loop-link.link-index c.loop-link.invariant (omega arith) (sym c.good_link.ensures ∙ c.if-not-good_link.true)

pub loop-link-preserved : goal.loop-link-preserved
loop-link-preserved c = good-on c.args.pool.now c.args.links.now c.loop-link.link-index c.loop-link.invariant (omega arith) (sym c.good_link.ensures ∙ c.if-not-good_link.false)

pub returns : goal.returns
returns c = all-good c.args.pool.now c.args.links.now c.loop-link.link-index c.loop-link.invariant (omega arith)
