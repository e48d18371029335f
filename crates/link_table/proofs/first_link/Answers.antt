-- `first_link` meets its contract: each turn asks one more link, and the search stops where it finds one, or behind the last.
use Rattle.std.proofs.Common.{sym, ◌∙◌, arith}
use Rattle.link_table.proofs.Laws.{Stops, stops-past, stops-here, goes_on}
use Rattle.link_table.proofs.first_link.Goals as goal
use Rattle.link_table.proofs.first_link.Goals.{then-links-i, else-links-i+then-has_name}

pub loop-i-preserved : goal.loop-i-preserved
loop-i-preserved c = record {
  in_range = omega arith;
  rest = goes_on c.args.short c.args.links.now c.args.other c.loop-i.i c.loop-i.invariant.rest (omega arith) (sym c.has_name.ensures ∙ c.if-has_name.false);
}

pub returns-then-links-at : goal.returns-then-links-at
returns-then-links-at c =
    let stops : Stops c.args.short c.args.links.now c.args.other c.if-links-i.at =
    elim c.if-links-i.branch [
      | then-links-i w ↦ rw w.at-is (stops-past c.args.short c.args.links.now c.args.other c.loop-i.i c.loop-i.invariant.rest w.if-links-i.true)
      | else-links-i+then-has_name w ↦ rw w.at-is (stops-here c.args.short c.args.links.now c.args.other c.loop-i.i c.loop-i.invariant.rest w.if-links-i.false (sym w.has_name.ensures ∙ w.if-has_name.true))
    ] in
    stops.0 c.if-links-at.true

pub returns : goal.returns
returns c =
    let stops : Stops c.args.short c.args.links.now c.args.other c.if-links-i.at =
    elim c.if-links-i.branch [
      | then-links-i w ↦ rw w.at-is (stops-past c.args.short c.args.links.now c.args.other c.loop-i.i c.loop-i.invariant.rest w.if-links-i.true)
      | else-links-i+then-has_name w ↦ rw w.at-is (stops-here c.args.short c.args.links.now c.args.other c.loop-i.i c.loop-i.invariant.rest w.if-links-i.false (sym w.has_name.ensures ∙ w.if-has_name.true))
    ] in
    stops.1 c.if-links-at.false
