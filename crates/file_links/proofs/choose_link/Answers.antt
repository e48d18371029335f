-- `choose_link` meets its contract: where the arms meet, i is the index of the chosen link, or past the table.
use Rattle.file_links.proofs.Choosing.{Picked, pick-short, pick-named, chosen_none, chosen_at}
use Rattle.file_links.proofs.choose_link.Goals as goal
use Rattle.file_links.proofs.choose_link.Goals.{then-short-n, else-short-n}

pub returns-then-n-i : goal.returns-then-n-i
returns-then-n-i c =
    let picked : Picked c.args.places.now c.args.lengths.now c.args.shorts.now c.requires.0 c.requires.1 c.if-short-n.i =
    elim c.if-short-n.branch [
      | then-short-n w ↦ pick-short _ _ _ c.requires.0 c.requires.1 c.if-short-n.i _ c.first_nonzero-short.ensures.0 w.if-short-n.true w.i-is
      | else-short-n w ↦ pick-named _ _ _ c.requires.0 c.requires.1 c.if-short-n.i _ _ c.first_nonzero-short.ensures.0 c.first_nonzero-named.ensures.0 w.if-short-n.false w.i-is
    ] in
    chosen_none _ _ _ c.requires.0 c.requires.1 c.if-short-n.i _ picked c.if-n-i.true c.no_link.ensures

pub returns : goal.returns
returns c =
    let picked : Picked c.args.places.now c.args.lengths.now c.args.shorts.now c.requires.0 c.requires.1 c.if-short-n.i =
    elim c.if-short-n.branch [
      | then-short-n w ↦ pick-short _ _ _ c.requires.0 c.requires.1 c.if-short-n.i _ c.first_nonzero-short.ensures.0 w.if-short-n.true w.i-is
      | else-short-n w ↦ pick-named _ _ _ c.requires.0 c.requires.1 c.if-short-n.i _ _ c.first_nonzero-short.ensures.0 c.first_nonzero-named.ensures.0 w.if-short-n.false w.i-is
    ] in
    chosen_at _ _ _ c.requires.0 c.requires.1 _ picked c.if-n-i.false
