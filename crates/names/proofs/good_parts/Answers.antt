-- `good_parts` meets its contract.
use Rattle.std.proofs.lemmas.Bool.{not_from_true, not_from_false}
use Rattle.names.proofs.Names.{head-bad, tail-bad, both-good}
use Rattle.names.proofs.good_parts.Goals as goal

pub returns-then-not-good_name : goal.returns-then-not-good_name
returns-then-not-good_name c =
    head-bad c.args.head.now c.args.tail.now c.requires c.good_name.result c.good_name.ensures (not_from_false _ c.if-not-good_name.true)

pub returns-then-not-good_name-2 : goal.returns-then-not-good_name-2
returns-then-not-good_name-2 c =
    tail-bad c.args.head.now c.args.tail.now c.requires c.good_name.result c.good_name.ensures c.good_name-2.result c.good_name-2.ensures (not_from_true _ c.if-not-good_name.false) (not_from_false _ c.if-not-good_name-2.true)

pub returns : goal.returns
returns c =
    both-good c.args.head.now c.args.tail.now c.requires c.good_name.result c.good_name.ensures c.good_name-2.result c.good_name-2.ensures (not_from_true _ c.if-not-good_name.false) (not_from_true _ c.if-not-good_name-2.false)
