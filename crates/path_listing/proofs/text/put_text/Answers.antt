use native.Mathlib.Omega.{arith}
use lib.ListN.{length-take, length-drop}
use Rattle.path_listing.proofs.Characters.{shown-start, shown-more, shown-end}
use Rattle.path_listing.proofs.text.put_text.Goals as goal

pub loop-at-init : goal.loop-at-init
loop-at-init c =
    shown-start c.args.out.now c.args.path.now

pub put_next-next-requires : goal.put_next-next-requires
put_next-next-requires c =
    (omega arith, simp (length-take, length-drop) (omega arith))

pub loop-at-preserved : goal.loop-at-preserved
loop-at-preserved c =
    shown-more c.args.out.now c.args.path.now c.loop-at.out c.put_next-next.new.out c.loop-at.at c.loop-at.done c.put_next-next.result.read
    c.put_next-next.result.written c.loop-at.invariant c.requires c.put_next-next.auto.out c.put_next-next.ensures

pub returns : goal.returns
returns c =
    shown-end c.args.out.now c.args.path.now c.loop-at.out c.loop-at.at c.loop-at.done c.loop-at.invariant c.loop-at-test.false
