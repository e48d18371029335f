-- `put_two` meets its contract: the second number stands behind the first.
use mathlib.Core.Path.{◌∙◌}
use mathlib.Core.List.{append_assoc, append-nil}
use Rattle.le.specs.Numbers.{le, encode}
use Rattle.le.proofs.Numbers.{length-le}
use Rattle.le.proofs.Tail.{put-tail}
use Rattle.le.proofs.put_two.Goals as goal

pub returns : goal.returns
unfolding encode
returns c =
    let a = c.args in
    put-tail a.width a.width (le a.width a.first) (le a.width a.second) c.put.new.out a.out.now c.put-2.new.out
    c.put.ensures (length-le a.width a.first) (length-le a.width a.second) c.requires c.put-2.ensures
    ∙ simp (append_assoc, append-nil)
