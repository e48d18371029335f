-- `read_root` meets its contract: too few digits, too many, or the id of these.
use native.Mathlib.Omega.{arith}
use lib.ListN.{length-take, length-drop}
use Rattle.usnpaths.proofs.Digits.{root_none, root-long, root-some}
use Rattle.usnpaths.proofs.root.read_root.Goals as goal

pub returns-then-count-lt1 : goal.returns-then-count-lt1
returns-then-count-lt1 c =
    root_none c.args.word.now c.digits_from-from.result c.digits_from-from.ensures.0 (omega arith)

pub returns-then-count-gt32 : goal.returns-then-count-gt32
returns-then-count-gt32 c =
    root-long c.args.word.now c.digits_from-from.result c.digits_from-from.ensures.0 (omega arith)

pub read_digits-requires : goal.read_digits-requires
read_digits-requires c =
    simp (length-take, length-drop) (omega arith)

pub returns : goal.returns
returns c =
    root-some c.args.word.now c.digits_from-from.result c.digits_from-from.ensures.0 c.read_digits.result (omega arith) (omega arith)
    c.read_digits.ensures
