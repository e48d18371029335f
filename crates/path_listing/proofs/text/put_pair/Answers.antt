-- `put_pair` meets its contract: the character of two code units as it is, or two escapes.
use mathlib.Core.Path.{sym, ◌∙◌}
use native.Mathlib.Omega.{arith}
use lib.ListN.{length-take, length-drop}
use Rattle.path_listing.proofs.Characters.{halves, pair-shown, pair-escaped}
use Rattle.path_listing.proofs.text.put_pair.Goals as goal

pub overflow_sub-c : goal.overflow_sub-c
overflow_sub-c c =
    omega (arith, halves c.args.u c.args.v c.requires.0)

pub overflow_mul-c : goal.overflow_mul-c
overflow_mul-c c =
    omega (arith, halves c.args.u c.args.v c.requires.0)

pub overflow_add-c : goal.overflow_add-c
overflow_add-c c =
    omega (arith, halves c.args.u c.args.v c.requires.0)

pub overflow_sub-c-2 : goal.overflow_sub-c-2
overflow_sub-c-2 c =
    omega (arith, halves c.args.u c.args.v c.requires.0)

pub overflow_add-c-2 : goal.overflow_add-c-2
overflow_add-c-2 c =
    omega (arith, halves c.args.u c.args.v c.requires.0)

pub put_utf8-requires : goal.put_utf8-requires
put_utf8-requires c =
    (omega (arith, halves c.args.u c.args.v c.requires.0), omega arith)

pub returns-then-is_shown : goal.returns-then-is_shown
returns-then-is_shown c =
    pair-shown c.args.u c.args.v c.args.out.now c.put_utf8.new.out c.put_utf8.result (sym c.is_shown.ensures ∙ c.if-is_shown.true) c.put_utf8.ensures

pub put_escape-requires : goal.put_escape-requires
put_escape-requires c =
    (omega (arith, halves c.args.u c.args.v c.requires.0), omega arith)

pub put_escape-requires-2 : goal.put_escape-requires-2
put_escape-requires-2 c =
    (omega (arith, halves c.args.u c.args.v c.requires.0), simp (length-take, length-drop) (omega arith))

pub returns : goal.returns
returns c =
    pair-escaped c.args.u c.args.v c.args.out.now c.put_escape.new.out c.put_escape-2.new.out c.requires.1
    (sym c.is_shown.ensures ∙ c.if-is_shown.false) c.put_escape.ensures c.put_escape-2.ensures
