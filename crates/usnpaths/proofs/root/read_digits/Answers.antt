use mathlib.Core.Path.{sym, ◌∙◌}
use native.Mathlib.Omega.{arith}
use Rattle.usnpaths.proofs.Digits.{digit-small, has_room, read_more, read-bad, read-end}
use Rattle.usnpaths.proofs.root.read_digits.Goals as goal

-- a digit's room is left
pub overflow_mul-id : goal.overflow_mul-id
overflow_mul-id c =
    let l = c.loop-b in let room = has_room l.id l.b-index l.invariant.fits (omega (arith, c.requires, c.loop-b-test.true)) in omega (arith, room)

pub overflow_add-id : goal.overflow_add-id
overflow_add-id c =
    let l = c.loop-b in
    let room = has_room l.id l.b-index l.invariant.fits (omega (arith, c.requires, c.loop-b-test.true)) in
    omega (arith, room, digit-small _ _ (sym c.digit.ensures ∙ c.in_ok-id.was))

pub returns-in_err-id : goal.returns-in_err-id
returns-in_err-id c =
    let l = c.loop-b in rw c.from_residual.ensures (read-bad c.args.s.now l.b-index l.id l.invariant c.loop-b-test.true (sym c.digit.ensures ∙ c.in_err-id.was))

pub loop-b-preserved : goal.loop-b-preserved
loop-b-preserved c =
    let l = c.loop-b in read_more c.args.s.now l.b-index l.id l.invariant c.loop-b-test.true c.in_ok-id.field-0 (sym c.digit.ensures ∙ c.in_ok-id.was)

pub returns : goal.returns
returns c =
    let l = c.loop-b in read-end c.args.s.now l.b-index l.id l.invariant c.loop-b-test.false
