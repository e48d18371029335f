use mathlib.Core.Path.{◌≡◌, sym}
use Prim.Native.Nat.{◌+◌, ◌-◌, ◌%◌}
use native.Mathlib.Nat.{le_of_eq}
use native.Mathlib.Omega.{arith}
use lib.ListN.{length, set, length-set}
use borrow.Author.Rules.{rules}
use Rattle.decimal.specs.Decimal.{decimal_to, decimal}
use Rattle.decimal.proofs.Digits.{decimal-again, decimal-end, decimal-out}
use Rattle.decimal.proofs.put_decimal.Goals as goal

pub loop-rest-init : goal.loop-rest-init
unfolding decimal decimal_to
loop-rest-init c =
    search rules

pub loop-rest-preserved : goal.loop-rest-preserved
loop-rest-preserved c =
    let r = decimal-again _ c.loop-rest.i c.loop-rest.rest c.loop-rest.digits c.loop-rest.invariant.1 c.loop-rest.invariant.2 c.loop-rest.invariant.3 c.loop-rest.invariant.4 c.if-rest-lt10.false in
    (r.0, omega arith, simp length-set c.loop-rest.invariant.2, r.1, r.2)

pub slice_bounds-copy-end : goal.slice_bounds-copy-end
slice_bounds-copy-end c =
    let e : length (set c.loop-rest.digits (c.loop-rest.i - 1) (48 + c.loop-rest.rest % 10)) ≡ 20 = simp length-set c.loop-rest.invariant.2 in
    le_of_eq (sym e)

pub returns : goal.returns
returns c =
    decimal-out c.args.value (c.loop-rest.i - 1) _ c.args.out.now c.copy.new.out (simp length-set c.loop-rest.invariant.2)
    (decimal-end c.args.value c.loop-rest.i c.loop-rest.rest c.loop-rest.digits c.loop-rest.invariant.0 c.loop-rest.invariant.1 c.loop-rest.invariant.2 c.loop-rest.invariant.4 c.if-rest-lt10.true)
    c.copy.ensures
