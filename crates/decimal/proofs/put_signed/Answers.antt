-- `put_signed` meets its contract: a number below 2^63 as it stands, another as '-' and its magnitude.
use mathlib.Core.Path.{◌∙◌}
use Prim.Native.Nat.{◌-◌}
use native.Mathlib.Omega.{arith}
use lib.ListN.{length, set, length-set, length-take, length-drop}
use borrow.Rule.Slice.PartMut.{same_len_mid}
use Rattle.decimal.proofs.Digits.{signed_low, signed-out}
use Rattle.decimal.proofs.put_signed.Goals as goal

pub returns-then-value-lt9223372036854775808 : goal.returns-then-value-lt9223372036854775808
returns-then-value-lt9223372036854775808 c =
    let e = signed_low _ c.if-value-lt9223372036854775808.true in
    (rw e at c.put_decimal.ensures.0, omega arith, rw e at c.put_decimal.ensures.2)

pub slice_bounds-put_decimal-count : goal.slice_bounds-put_decimal-count
slice_bounds-put_decimal-count c =
    simp length-set (omega arith)

pub slice_bounds-put_decimal-start : goal.slice_bounds-put_decimal-start
slice_bounds-put_decimal-start c =
    omega (arith, length-set c.args.out.now 0 45)

pub put_decimal-requires-2 : goal.put_decimal-requires-2
put_decimal-requires-2 c =
    simp (length-take, length-drop, length-set) (omega arith)

pub shape_of-out : goal.shape_of-out
shape_of-out c =
    let out = set c.args.out.now 0 45 in
    same_len_mid 1 (length out - 1) out c.put_decimal-2.new.out c.put_decimal-2.auto.out ∙ length-set c.args.out.now 0 45

pub returns : goal.returns
returns c =
    signed-out c.args.value c.put_decimal-2.result c.args.out.now c.put_decimal-2.new.out c.if-value-lt9223372036854775808.false c.ranges.value.fits c.requires c.put_decimal-2.ensures
