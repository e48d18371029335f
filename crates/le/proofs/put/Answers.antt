use mathlib.Core.Path.{refl, sym}
use native.Mathlib.Numerals.{add-one}
use Rattle.le.proofs.Numbers.{shifted-zero, shifted-suc, put-again, le-zero}
use Rattle.le.proofs.put.Goals as goal

pub loop-byte-init : goal.loop-byte-init
loop-byte-init c = (sym (shifted-zero _), rw le-zero refl)

pub loop-byte-preserved : goal.loop-byte-preserved
loop-byte-preserved c =
    let v = c.loop-byte.invariant in
    (rw (v.0, add-one) (sym (shifted-suc _ _)), put-again _ _ _ _ _ c.loop-byte-test.true v.0 v.1)
