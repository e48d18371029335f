use mathlib.Core.Path.{◌≡◌}
use Prim.Native.Nat.{◌+◌, ◌*◌}
use native.Mathlib.Omega.{arith}
use Rattle.le.proofs.Places.{copy-number}
use Rattle.le.proofs.copy_words.Goals as goal

pub loop-i-preserved : goal.loop-i-preserved
loop-i-preserved c =
    let i = c.loop-i.i in
    let e : 8 * (i + 1) ≡ 8 * i + 8 = omega arith in (
      rw e
          (copy-number (8 * i) 8 _ c.args.src.now _ _ _ (λ j. omega (arith, c.type_inv.src j)) (omega arith) (omega arith)
          c.loop-i.invariant.0 c.get.ensures.0 c.put.ensures),
      omega arith,
    )
