use mathlib.Core.Path.{◌≡◌, refl}
use Prim.Native.Nat.{◌+◌, ◌*◌}
use native.Mathlib.Omega.{arith}
use Rattle.hex_text.specs.Hex.{hex_bytes}
use Rattle.hex_text.proofs.Digits.{hex-again}
use Rattle.hex_text.proofs.put_hex.Goals as goal

pub loop-i-init : goal.loop-i-init
unfolding hex_bytes
loop-i-init c = refl

pub loop-i-preserved : goal.loop-i-preserved
loop-i-preserved c =
    let e : 2 * (c.loop-i.i + 1) ≡ 2 * c.loop-i.i + 2 = omega arith in
    rw e
    (hex-again (2 * c.loop-i.i) c.loop-i.i c.args.s.now c.loop-i.out c.args.out.now c.put_hex_byte.new.out
    refl c.loop-i-test.true c.requires c.loop-i.invariant c.put_hex_byte.ensures)
