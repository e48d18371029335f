-- `put_escape` meets its contract: '<', the code unit's two bytes in hex, and '>'.
use mathlib.Core.Path.{◌≡◌}
use native.Mathlib.Omega.{arith}
use lib.ListN.{length, set, length-set, length-take, length-drop}
use Rattle.usn_listing.proofs.Writing.{same_back}
use Rattle.path_listing.proofs.Characters.{escape-out}
use Rattle.path_listing.proofs.text.put_escape.Goals as goal

pub slice_bounds-put_hex-count : goal.slice_bounds-put_hex-count
slice_bounds-put_hex-count c =
    let stored : length (set c.args.out.now 0 60) ≡ length c.args.out.now =
    length-set c.args.out.now 0 60 in
    omega (arith, stored)

pub slice_bounds-put_hex-start : goal.slice_bounds-put_hex-start
slice_bounds-put_hex-start c =
    let stored : length (set c.args.out.now 0 60) ≡ length c.args.out.now =
    length-set c.args.out.now 0 60 in
    omega (arith, stored)

pub put_hex-requires : goal.put_hex-requires
put_hex-requires c =
    simp (length-take, length-drop, length-set) (omega arith)

pub bounds-out-5 : goal.bounds-out-5
bounds-out-5 c =
    let stored : length (set c.args.out.now 0 60) ≡ length c.args.out.now =
    length-set c.args.out.now 0 60 in
    omega (arith, stored, c.put_hex.auto.out)

pub shape_of-out : goal.shape_of-out
shape_of-out c =
    let stored : length (set c.args.out.now 0 60) ≡ length c.args.out.now =
    length-set c.args.out.now 0 60 in
    (same_back 1 5 62 c.args.out.now (set c.args.out.now 0 60) c.put_hex.new.out stored c.put_hex.auto.out).1

pub returns : goal.returns
returns c =
    escape-out c.args.u c.args.out.now c.put_hex.new.out c.requires.1 c.put_hex.ensures
