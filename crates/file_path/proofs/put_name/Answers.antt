-- `put_name` meets its contract: the name, or the separator and the name behind it.
use mathlib.Core.Path.{◌≡◌}
use Prim.Native.Nat.{◌+◌, ◌-◌, ◌≤◌}
use native.Mathlib.Omega.{arith}
use lib.ListN.{length, take, drop, length-drop}
use lib.Seq.{length-take-le}
use Rattle.file_path.proofs.Placing.{run_fits}
use Rattle.file_path.proofs.Writing.{copied-length, room-first, room-more, writes-first, writes_more}
use Rattle.file_path.proofs.put_name.Goals as goal

pub overflow_add-name : goal.overflow_add-name
overflow_add-name c =
    let fits : c.get-from.result + c.get-length.result ≤ length c.args.table.now.pool.now =
    run_fits c.args.table.now.pool.now c.args.table.now.bytes.now c.args.at c.requires.1 c.get-from.result c.get-length.result c.get-from.ensures.0 c.get-length.ensures.0 in
    omega (arith, fits)

pub slice_bounds-name-end : goal.slice_bounds-name-end
slice_bounds-name-end c =
    let fits : c.get-from.result + c.get-length.result ≤ length c.args.table.now.pool.now =
    run_fits c.args.table.now.pool.now c.args.table.now.bytes.now c.args.at c.requires.1 c.get-from.result c.get-length.result c.get-from.ensures.0 c.get-length.ensures.0 in
    omega (arith, fits)

pub copy-requires : goal.copy-requires
copy-requires c =
    let room : c.get-length.result ≤ length c.args.out.now =
    room-first c.args.table.now.pool.now c.args.table.now.bytes.now c.args.at c.requires.1 c.get-from.result c.get-length.result c.get-from.ensures.0 c.get-length.ensures.0 c.args.first c.if-first.true c.args.out.now c.requires.2 in
    let copied : let f = c.get-from.result in length (take (f + c.get-length.result - f) (drop f c.args.table.now.pool.now)) ≡ c.get-length.result =
    copied-length c.args.table.now.pool.now c.args.table.now.bytes.now c.args.at c.requires.1 c.get-from.result c.get-length.result c.get-from.ensures.0 c.get-length.ensures.0 in
    omega (arith, room, copied)

pub shape_of-out-then-first : goal.shape_of-out-then-first
shape_of-out-then-first c =
    omega (arith, c.copy.auto.out)

pub returns-then-first : goal.returns-then-first
returns-then-first c =
    writes-first c.args.table.now.pool.now c.args.table.now.bytes.now c.args.at c.requires.1 c.get-from.result c.get-length.result c.get-from.ensures.0 c.get-length.ensures.0 c.args.out.now c.args.first c.if-first.true c.copy.new.out c.copy.ensures

pub put-requires : goal.put-requires
put-requires c =
    let room_behind : 2 + c.get-length.result ≤ length c.args.out.now =
    room-more c.args.table.now.pool.now c.args.table.now.bytes.now c.args.at c.requires.1 c.get-from.result c.get-length.result c.get-from.ensures.0 c.get-length.ensures.0 c.args.first c.if-first.false c.args.out.now c.requires.2 in
    omega (arith, room_behind)

pub copy-requires-2 : goal.copy-requires-2
copy-requires-2 c =
    let room_behind : 2 + c.get-length.result ≤ length c.args.out.now =
    room-more c.args.table.now.pool.now c.args.table.now.bytes.now c.args.at c.requires.1 c.get-from.result c.get-length.result c.get-from.ensures.0 c.get-length.ensures.0 c.args.first c.if-first.false c.args.out.now c.requires.2 in
    let copied : let f = c.get-from.result in length (take (f + c.get-length.result - f) (drop f c.args.table.now.pool.now)) ≡ c.get-length.result =
    copied-length c.args.table.now.pool.now c.args.table.now.bytes.now c.args.at c.requires.1 c.get-from.result c.get-length.result c.get-from.ensures.0 c.get-length.ensures.0 in
    let o = c.put.new.out in
    omega (arith, c.put.auto.out, room_behind, copied, length-take-le (length o - 2) (drop 2 o) (omega (arith, length-drop 2 o)), length-drop 2 o)

pub overflow_add-result : goal.overflow_add-result
overflow_add-result c =
    let room_behind : 2 + c.get-length.result ≤ length c.args.out.now =
    room-more c.args.table.now.pool.now c.args.table.now.bytes.now c.args.at c.requires.1 c.get-from.result c.get-length.result c.get-from.ensures.0 c.get-length.ensures.0 c.args.first c.if-first.false c.args.out.now c.requires.2 in
    omega (arith, room_behind)

pub returns : goal.returns
returns c =
    let room_behind : 2 + c.get-length.result ≤ length c.args.out.now =
    room-more c.args.table.now.pool.now c.args.table.now.bytes.now c.args.at c.requires.1 c.get-from.result c.get-length.result c.get-from.ensures.0 c.get-length.ensures.0 c.args.first c.if-first.false c.args.out.now c.requires.2 in
    writes_more c.args.table.now.pool.now c.args.table.now.bytes.now c.args.at c.requires.1 c.get-from.result c.get-length.result c.get-from.ensures.0 c.get-length.ensures.0 c.args.out.now c.args.first c.if-first.false c.put.new.out c.copy-2.new.out c.put.ensures c.copy-2.ensures
    room_behind
