-- `put_path` meets its contract: the text of the path that the reply gives, or why it gives none.
use mathlib.Core.Path.{◌≡◌, sym, ap, ◌∙◌}
use mathlib.Core.Bool.{true}
use Prim.Native.Nat.{◌≤◌}
use native.Mathlib.Omega.{arith}
use lib.ListN.{length, length-take}
use lib.Seq.{length-take-le}
use denote.Enum.Bare.{same_true, same_false}
use Rattle.status.specs.contracts.Status.{the_type}
use Rattle.status.specs.declared.Status.TheVariants.{Success}
use Rattle.status.specs.Number.{number}
use Rattle.status.proofs.Numbers.{same-status}
use Rattle.file_ids.specs.Ids.{id_number}
use Rattle.file_table.specs.Table.{rows}
use Rattle.file_path.specs.Path.{way_of}
use Rattle.file_path.specs.Steps.{path_of}
use Rattle.file_table.proofs.Places.{table-good}
use Rattle.file_path.proofs.Placing.{path_room}
use Rattle.path_listing.specs.Listing.{way_text}
use Rattle.status.proofs.Replies.{count_fits}
use Rattle.path_listing.proofs.Ways.{told, up-told, way-shown, way-stopped, way_out}
use Rattle.path_listing.proofs.put_path.Goals as goal

pub slice_bounds-path-end : goal.slice_bounds-path-end
slice_bounds-path-end c =
    let counted : c.path_in-answer.result.count ≤ length c.path_in-answer.new.output =
    omega (arith, count_fits _ _ _ _ c.path_in-answer.ensures c.path_in-answer.auto.output, c.path_in-answer.auto.output) in
    counted

pub slice_bounds-put_text-end : goal.slice_bounds-put_text-end
slice_bounds-put_text-end c =
    let counted : c.path_in-answer.result.count ≤ length c.path_in-answer.new.output =
    omega (arith, count_fits _ _ _ _ c.path_in-answer.ensures c.path_in-answer.auto.output, c.path_in-answer.auto.output) in
    sym (length-take-le _ _ counted)

pub put_text-requires : goal.put_text-requires
put_text-requires c =
    let size : length c.path_in-answer.new.output ≡ 32766 =
    omega (arith, c.path_in-answer.auto.output) in
    simp length-take (omega (arith, size))

pub returns-then-eq : goal.returns-then-eq
returns-then-eq c =
    let size : length c.path_in-answer.new.output ≡ 32766 =
    omega (arith, c.path_in-answer.auto.output) in
    let room : length (path_of ((let a = c.args in way_of a.table.now.bytes.now a.table.now.pool.now a.id a.root))) ≤ 32766 =
    let a = c.args in
    path_room a.table.now.pool.now (rows a.table.now.bytes.now) (id_number a.root) (table-good a.table.now.pool.now a.table.now.bytes.now a.table.now.right) 64 (id_number a.id) in
    let told_way : told ((let a = c.args in way_of a.table.now.bytes.now a.table.now.pool.now a.id a.root)) ≡ true =
    let a = c.args in
    up-told a.table.now.pool.now (rows a.table.now.bytes.now) (id_number a.root) 63 (id_number a.id) c.requires.0 in
    let e = way-shown c.path_in-answer.result _ c.path_in-answer.new.output 32766 (omega (arith, c.path_in-answer.auto.output)) ((let c = c.args in way_of c.table.now.bytes.now c.table.now.pool.now c.id c.root)) told_way room
    c.path_in-answer.ensures (ap number (same_true the_type tt c.path_in-answer.result.status Success (sym c.eq.ensures ∙ c.if-eq.true))) in
    way_out c.args.out.now c.put_text.new.out _ (way_text ((let c = c.args in way_of c.table.now.bytes.now c.table.now.pool.now c.id c.root))) c.put_text.result _ 98298 c.put_text.ensures e (simp length-take (omega (arith, size)))

pub returns : goal.returns
returns c =
    let room : length (path_of ((let a = c.args in way_of a.table.now.bytes.now a.table.now.pool.now a.id a.root))) ≤ 32766 =
    let a = c.args in
    path_room a.table.now.pool.now (rows a.table.now.bytes.now) (id_number a.root) (table-good a.table.now.pool.now a.table.now.bytes.now a.table.now.right) 64 (id_number a.id) in
    let told_way : told ((let a = c.args in way_of a.table.now.bytes.now a.table.now.pool.now a.id a.root)) ≡ true =
    let a = c.args in
    up-told a.table.now.pool.now (rows a.table.now.bytes.now) (id_number a.root) 63 (id_number a.id) c.requires.0 in
    let e = way-stopped c.path_in-answer.result _ c.path_in-answer.new.output 32766 (omega (arith, c.path_in-answer.auto.output)) ((let c = c.args in way_of c.table.now.bytes.now c.table.now.pool.now c.id c.root)) told_way room
    c.path_in-answer.ensures (λ z. same_false the_type c.path_in-answer.result.status Success (sym c.eq.ensures ∙ c.if-eq.false) (same-status c.path_in-answer.result.status Success z)) in
    way_out c.args.out.now c.put_stop.new.out _ (way_text ((let c = c.args in way_of c.table.now.bytes.now c.table.now.pool.now c.id c.root))) c.put_stop.result 20 98298 c.put_stop.ensures e (omega arith)
