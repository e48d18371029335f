-- `put_path_line` meets its contract: the id, a space, what is shown of the file, and LF.
use mathlib.Core.Path.{◌≡◌, ◌∙◌}
use Prim.Native.Nat.{ℕ}
use native.Mathlib.Omega.{arith}
use lib.ListN.{length, set, length-set, length-take, length-drop}
use Rattle.le.proofs.Tail.{back}
use Rattle.file_ids.specs.Ids.{id_number}
use Rattle.file_table.specs.Table.{rows}
use Rattle.file_table.specs.Steps.{row_at}
use Rattle.file_table.proofs.Rows.{id-number}
use Rattle.usn_listing.proofs.Writing.{same_back}
use Rattle.path_listing.proofs.Ways.{row-id, row_line}
use Rattle.path_listing.proofs.put_path_line.Goals as goal

pub slice_bounds-put_way-count : goal.slice_bounds-put_way-count
slice_bounds-put_way-count c =
    let spaced_same : length ((set c.put_id.new.out 32 32)) ≡ length ((c.args.out.now)) =
    length-set c.put_id.new.out 32 32 ∙ c.put_id.auto.out in
    omega (arith, spaced_same)

pub slice_bounds-put_way-start : goal.slice_bounds-put_way-start
slice_bounds-put_way-start c =
    let spaced_same : length ((set c.put_id.new.out 32 32)) ≡ length ((c.args.out.now)) =
    length-set c.put_id.new.out 32 32 ∙ c.put_id.auto.out in
    omega (arith, spaced_same)

pub put_way-end-requires : goal.put_way-end-requires
put_way-end-requires c =
    let spaced_same : length ((set c.put_id.new.out 32 32)) ≡ length ((c.args.out.now)) =
    length-set c.put_id.new.out 32 32 ∙ c.put_id.auto.out in
    simp (length-take, length-drop) (omega (arith, spaced_same))

pub bounds-out-end : goal.bounds-out-end
bounds-out-end c =
    let spaced_same : length ((set c.put_id.new.out 32 32)) ≡ length ((c.args.out.now)) =
    length-set c.put_id.new.out 32 32 ∙ c.put_id.auto.out in
    let shown_same : (i : ℕ) → (length ((back 33 ((set c.put_id.new.out 32 32)) c.put_way-end.new.out)) ≡ length ((c.args.out.now))) × (length (set ((back 33 ((set c.put_id.new.out 32 32)) c.put_way-end.new.out)) i 10) ≡ length ((c.args.out.now))) =
    λ i. same_back 33 i 10 ((c.args.out.now)) ((set c.put_id.new.out 32 32)) c.put_way-end.new.out spaced_same c.put_way-end.auto.out in
    omega (arith, (shown_same 0).0)

pub shape_of-out : goal.shape_of-out
shape_of-out c =
    let spaced_same : length ((set c.put_id.new.out 32 32)) ≡ length ((c.args.out.now)) =
    length-set c.put_id.new.out 32 32 ∙ c.put_id.auto.out in
    let shown_same : (i : ℕ) → (length ((back 33 ((set c.put_id.new.out 32 32)) c.put_way-end.new.out)) ≡ length ((c.args.out.now))) × (length (set ((back 33 ((set c.put_id.new.out 32 32)) c.put_way-end.new.out)) i 10) ≡ length ((c.args.out.now))) =
    λ i. same_back 33 i 10 ((c.args.out.now)) ((set c.put_id.new.out 32 32)) c.put_way-end.new.out spaced_same c.put_way-end.auto.out in
    (shown_same _).1

pub returns : goal.returns
returns c =
    let t = c.args.table.now in
    row_line t.pool.now (rows t.bytes.now) (id_number c.args.root) (row_at t.bytes.now c.args.at) c.key_at.result c.put_way-end.result c.id_from-id.result c.args.out.now
    c.put_id.new.out c.put_way-end.new.out c.requires.2 (row-id t.bytes.now c.id_from-id.result c.args.at c.key_at.result c.key_at.type_inv c.key_at.ensures c.id_from-id.ensures)
    (c.key_at.ensures ∙ id-number t.bytes.now c.args.at) c.put_id.ensures c.put_way-end.ensures
