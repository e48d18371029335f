-- At each id: the root, no step left, no row, or the extent of the parent's path with a name behind it.
use mathlib.Core.Path.{sym, ap, ◌∙◌}
use native.Mathlib.Omega.{arith}
use borrow.Author.Tests.{eq-eqb, ne_eqb}
use Rattle.std.proofs.lemmas.Result.{err_from_is_err_and}
use Rattle.file_table.specs.Table.{rows}
use Rattle.file_table.proofs.Rows.{parent-number}
use Rattle.file_path.specs.Steps.{extent_of}
use Rattle.file_path.proofs.Placing.{no_row, extent-root, extent-spent, measured-refused, measured-first, measured-more, measured-small}
use Rattle.file_path.proofs.+measure.Goals as goal

-- the root
pub returns-then-id-root : goal.returns-then-id-root
returns-then-id-root t c =
    let b = c.args.table.now in extent-root b.pool.now (rows b.bytes.now) c.args.root c.args.left c.args.id (eq-eqb _ _ c.if-id-root.true)

-- no step is left
pub returns-then-left-eq0 : goal.returns-then-left-eq0
returns-then-left-eq0 t c =
    let b = c.args.table.now in
    extent-spent b.pool.now (rows b.bytes.now) c.args.root c.args.left c.args.id (ne_eqb _ _ c.if-id-root.false) c.if-left-eq0.true

-- no row
pub returns-in_default : goal.returns-in_default
returns-in_default t c =
    let b = c.args.table.now in
    sym (ap extent_of (no_row b.pool.now b.bytes.now c.args.root c.args.left c.args.id (ne_eqb _ _ c.if-id-root.false) c.if-left-eq0.false c.in_default.ensures))

-- the parent has no path
pub returns-in_err-n : goal.returns-in_err-n
returns-in_err-n t c =
    let b = c.args.table.now in
    let p = err_from_is_err_and c.from_residual.result c.from_residual.ensures.1 in
    rw (p.1, p.2)
    (measured-refused b.pool.now b.bytes.now b.right c.args.root c.args.left c.args.id c.in-Some.at (ne_eqb _ _ c.if-id-root.false) c.if-left-eq0.false c.in-Some.ensures
    c.key_at-parent.result (c.key_at-parent.ensures ∙ parent-number b.bytes.now c.in-Some.at) c.measure.result c.measure.ensures c.in_err-n.field-0.0 c.in_err-n.was)

-- below the root
pub returns-then-parent-root : goal.returns-then-parent-root
returns-then-parent-root t c =
    let b = c.args.table.now in
    measured-first b.pool.now b.bytes.now b.right c.args.root c.args.left c.args.id c.in-Some.at (ne_eqb _ _ c.if-id-root.false) c.if-left-eq0.false c.in-Some.ensures
    c.key_at-parent.result (c.key_at-parent.ensures ∙ parent-number b.bytes.now c.in-Some.at) c.measure.result c.measure.ensures
    c.in_ok-n.n c.get-length.result c.in_ok-n.was c.get-length.ensures.0 (eq-eqb _ _ c.if-parent-root.true)

-- its bytes, and those of the name
pub overflow_add-result : goal.overflow_add-result
overflow_add-result t c =
    let b = c.args.table.now in
    let small = measured-small b.pool.now b.bytes.now b.right c.args.root c.args.left c.args.id c.in-Some.at (ne_eqb _ _ c.if-id-root.false) c.if-left-eq0.false c.in-Some.ensures
    c.key_at-parent.result (c.key_at-parent.ensures ∙ parent-number b.bytes.now c.in-Some.at) c.measure.result c.measure.ensures c.in_ok-n.n c.get-length.result c.in_ok-n.was c.get-length.ensures.0 c.requires in
    omega (arith, small)

pub overflow_add-result-2 : goal.overflow_add-result-2
overflow_add-result-2 t c =
    let b = c.args.table.now in
    let small = measured-small b.pool.now b.bytes.now b.right c.args.root c.args.left c.args.id c.in-Some.at (ne_eqb _ _ c.if-id-root.false) c.if-left-eq0.false c.in-Some.ensures
    c.key_at-parent.result (c.key_at-parent.ensures ∙ parent-number b.bytes.now c.in-Some.at) c.measure.result c.measure.ensures c.in_ok-n.n c.get-length.result c.in_ok-n.was c.get-length.ensures.0 c.requires in
    omega (arith, small)

-- deeper
pub returns : goal.returns
returns t c =
    let b = c.args.table.now in
    measured-more b.pool.now b.bytes.now b.right c.args.root c.args.left c.args.id c.in-Some.at (ne_eqb _ _ c.if-id-root.false) c.if-left-eq0.false c.in-Some.ensures
    c.key_at-parent.result (c.key_at-parent.ensures ∙ parent-number b.bytes.now c.in-Some.at) c.measure.result c.measure.ensures
    c.in_ok-n.n c.get-length.result c.in_ok-n.was c.get-length.ensures.0 (ne_eqb _ _ c.if-parent-root.false)
