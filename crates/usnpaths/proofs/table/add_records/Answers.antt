use mathlib.Core.Path.{◌≡◌, sym, ap, ◌∙◌}
use mathlib.Core.Bool.{Bool, false}
use mathlib.Core.List.{◌∷◌}
use Prim.Native.Nat.{◌+◌, ◌-◌, ◌^◌}
use native.Mathlib.Omega.{arith}
use lib.Dec.{eqb}
use lib.ListN.{length, length-take, length-drop}
use Rattle.file_ids.specs.Ids.{id_number}
use Rattle.usn_record.specs.declared.Fields.{Fields}
use Rattle.usn_record.specs.Layout.{length_of}
use Rattle.usn_listing.proofs.Listing.{Met, there, met}
use Rattle.usnpaths.specs.Rows.{added_of}
use Rattle.usnpaths.proofs.Adding.{added-last, added-many, added-long}
use Rattle.usnpaths.proofs.Filling.{all, met_next, met-result, met-length, filled-start, filled_more, filled-end}
use Rattle.usnpaths.proofs.table.add_records.Goals as goal

pub loop-at-init : goal.loop-at-init
loop-at-init c =
    filled-start c.args.table.now c.args.pool.now c.args.s.now c.args.taken c.requires.0 c.requires.1 c.requires.3

pub entry_at-entry-requires : goal.entry_at-entry-requires
entry_at-entry-requires c =
    there c.args.s.now c.loop-at.at c.loop-at.invariant.rest c.loop-at-test.true c.loop-at.invariant.onward

pub returns-then-is_last : goal.returns-then-is_last
returns-then-is_last c =
    let first : Met c.args.s.now c.loop-at.at c.loop-at.invariant.rest c.entry_at-entry.result =
    met c.args.s.now c.loop-at.at c.loop-at.invariant.rest c.loop-at-test.true c.loop-at.invariant.onward c.entry_at-entry.result c.entry_at-entry.ensures in
    let tested : (b : Bool) → c.is_last.result ≡ b → eqb (id_number first.first.fields.file) (2 ^ 64 - 1) ≡ b =
    λ b e. ap (λ (f : Fields). eqb (id_number f.file) (2 ^ 64 - 1)) (sym first.fields) ∙ sym c.is_last.ensures ∙ e in
    let result : let l = c.loop-at in let s = c.args in added_of (length s.table.now) (length s.pool.now) 8 s.taken (all s.s.now) ≡ added_of (length s.table.now) (length s.pool.now) l.at (record { rows = l.rows; names = l.names }) (first.first ∷ first.more) =
    let l = c.loop-at in
    let s = c.args in
    met-result s.table.now s.pool.now s.s.now l.table l.pool l.at l.rows l.names s.taken c.entry_at-entry.result l.invariant first in
    let m = first in
    (sym (result ∙ added-last _ _ _ _ m.first m.more (tested _ c.if-is_last.true)), tt, tt)

pub returns-then-table-rows-lt-ROW : goal.returns-then-table-rows-lt-ROW
returns-then-table-rows-lt-ROW c =
    let first : Met c.args.s.now c.loop-at.at c.loop-at.invariant.rest c.entry_at-entry.result =
    met c.args.s.now c.loop-at.at c.loop-at.invariant.rest c.loop-at-test.true c.loop-at.invariant.onward c.entry_at-entry.result c.entry_at-entry.ensures in
    let tested : (b : Bool) → c.is_last.result ≡ b → eqb (id_number first.first.fields.file) (2 ^ 64 - 1) ≡ b =
    λ b e. ap (λ (f : Fields). eqb (id_number f.file) (2 ^ 64 - 1)) (sym first.fields) ∙ sym c.is_last.ensures ∙ e in
    let result : let l = c.loop-at in let s = c.args in added_of (length s.table.now) (length s.pool.now) 8 s.taken (all s.s.now) ≡ added_of (length s.table.now) (length s.pool.now) l.at (record { rows = l.rows; names = l.names }) (first.first ∷ first.more) =
    let l = c.loop-at in
    let s = c.args in
    met-result s.table.now s.pool.now s.s.now l.table l.pool l.at l.rows l.names s.taken c.entry_at-entry.result l.invariant first in
    let m = first in
    (sym (result ∙ added-many _ _ _ _ m.first m.more (tested _ c.if-is_last.false) (omega (arith, c.if-table-rows-lt-ROW.true, c.loop-at.invariant.same-table))), tt, tt)

pub returns-then-pool-names : goal.returns-then-pool-names
returns-then-pool-names c =
    let first : Met c.args.s.now c.loop-at.at c.loop-at.invariant.rest c.entry_at-entry.result =
    met c.args.s.now c.loop-at.at c.loop-at.invariant.rest c.loop-at-test.true c.loop-at.invariant.onward c.entry_at-entry.result c.entry_at-entry.ensures in
    let tested : (b : Bool) → c.is_last.result ≡ b → eqb (id_number first.first.fields.file) (2 ^ 64 - 1) ≡ b =
    λ b e. ap (λ (f : Fields). eqb (id_number f.file) (2 ^ 64 - 1)) (sym first.fields) ∙ sym c.is_last.ensures ∙ e in
    let result : let l = c.loop-at in let s = c.args in added_of (length s.table.now) (length s.pool.now) 8 s.taken (all s.s.now) ≡ added_of (length s.table.now) (length s.pool.now) l.at (record { rows = l.rows; names = l.names }) (first.first ∷ first.more) =
    let l = c.loop-at in
    let s = c.args in
    met-result s.table.now s.pool.now s.s.now l.table l.pool l.at l.rows l.names s.taken c.entry_at-entry.result l.invariant first in
    let m = first in
    let v = c.loop-at.invariant in (
      sym (result
          ∙ added-long _ _ _ _ m.first m.more (tested _ c.if-is_last.false) (omega (arith, c.if-table-rows-lt-ROW.false, v.same-table)) (omega (arith, c.if-pool-names.true, v.same-pool, met-length _ _ _ _ m))),
      tt,
      tt,
    )

pub put_row-requires : goal.put_row-requires
put_row-requires c =
    let first : Met c.args.s.now c.loop-at.at c.loop-at.invariant.rest c.entry_at-entry.result =
    met c.args.s.now c.loop-at.at c.loop-at.invariant.rest c.loop-at-test.true c.loop-at.invariant.onward c.entry_at-entry.result c.entry_at-entry.ensures in
    let m = first in
    (omega (arith, m), simp (length-take, length-drop) (omega arith))

pub overflow_add-behind : goal.overflow_add-behind
overflow_add-behind c =
    let first : Met c.args.s.now c.loop-at.at c.loop-at.invariant.rest c.entry_at-entry.result =
    met c.args.s.now c.loop-at.at c.loop-at.invariant.rest c.loop-at-test.true c.loop-at.invariant.onward c.entry_at-entry.result c.entry_at-entry.ensures in
    omega (arith, first)

pub slice_bounds-copy-count-in-loop-at : goal.slice_bounds-copy-count-in-loop-at
slice_bounds-copy-count-in-loop-at c =
    let first : Met c.args.s.now c.loop-at.at c.loop-at.invariant.rest c.entry_at-entry.result =
    met c.args.s.now c.loop-at.at c.loop-at.invariant.rest c.loop-at-test.true c.loop-at.invariant.onward c.entry_at-entry.result c.entry_at-entry.ensures in
    omega (arith, first)

pub slice_bounds-copy-start-in-loop-at : goal.slice_bounds-copy-start-in-loop-at
slice_bounds-copy-start-in-loop-at c =
    let first : Met c.args.s.now c.loop-at.at c.loop-at.invariant.rest c.entry_at-entry.result =
    met c.args.s.now c.loop-at.at c.loop-at.invariant.rest c.loop-at-test.true c.loop-at.invariant.onward c.entry_at-entry.result c.entry_at-entry.ensures in
    omega (arith, first)

pub slice_bounds-copy-end-in-loop-at : goal.slice_bounds-copy-end-in-loop-at
slice_bounds-copy-end-in-loop-at c =
    let first : Met c.args.s.now c.loop-at.at c.loop-at.invariant.rest c.entry_at-entry.result =
    met c.args.s.now c.loop-at.at c.loop-at.invariant.rest c.loop-at-test.true c.loop-at.invariant.onward c.entry_at-entry.result c.entry_at-entry.ensures in
    omega (arith, first)

pub copy-requires : goal.copy-requires
copy-requires c =
    let first : Met c.args.s.now c.loop-at.at c.loop-at.invariant.rest c.entry_at-entry.result =
    met c.args.s.now c.loop-at.at c.loop-at.invariant.rest c.loop-at-test.true c.loop-at.invariant.onward c.entry_at-entry.result c.entry_at-entry.ensures in
    simp (length-take, length-drop) (omega (arith, first))

pub loop-at-smaller : goal.loop-at-smaller
loop-at-smaller c =
    let first : Met c.args.s.now c.loop-at.at c.loop-at.invariant.rest c.entry_at-entry.result =
    met c.args.s.now c.loop-at.at c.loop-at.invariant.rest c.loop-at-test.true c.loop-at.invariant.onward c.entry_at-entry.result c.entry_at-entry.ensures in
    omega (arith, first)

pub loop-at-preserved : goal.loop-at-preserved
loop-at-preserved c =
    let first : Met c.args.s.now c.loop-at.at c.loop-at.invariant.rest c.entry_at-entry.result =
    met c.args.s.now c.loop-at.at c.loop-at.invariant.rest c.loop-at-test.true c.loop-at.invariant.onward c.entry_at-entry.result c.entry_at-entry.ensures in
    let next : c.entry_at-entry.result.next ≡ c.loop-at.at + length_of first.first =
    met_next c.args.s.now c.loop-at.at c.loop-at.invariant.rest c.entry_at-entry.result c.loop-at-test.true c.loop-at.invariant.onward first c.entry_at-entry.ensures in
    let tested : (b : Bool) → c.is_last.result ≡ b → eqb (id_number first.first.fields.file) (2 ^ 64 - 1) ≡ b =
    λ b e. ap (λ (f : Fields). eqb (id_number f.file) (2 ^ 64 - 1)) (sym first.fields) ∙ sym c.is_last.ensures ∙ e in
    let other : eqb (id_number first.first.fields.file) (2 ^ 64 - 1) ≡ false =
    tested _ c.if-is_last.false in
    filled_more c.args.table.now c.args.pool.now c.args.s.now c.loop-at.table c.loop-at.pool c.put_row.new.out c.copy.new.out
    c.loop-at.at c.loop-at.rows c.loop-at.names c.args.taken c.entry_at-entry.result c.loop-at.invariant first next other c.if-table-rows-lt-ROW.false c.if-pool-names.false c.put_row.auto.out c.copy.auto.out
    c.put_row.ensures.0 c.copy.ensures

pub returns : goal.returns
returns c =
    let s = c.args in
    filled-end s.table.now s.pool.now s.s.now c.loop-at.table c.loop-at.pool c.loop-at.at c.loop-at.rows c.loop-at.names s.taken c.loop-at.invariant c.loop-at-test.false
