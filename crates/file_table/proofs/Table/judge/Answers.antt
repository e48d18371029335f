-- `judge` meets its contract: whole rows, each of them, their order, and where that is another, ids that stand twice.
use mathlib.Core.Path.{sym, ap, ◌∙◌}
use mathlib.Core.Bool.{not}
use native.Mathlib.Omega.{arith}
use Rattle.file_table.specs.Table.{rows}
use Rattle.file_table.proofs.Judging.{uneven, row-bad, right, duplicate-bad, none-of}
use Rattle.file_table.proofs.Rising.{rising-distinct}
use Rattle.file_table.proofs.Table.judge.Goals as goal

pub returns-then-bytes-ne0 : goal.returns-then-bytes-ne0
returns-then-bytes-ne0 c =
    let a = c.args in (none-of a.pool.now a.bytes.now (uneven a.pool.now a.bytes.now (λ e. c.if-bytes-ne0.true (omega (arith, e)))), tt)

pub returns-then-not-good_rows : goal.returns-then-not-good_rows
returns-then-not-good_rows c =
    let a = c.args in
    (none-of a.pool.now a.bytes.now (row-bad a.pool.now a.bytes.now (omega (arith, c.if-bytes-ne0.false)) (sym c.good_rows.ensures ∙ c.if-not-good_rows.true)), tt)

pub invariant_of-result-clause-right : goal.invariant_of-result-clause-right
invariant_of-result-clause-right c =
    let a = c.args in
    right a.pool.now a.bytes.now (omega (arith, c.if-bytes-ne0.false)) (sym c.good_rows.ensures ∙ c.if-not-good_rows.false)
    (rising-distinct (rows a.bytes.now) (sym c.rises.ensures ∙ c.if-rises.true))

pub returns-then-has_duplicates : goal.returns-then-has_duplicates
returns-then-has_duplicates c =
    let a = c.args in (
      none-of a.pool.now a.bytes.now (duplicate-bad a.pool.now a.bytes.now (omega (arith, c.if-bytes-ne0.false)) (sym c.good_rows.ensures ∙ c.if-not-good_rows.false)
          (sym c.has_duplicates.ensures ∙ ap not c.if-has_duplicates.true)),
      tt,
    )

pub invariant_of-result-2-clause-right : goal.invariant_of-result-2-clause-right
invariant_of-result-2-clause-right c =
    let a = c.args in
    right a.pool.now a.bytes.now (omega (arith, c.if-bytes-ne0.false)) (sym c.good_rows.ensures ∙ c.if-not-good_rows.false) (sym c.has_duplicates.ensures ∙ ap not c.if-has_duplicates.false)
