-- `find_rising` meets its contract: only the first row whose id is not lower can have the id.
use mathlib.Core.Path.{◌∙◌}
use Prim.Native.Nat.{◌+◌, ◌≤◌}
use native.Mathlib.Omega.{arith}
use lib.Arith.{lt_of_le-ne}
use lib.ListN.{length}
use Rattle.file_table.proofs.Rows.{id-number}
use Rattle.file_table.proofs.Finding.{parts-found, parts_none}
use Rattle.file_table.proofs.find_rising.Goals as goal

pub returns-then-at-table : goal.returns-then-at-table
returns-then-at-table c =
    let a = c.args in parts_none a.table.now c.requires.1 a.id c.first_from-at.result c.first_from-at.ensures (λ l q. omega (arith, c.if-at-table.true, l))

pub key_at-requires : goal.key_at-requires
key_at-requires c =
    let p = c.first_from-at.ensures in omega (arith, lt_of_le-ne p.inside c.if-at-table.false, p.whole, c.requires.0)

pub returns-then-key_at-id : goal.returns-then-key_at-id
returns-then-key_at-id c =
    let a = c.args in
    let at = c.first_from-at.result in
    parts_none a.table.now c.requires.1 a.id at c.first_from-at.ensures (λ l q. omega (arith, c.if-key_at-id.true, c.key_at.ensures ∙ id-number a.table.now at, q))

pub returns : goal.returns
returns c =
    let a = c.args in
    let at = c.first_from-at.result in
    let p = c.first_from-at.ensures in
    let there : at + 56 ≤ length a.table.now = omega (arith, lt_of_le-ne p.inside c.if-at-table.false, p.whole, c.requires.0) in
    parts-found a.table.now c.requires.1 a.id at p there (omega (arith, c.key_at.ensures ∙ id-number a.table.now at, c.if-key_at-id.false))
