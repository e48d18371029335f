-- `put_way` meets its contract: the root is told by its id.
use mathlib.Core.Path.{sym, ap₂, ◌∙◌}
use lib.Dec.{eqb}
use borrow.Author.Tests.{eq-eqb, ne_eqb}
use Rattle.file_ids.specs.Ids.{id_number}
use Rattle.file_table.specs.Table.{rows}
use Rattle.path_listing.proofs.Ways.{root-out}
use Rattle.path_listing.proofs.put_way.Goals as goal

pub returns-then-id_number : goal.returns-then-id_number
returns-then-id_number c =
    let a = c.args in
    let t = a.table.now in
    root-out t.pool.now (rows t.bytes.now) (id_number a.root) 63 (id_number a.id) a.out.now c.copy.new.out
    (sym (ap₂ eqb c.id_number.ensures c.id_number-2.ensures) ∙ eq-eqb _ _ c.if-id_number.true) c.copy.ensures

pub put_path-requires : goal.put_path-requires
put_path-requires c =
    (sym (ap₂ eqb c.id_number.ensures c.id_number-2.ensures) ∙ ne_eqb _ _ c.if-id_number.false, c.requires)
