-- `is_below` meets its contract.
use mathlib.Core.Path.{ap₂, ◌∙◌}
use lib.Dec.{ltb}
use Rattle.file_table.proofs.Rows.{id-number}
use Rattle.file_table.proofs.is_below.Goals as goal

pub returns : goal.returns
returns c =
    let a = c.args in ap₂ ltb (c.key_at.ensures ∙ id-number a.table.now a.a) (c.key_at-2.ensures ∙ id-number a.table.now a.b)
