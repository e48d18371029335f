-- `give` meets its contract: the fields and the name are those of the row, and a good row's name is short.
use mathlib.Core.Path.{refl}
use Prim.Native.Nat.{◌+◌, ◌≤◌}
use native.Mathlib.Omega.{arith}
use lib.ListN.{length}
use Rattle.file_enumeration.proofs.Filling.{give-fits, give-short, give-written}
use Rattle.file_enumeration.proofs.give.Goals.{After-get}
use Rattle.file_enumeration.proofs.give.Goals as goal

-- the name lies inside the pool
fits : (c : After-get) → c.get-from.result + c.get.result ≤ length c.args.pool.now
fits c = give-fits c.args.pool.now c.args.table.now c.args.at c.get-from.result c.get.result c.get-from.ensures.0 c.get.ensures.0 c.requires.1

pub overflow_add-to : goal.overflow_add-to
overflow_add-to c =
    omega (arith, fits (goal.at.overflow_add-to c).After-get)

pub slice_bounds-put_split-end : goal.slice_bounds-put_split-end
slice_bounds-put_split-end c =
    omega (arith, fits (goal.at.slice_bounds-put_split-end c).After-get)

pub slice_bounds-put_split-end-2 : goal.slice_bounds-put_split-end-2
slice_bounds-put_split-end-2 c =
    omega (arith, fits (goal.at.slice_bounds-put_split-end-2 c).After-get)

pub put_split-requires : goal.put_split-requires
put_split-requires c =
    omega (arith, give-short c.args.pool.now c.args.table.now c.args.at c.get-from.result c.get.result c.get-from.ensures.0 c.get.ensures.0 c.requires.1)

pub returns : goal.returns
returns c =
    give-written c.args.pool.now c.args.table.now c.args.at c.get-from.result c.get.result c.get-from.ensures.0 c.get.ensures.0 c.requires.1
    (λ i. omega (arith, c.type_inv.table i)) c.requires.0 (c.args.at + 16) (c.args.at + 32) refl refl c.id_from-file.result c.id_from-parent.result c.get-usn.result c.get-attributes.result
    c.id_from-file.ensures c.id_from-parent.ensures c.get-usn.ensures.0 c.get-attributes.ensures.0 c.args.v c.fields_of-fields.result c.args.out.now c.put_split.new.out c.put_split.result c.fields_of-fields.ensures c.put_split.ensures
