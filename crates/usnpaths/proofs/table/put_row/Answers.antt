-- `put_row` meets its contract: the numbers stand behind the ids.
use mathlib.Core.Path.{refl}
use lib.ListN.{drop}
use Rattle.ring_writer.proofs.Writing.{held}
use Rattle.usnpaths.proofs.Filling.{row_out}
use Rattle.usnpaths.proofs.table.put_row.Goals as goal

pub returns : goal.returns
returns c =
    let a = c.args in
    let b = held a.fields c.well_formed.1.0 in
    row_out a.fields.usn a.fields.attributes a.size a.place b.usn b.attributes c.requires.0 c.ranges.place.fits a.fields.file a.fields.parent
    (drop 56 a.out.now) b.file b.parent a.out.now c.put_ids.new.out c.put_numbers.new.out c.requires.1 refl c.put_ids.ensures c.put_numbers.ensures
