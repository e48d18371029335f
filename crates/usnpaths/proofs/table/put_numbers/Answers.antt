-- `put_numbers` meets its contract: one number behind another.
use Rattle.usnpaths.proofs.Filling.{numbers-out}
use Rattle.usnpaths.proofs.table.put_numbers.Goals as goal

pub returns : goal.returns
returns c =
    numbers-out c.args.usn c.args.attributes c.args.size c.args.place c.args.out.now c.put.new.out c.put_two.new.out c.put-2.new.out c.requires
    c.put.ensures c.put_two.ensures c.put-2.ensures
