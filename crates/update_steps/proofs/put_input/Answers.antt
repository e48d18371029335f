-- `put_input` meets its contract: three numbers, one behind the other, by `input_put`.
use Rattle.update_steps.proofs.Reading.{input_put}
use Rattle.update_steps.proofs.put_input.Goals as goal

pub returns : goal.returns
returns c =
    let a = c.args in
    input_put a.id a.start a.mask a.out.now c.put.new.out c.put-2.new.out c.put-3.new.out c.requires c.put.ensures
    c.put-2.ensures c.put-3.ensures
