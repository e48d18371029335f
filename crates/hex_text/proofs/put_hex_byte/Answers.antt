-- `put_hex_byte` meets its contract: the two digits take the place of the first two bytes.
use Rattle.hex_text.proofs.Digits.{put_two}
use Rattle.hex_text.proofs.put_hex_byte.Goals as goal

pub returns : goal.returns
returns c =
    put_two c.args.out.now c.hex_digit.result c.hex_digit-2.result _ c.requires c.hex_digit.ensures c.hex_digit-2.ensures
