-- `put_hex_word` meets its contract: four bytes, each in the tail behind those before it.
use Rattle.hex_text.specs.Hex.{hex_word}
use Rattle.hex_text.proofs.Digits.{hex-four}
use Rattle.hex_text.proofs.put_hex_word.Goals as goal

pub returns : goal.returns
unfolding hex_word
returns c =
    hex-four _ _ _ _ c.args.out.now c.put_hex_byte.new.out c.put_hex_byte-2.new.out c.put_hex_byte-3.new.out c.put_hex_byte-4.new.out
    c.requires c.put_hex_byte.ensures c.put_hex_byte-2.ensures c.put_hex_byte-3.ensures c.put_hex_byte-4.ensures
