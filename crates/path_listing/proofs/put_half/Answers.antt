-- `put_half` meets its contract: the upper 32 bits, and behind them the lower.
use Rattle.path_listing.proofs.Ways.{half_out}
use Rattle.path_listing.proofs.put_half.Goals as goal

pub returns : goal.returns
returns c =
    half_out c.args.x c.args.out.now c.put_hex_word.new.out c.put_hex_word-2.new.out c.requires c.put_hex_word.ensures c.put_hex_word-2.ensures
