-- `hex_digit` meets its contract: each branch is one arm of the definition.
use borrow.Author.Tests.{lt-ltb, le-ltb}
use Rattle.hex_text.specs.Hex.{hex_digit}
use Rattle.hex_text.proofs.hex_digit.Goals as goal

pub returns-then-d-lt10 : goal.returns-then-d-lt10
unfolding hex_digit
returns-then-d-lt10 c =
    rw (lt-ltb _ 10 c.if-d-lt10.true)

pub returns-else-d-lt10 : goal.returns-else-d-lt10
unfolding hex_digit
returns-else-d-lt10 c =
    rw (le-ltb _ 10 c.if-d-lt10.false)
