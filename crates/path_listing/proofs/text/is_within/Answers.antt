-- `is_within` meets its contract.
use borrow.Author.Tests.{le-leb, lt-leb}
use Rattle.path_listing.proofs.text.is_within.Goals as goal

pub returns-then-n-a : goal.returns-then-n-a
returns-then-n-a c =
    rw (lt-leb _ _ c.if-n-a.true)

pub returns : goal.returns
returns c =
    rw (le-leb _ _ c.if-n-a.false)
