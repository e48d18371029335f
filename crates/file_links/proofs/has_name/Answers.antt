-- `has_name` meets its contract: each return by the number that is asked for.
use mathlib.Core.Bool.{true, false}
use Rattle.file_links.proofs.Choosing.{has-asked}
use Rattle.file_links.proofs.has_name.Goals as goal

pub returns-then-short : goal.returns-then-short
returns-then-short c =
    has-asked _ true _ c.if-short.true

pub returns : goal.returns
returns c =
    has-asked _ false _ c.if-short.false
