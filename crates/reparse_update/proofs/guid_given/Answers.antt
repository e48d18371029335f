-- `guid_given` meets its contract: the sixteen bytes behind the numbers, or zeroes.
use mathlib.Core.Path.{refl}
use native.Mathlib.Omega.{arith}
use borrow.Author.Tests.{lt-leb}
use Rattle.reparse_update.proofs.Input.{guid-there, guid-copied}
use Rattle.reparse_update.proofs.guid_given.Goals as goal

pub returns-then-tag_given-lt2147483648 : goal.returns-then-tag_given-lt2147483648
returns-then-tag_given-lt2147483648 c =
    let there = guid-there c.args.input.now c.requires (omega (arith, c.tag_given.ensures, c.if-tag_given-lt2147483648.true)) in
    rw (← c.tag_given.ensures, lt-leb _ _ c.if-tag_given-lt2147483648.true) (guid-copied c.args.input.now _ _ there refl c.copy.ensures)
