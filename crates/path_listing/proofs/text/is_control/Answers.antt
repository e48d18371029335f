-- `is_control` meets its contract: each test is one of the definition's.
use mathlib.Core.Path.{◌≡◌, sym, ◌∙◌}
use mathlib.Core.Bool.{false}
use native.Mathlib.Omega.{arith}
use Rattle.path_listing.specs.Text.{within}
use Rattle.path_listing.proofs.Characters.{control-low, control-high, control-line, control-other}
use Rattle.path_listing.proofs.text.is_control.Goals as goal

pub returns-then-c-lt32 : goal.returns-then-c-lt32
returns-then-c-lt32 c =
    control-low c.args.c (omega arith)

pub returns-then-is_within : goal.returns-then-is_within
returns-then-is_within c =
    control-high c.args.c (omega arith) (sym c.is_within.ensures ∙ c.if-is_within.true)

pub returns-then-is_within-2 : goal.returns-then-is_within-2
returns-then-is_within-2 c =
    let no_high : within 0x7F 0x9F c.args.c ≡ false =
    sym c.is_within.ensures ∙ c.if-is_within.false in
    control-line c.args.c (omega arith) no_high (sym c.is_within-2.ensures ∙ c.if-is_within-2.true)

pub returns : goal.returns
returns c =
    let no_high : within 0x7F 0x9F c.args.c ≡ false =
    sym c.is_within.ensures ∙ c.if-is_within.false in
    c.is_within-3.ensures ∙ control-other c.args.c (omega arith) no_high (sym c.is_within-2.ensures ∙ c.if-is_within-2.false)
