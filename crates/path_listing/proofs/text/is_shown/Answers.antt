-- `is_shown` meets its contract: each test is one of the definition's.
use mathlib.Core.Path.{◌≡◌, sym, ◌∙◌}
use mathlib.Core.Bool.{false}
use native.Mathlib.Omega.{arith}
use Rattle.path_listing.specs.Text.{within, is_control}
use Rattle.path_listing.proofs.Characters.{shown-control, shown-half, shown-none, shown-last, shown-other}
use Rattle.path_listing.proofs.text.is_shown.Goals as goal

pub returns-then-is_control : goal.returns-then-is_control
returns-then-is_control c =
    shown-control c.args.c (sym c.is_control.ensures ∙ c.if-is_control.true)

pub returns-then-is_within : goal.returns-then-is_within
returns-then-is_within c =
    let no_control : is_control c.args.c ≡ false =
    sym c.is_control.ensures ∙ c.if-is_control.false in
    shown-half c.args.c no_control (sym c.is_within.ensures ∙ c.if-is_within.true)

pub returns-then-is_within-2 : goal.returns-then-is_within-2
returns-then-is_within-2 c =
    let no_control : is_control c.args.c ≡ false =
    sym c.is_control.ensures ∙ c.if-is_control.false in
    let no_half : within 0xD800 0xDFFF c.args.c ≡ false =
    sym c.is_within.ensures ∙ c.if-is_within.false in
    shown-none c.args.c no_control no_half (sym c.is_within-2.ensures ∙ c.if-is_within-2.true)

pub returns-then-c-ge65534 : goal.returns-then-c-ge65534
returns-then-c-ge65534 c =
    let no_control : is_control c.args.c ≡ false =
    sym c.is_control.ensures ∙ c.if-is_control.false in
    let no_half : within 0xD800 0xDFFF c.args.c ≡ false =
    sym c.is_within.ensures ∙ c.if-is_within.false in
    let no_none : within 0xFDD0 0xFDEF c.args.c ≡ false =
    sym c.is_within-2.ensures ∙ c.if-is_within-2.false in
    shown-last c.args.c no_control no_half no_none (omega arith)

pub returns : goal.returns
returns c =
    let no_control : is_control c.args.c ≡ false =
    sym c.is_control.ensures ∙ c.if-is_control.false in
    let no_half : within 0xD800 0xDFFF c.args.c ≡ false =
    sym c.is_within.ensures ∙ c.if-is_within.false in
    let no_none : within 0xFDD0 0xFDEF c.args.c ≡ false =
    sym c.is_within-2.ensures ∙ c.if-is_within-2.false in
    shown-other c.args.c no_control no_half no_none (omega arith)
