-- `put_unit` meets its contract: a code unit as it is, or as an escape.
use mathlib.Core.Path.{sym, ◌∙◌}
use Rattle.path_listing.proofs.Characters.{unit-shown, unit-escaped}
use Rattle.path_listing.proofs.text.put_unit.Goals as goal

pub returns-then-is_shown : goal.returns-then-is_shown
returns-then-is_shown c =
    unit-shown c.args.u c.args.out.now c.put_utf8.new.out c.put_utf8.result (sym c.is_shown.ensures ∙ c.if-is_shown.true) c.put_utf8.ensures

pub returns : goal.returns
returns c =
    unit-escaped c.args.u c.args.out.now c.put_escape.new.out (sym c.is_shown.ensures ∙ c.if-is_shown.false) c.put_escape.ensures
