-- `good_name` meets its contract: what is lent anew is the whole name.
use mathlib.Core.Path.{ap, ◌∙◌}
use native.Mathlib.Omega.{arith}
use Rattle.le.proofs.Tail.{lent-tail}
use Rattle.names.specs.Names.{good_units}
use Rattle.names.proofs.Names.{long-name, odd-name, even-name}
use Rattle.names.proofs.good_name.Goals as goal

pub returns-then-name-gt510 : goal.returns-then-name-gt510
returns-then-name-gt510 c =
    long-name c.args.name.now (omega arith)

pub returns-then-name-ne0 : goal.returns-then-name-ne0
returns-then-name-ne0 c =
    odd-name c.args.name.now (omega arith) (λ e. omega arith)

pub returns-then-name-lt8 : goal.returns-then-name-lt8
returns-then-name-lt8 c =
    let name = c.args.name.now in
    c.each_good.ensures ∙ ap good_units (lent-tail 0 name (omega arith)) ∙ even-name name (omega arith) (omega arith)

pub returns : goal.returns
returns c =
    let name = c.args.name.now in
    c.good_units.ensures ∙ ap good_units (lent-tail 0 name (omega arith)) ∙ even-name name (omega arith) (omega arith)
