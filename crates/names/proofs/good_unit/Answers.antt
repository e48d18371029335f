-- `good_unit` meets its contract.
use native.Mathlib.Omega.{arith}
use Rattle.names.proofs.Units.{not-zero, not-slash, last-test}
use Rattle.names.proofs.good_unit.Goals as goal

pub returns-then-u-eq0 : goal.returns-then-u-eq0
returns-then-u-eq0 c =
    not-zero c.args.u (omega arith)

pub returns-then-u-eq47 : goal.returns-then-u-eq47
returns-then-u-eq47 c =
    not-slash c.args.u (omega arith)

pub returns : goal.returns
returns c =
    last-test c.args.u (λ e. omega arith) (λ e. omega arith)
