-- `put_stop` meets its contract: one of two texts.
use mathlib.Core.Path.{sym, ap, ◌∙◌}
use denote.Enum.Bare.{same_true, same_false}
use Rattle.status.specs.contracts.Status.{the_type}
use Rattle.status.specs.declared.Status.TheVariants.{NameTooLong}
use Rattle.status.specs.Number.{number}
use Rattle.status.proofs.Numbers.{same-status}
use Rattle.path_listing.proofs.Ways.{stop-far, stop-lost}
use Rattle.path_listing.proofs.put_stop.Goals as goal

pub returns-then-eq : goal.returns-then-eq
returns-then-eq c =
    stop-far c.args.x c.args.out.now c.copy.new.out (ap number (same_true the_type tt c.args.x NameTooLong (sym c.eq.ensures ∙ c.if-eq.true))) c.copy.ensures

pub returns : goal.returns
returns c =
    stop-lost c.args.x c.args.out.now c.copy-2.new.out (λ e. same_false the_type c.args.x NameTooLong (sym c.eq.ensures ∙ c.if-eq.false) (same-status c.args.x NameTooLong e)) c.copy-2.ensures
