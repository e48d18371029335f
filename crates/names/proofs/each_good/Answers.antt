use Rattle.std.proofs.lemmas.Bool.{not_from_true, not_from_false}
use Rattle.std.specs.Slice.Iter.{chunks_exact_rest}
use mathlib.Core.Path.{◌≡◌, sym, ap, ◌∙◌}
use Prim.Native.Nat.{◌+◌, ◌≤◌}
use native.Mathlib.Omega.{arith}
use lib.ListN.{length, drop}
use Rattle.le.specs.Numbers.{number_at}
use Rattle.le.proofs.Places.{piece_at}
use Rattle.names.specs.Names.{good_unit}
use Rattle.names.proofs.Units.{units-nil, stops, goes_on}
use Rattle.names.proofs.each_good.Goals as goal
use Rattle.names.proofs.each_good.Goals.{In-Some}

-- where the unit stands, and that what is left stands behind it
here : (c : In-Some) → let i = c.loop-unit.invariant.0 in let s = c.args.s.now in
    (number_at c.in-Some.unit.now 0 2 ≡ number_at s i 2) × (chunks_exact_rest c.next.new.self ≡ drop (i + 2) s) × (i + 2 ≤ length s)
here c =
    let i = c.loop-unit.invariant in
    let e = c.in-Some.ensures.steps.1 in
    piece_at c.args.s.now c.in-Some.unit.now _ i.0 2 i.1 (i.2 ∙ e.0) (e.1 ∙ i.3)

pub returns-then-not-good_unit : goal.returns-then-not-good_unit
returns-then-not-good_unit c =
    let h = here (goal.at.returns-then-not-good_unit c).In-Some in
    stops c.args.s.now _ h.2 c.good_unit.result (c.good_unit.ensures ∙ ap good_unit (c.get.ensures.0 ∙ h.0)) (not_from_false _ c.if-not-good_unit.true) c.loop-unit.invariant.4

pub loop-unit-preserved : goal.loop-unit-preserved
loop-unit-preserved c =
    let i = c.loop-unit.invariant in
    let h = here (goal.at.loop-unit-preserved c).In-Some in
    let e = c.in-Some.ensures.steps.0 ∙ i.3 in (
      i.0 + 2,
      h.2,
      sym h.1,
      e,
      goes_on c.args.s.now _ h.2 c.good_unit.result (c.good_unit.ensures ∙ ap good_unit (c.get.ensures.0 ∙ h.0)) (not_from_true _ c.if-not-good_unit.false) i.4,
      omega (arith, e),
      tt,
    )

pub returns : goal.returns
returns c =
    let i = c.loop-unit.invariant in
    units-nil (drop i.0 c.args.s.now) (omega (arith, c.in-None.ensures.steps.1.0, ap length i.2, i.3)) ∙ i.4
