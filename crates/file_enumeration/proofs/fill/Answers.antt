use mathlib.Core.Path.{◌≡◌, subst}
use Rattle.std.specs.Prelude.{Option, Some}
use Prim.Native.Nat.{ℕ, suc, ◌+◌}
use native.Mathlib.Omega.{arith}
use Rattle.file_table.specs.Steps.{id_at}
use Rattle.file_table.proofs.Places.{table-whole}
use Rattle.file_enumeration.specs.Enumerate.{starting_at}
use Rattle.file_enumeration.specs.Steps.{Ahead}
use Rattle.file_enumeration.proofs.Finding.{ahead-next}
use Rattle.file_enumeration.proofs.Filling.{Filled, Turned, fill_start, fill-inside, fill-good, turned, fill_end}
use Rattle.file_enumeration.proofs.fill.Goals.{After-get-id, After-give}
use Rattle.file_enumeration.proofs.fill.Goals as goal

-- the page so far, with a file at the place
met : (c : After-get-id) → let a = c.args in let b = a.table.now in let l = c.loop-place in
    Filled a.v b.pool.now b.bytes.now a.out.now b.right a.q l.out l.next (Some c.in-Some.at) l.done
met c =
    let a = c.args in
    let b = a.table.now in
    let l = c.loop-place in
    subst (λ (p : Option ℕ). Filled a.v b.pool.now b.bytes.now a.out.now b.right a.q l.out l.next p l.done) c.in-Some.is l.invariant

-- what a turn comes to
turn : (c : After-give) → let a = c.args in let b = a.table.now in let l = c.loop-place in
    Turned a.v b.pool.now b.bytes.now a.out.now b.right a.q l.out l.next c.in-Some.at l.done c.get-id.result c.give.result c.give.new.out
turn c =
    let a = c.args in
    let b = a.table.now in
    let l = c.loop-place in
    let i : Filled a.v b.pool.now b.bytes.now a.out.now b.right a.q l.out l.next (Some c.in-Some.at) l.done =
    subst (λ (p : Option ℕ). Filled a.v b.pool.now b.bytes.now a.out.now b.right a.q l.out l.next p l.done) c.in-Some.is l.invariant in
    turned a.v b.pool.now b.bytes.now a.out.now b.right a.q l.out l.next c.in-Some.at l.done i c.get-id.result c.get-id.ensures.0 c.get-id.ensures.1 c.give.result c.give.new.out c.give.ensures

pub loop-place-init : goal.loop-place-init
loop-place-init c =
    let a = c.args in
    let b = a.table.now in fill_start a.v b.pool.now b.bytes.now a.out.now b.right a.q a.first c.requires

pub give-requires : goal.give-requires
give-requires c =
    let a = c.args in
    let b = a.table.now in
    let l = c.loop-place in
    let i = met (goal.at.give-requires c).After-get-id in (
      fill-inside a.v b.pool.now b.bytes.now a.out.now b.right a.q l.out l.next c.in-Some.at l.done i,
      fill-good a.v b.pool.now b.bytes.now a.out.now b.right a.q l.out l.next c.in-Some.at l.done i,
    )

pub returns-in_default-give : goal.returns-in_default-give
returns-in_default-give c =
    (turn (goal.at.returns-in_default-give c).After-give).cut _ c.in_default-give.is

pub overflow_add-next : goal.overflow_add-next
overflow_add-next c =
    omega (arith, (turn (goal.at.overflow_add-next c).After-give).successor)

-- the search goes on behind the row
pub first_file-place-requires : goal.first_file-place-requires
first_file-place-requires c =
    let a = c.args in
    let b = a.table.now in
    let l = c.loop-place in
    let t = turn (goal.at.first_file-place-requires c).After-give in
    let at = c.in-Some.at in
    let n : suc (id_at b.bytes.now at) ≡ c.get-id.result + 1 = omega (arith, t.own) in
    let m = (met (goal.at.first_file-place-requires c).After-get-id).leads.2 in
    let w = table-whole b.pool.now b.bytes.now b.right in
    λ o. (
      t.inside,
      omega (arith, m),
      subst (λ (x : ℕ). Ahead (starting_at a.q x) b.bytes.now (at + 56)) n (ahead-next a.q b.bytes.now w (b.rises o) at m (omega (arith, t.inside))),
    )

pub loop-place-smaller : goal.loop-place-smaller
loop-place-smaller c =
    omega (arith, (turn (goal.at.loop-place-smaller c).After-give).room _ c.in-Ok.is)

pub loop-place-preserved : goal.loop-place-preserved
loop-place-preserved c =
    (turn (goal.at.loop-place-preserved c).After-give).onward _ c.in-Ok.is c.first_file-place.result c.first_file-place.ensures

pub returns : goal.returns
returns c =
    let a = c.args in
    let b = a.table.now in
    let l = c.loop-place in
    fill_end a.v b.pool.now b.bytes.now a.out.now b.right a.q l.out l.next l.done
    (subst (λ (p : Option ℕ). Filled a.v b.pool.now b.bytes.now a.out.now b.right a.q l.out l.next p l.done) c.in_default.is l.invariant)
