-- The root has no path; any other file has its name behind the path of its parent.
use mathlib.Core.Path.{◌≡◌, refl, sym, ◌∙◌}
use mathlib.Core.Bool.{false}
use Prim.Native.Nat.{ℕ, ◌-◌, ◌≤◌, ◌<◌}
use native.Mathlib.Omega.{arith}
use lib.Arith.{lt_of_le-ne}
use lib.Dec.{eqb}
use lib.ListN.{length, drop, length-drop}
use lib.Seq.{length-take-le}
use borrow.Author.Tests.{eq-eqb, ne_eqb}
use Rattle.file_table.specs.Table.{rows}
use Rattle.file_table.proofs.Rows.{parent-number}
use Rattle.file_path.proofs.Placing.{stands, found-good}
use Rattle.file_path.proofs.Writing.{some_left, some_row, above-fits, both-fit, writes-path, writes-root}
use Rattle.file_path.proofs.+put_path.Goals as goal

positive : (n : ℕ) → (n ≡ 0 → ⊥) → 1 ≤ n
positive n o = let p : 0 < n = lt_of_le-ne (omega arith) (λ z. o (sym z)) in omega arith

-- the root
pub returns-then-id-root : goal.returns-then-id-root
returns-then-id-root t c =
    let b = c.args.table.now in writes-root b.pool.now (rows b.bytes.now) c.args.root c.args.left c.args.id c.args.out.now (eq-eqb _ _ c.if-id-root.true)

-- the row is there
pub unwrap-at-requires : goal.unwrap-at-requires
unwrap-at-requires t c =
    let b = c.args.table.now in
    let not_root : eqb c.args.id c.args.root ≡ false = ne_eqb _ _ c.if-id-root.false in
    some_row b.pool.now b.bytes.now c.args.root c.args.left c.args.id (length c.args.out.now) not_root c.requires c.find.result c.find.ensures

pub key_at-parent-requires : goal.key_at-parent-requires
key_at-parent-requires t c =
    let b = c.args.table.now in
    let there = stands b.bytes.now c.args.id c.find.result c.unwrap-at.result c.unwrap-at.ensures c.find.ensures in
    omega (arith, there.1)

-- a step is left
pub overflow_sub-left : goal.overflow_sub-left
overflow_sub-left t c =
    let b = c.args.table.now in
    let not_root : eqb c.args.id c.args.root ≡ false = ne_eqb _ _ c.if-id-root.false in
    positive c.args.left (some_left b.pool.now b.bytes.now c.args.root c.args.left c.args.id (length c.args.out.now) not_root c.requires)

-- its parent's path fits
pub put_path-n-requires : goal.put_path-n-requires
put_path-n-requires t c =
    let b = c.args.table.now in
    let not_root : eqb c.args.id c.args.root ≡ false = ne_eqb _ _ c.if-id-root.false in
    let there = stands b.bytes.now c.args.id c.find.result c.unwrap-at.result c.unwrap-at.ensures c.find.ensures in
    let left : 1 ≤ c.args.left = positive c.args.left (some_left b.pool.now b.bytes.now c.args.root c.args.left c.args.id (length c.args.out.now) not_root c.requires) in
    (omega (arith, left, c.decreases), above-fits b.pool.now b.bytes.now c.args.root c.args.left c.args.id (length c.args.out.now) not_root c.requires c.unwrap-at.result there c.key_at-parent.result (c.key_at-parent.ensures ∙ parent-number b.bytes.now c.unwrap-at.result))

-- the name with what is in front of it fits behind that
pub put_name-requires : goal.put_name-requires
put_name-requires t c =
    let b = c.args.table.now in
    let not_root : eqb c.args.id c.args.root ≡ false = ne_eqb _ _ c.if-id-root.false in
    let there = stands b.bytes.now c.args.id c.find.result c.unwrap-at.result c.unwrap-at.ensures c.find.ensures in
    let o = c.put_path-n.new.out in
    let n = c.put_path-n.result in
    let fit = both-fit b.pool.now b.bytes.now c.args.root c.args.left c.args.id (length c.args.out.now) not_root c.requires c.unwrap-at.result there c.key_at-parent.result (c.key_at-parent.ensures ∙ parent-number b.bytes.now c.unwrap-at.result) (eqb c.key_at-parent.result c.args.root) refl in (
      there.1,
      found-good b.pool.now b.bytes.now b.right c.args.id c.unwrap-at.result there,
      omega (arith, c.put_path-n.auto.out, c.put_path-n.ensures.0, fit, length-take-le (length o - n) (drop n o) (omega (arith, length-drop n o)), length-drop n o),
    )

-- the name behind it
pub returns : goal.returns
returns t c =
    let b = c.args.table.now in
    let not_root : eqb c.args.id c.args.root ≡ false = ne_eqb _ _ c.if-id-root.false in
    let there = stands b.bytes.now c.args.id c.find.result c.unwrap-at.result c.unwrap-at.ensures c.find.ensures in
    writes-path b.pool.now b.bytes.now c.args.root c.args.left c.args.id (length c.args.out.now) not_root c.requires c.unwrap-at.result there c.key_at-parent.result (c.key_at-parent.ensures ∙ parent-number b.bytes.now c.unwrap-at.result) (eqb c.key_at-parent.result c.args.root) refl
    c.args.out.now c.put_path-n.new.out c.put_name.new.out c.put_path-n.result c.put_name.result refl c.put_path-n.ensures c.put_name.ensures
