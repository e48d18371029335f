-- `is_selected` meets its contract: the tests in their order.
use native.Mathlib.Omega.{arith}
use Rattle.le.specs.Bytes.{Bytes}
use Rattle.file_enumeration.proofs.Selecting.{wide-out, parent-out, start-out, low-out, by_high}
use Rattle.file_enumeration.proofs.is_selected.Goals as goal

pub returns-then-get-ne0 : goal.returns-then-get-ne0
returns-then-get-ne0 c =
    let bytes : Bytes c.args.table.now =
    λ i. omega (arith, c.type_inv.table i) in
    wide-out c.args.table.now bytes c.args.at c.requires c.args.q c.get.result c.get.ensures.0 c.if-get-ne0.true

pub returns-then-get-ne0-2 : goal.returns-then-get-ne0-2
returns-then-get-ne0-2 c =
    let bytes : Bytes c.args.table.now =
    λ i. omega (arith, c.type_inv.table i) in
    parent-out c.args.table.now bytes c.args.at c.requires c.args.q c.get.result c.get.ensures.0 c.if-get-ne0.false c.get-2.result c.get-2.ensures.0 c.if-get-ne0-2.true

pub returns-then-get-q : goal.returns-then-get-q
returns-then-get-q c =
    let bytes : Bytes c.args.table.now =
    λ i. omega (arith, c.type_inv.table i) in
    start-out c.args.table.now bytes c.args.at c.requires c.args.q c.get.result c.get.ensures.0 c.if-get-ne0.false c.get-2.result c.get-2.ensures.0 c.if-get-ne0-2.false
    c.get-3.result c.get-3.ensures.0 c.if-get-q.true

pub returns-then-not-from_low : goal.returns-then-not-from_low
returns-then-not-from_low c =
    let bytes : Bytes c.args.table.now =
    λ i. omega (arith, c.type_inv.table i) in
    low-out c.args.table.now bytes c.args.at c.requires c.args.q c.get.result c.get.ensures.0 c.if-get-ne0.false c.get-2.result c.get-2.ensures.0 c.if-get-ne0-2.false
    c.get-3.result c.get-3.ensures.0 c.if-get-q.false c.get-usn.result c.get-usn.ensures.0 c.from_low.result c.from_low.ensures c.if-not-from_low.true

pub returns : goal.returns
returns c =
    let bytes : Bytes c.args.table.now =
    λ i. omega (arith, c.type_inv.table i) in
    by_high c.args.table.now bytes c.args.at c.requires c.args.q c.get.result c.get.ensures.0 c.if-get-ne0.false c.get-2.result c.get-2.ensures.0 c.if-get-ne0-2.false
    c.get-3.result c.get-3.ensures.0 c.if-get-q.false c.get-usn.result c.get-usn.ensures.0 c.from_low.result c.from_low.ensures c.if-not-from_low.false c.to_high.result c.to_high.ensures
