-- `put_next` meets its contract: the last code unit, a code unit that is not in a pair, or a pair.
use mathlib.Core.Path.{sym, ◌∙◌}
use native.Mathlib.Omega.{arith}
use Rattle.path_listing.specs.Text.{unit_text, pair_text}
use Rattle.path_listing.proofs.Characters.{text-last, text-unit, text-pair, front}
use Rattle.path_listing.proofs.text.put_next.Goals as goal

pub returns-then-path-at-lt4 : goal.returns-then-path-at-lt4
returns-then-path-at-lt4 c =
    let e = text-last c.args.path.now c.args.at c.get-u.result c.get-u.ensures.0 c.requires.0 c.if-path-at-lt4.true in
    let f = front c.put_unit.result 6 (unit_text c.get-u.result) c.args.out.now c.put_unit.new.out _ _ c.put_unit.ensures e in
    (omega arith, c.requires.0, omega arith, f.0, f.1)

pub returns-then-not-is_pair : goal.returns-then-not-is_pair
returns-then-not-is_pair c =
    let e = text-unit c.args.path.now c.args.at c.get-u.result c.get-u.ensures.0 c.get-v.result c.get-v.ensures.0 c.if-path-at-lt4.false
    (sym c.is_pair.ensures ∙ c.if-not-is_pair.true) in
    let f = front c.put_unit-then-not-is_pair.result 6 (unit_text c.get-u.result) c.args.out.now c.put_unit-then-not-is_pair.new.out _ _ c.put_unit-then-not-is_pair.ensures e in
    (omega arith, c.requires.0, omega arith, f.0, f.1)

pub put_pair-requires : goal.put_pair-requires
put_pair-requires c =
    (sym c.is_pair.ensures ∙ c.if-not-is_pair.false, omega arith)

pub returns : goal.returns
returns c =
    let e = text-pair c.args.path.now c.args.at c.get-u.result c.get-u.ensures.0 c.get-v.result c.get-v.ensures.0 c.if-path-at-lt4.false
    (sym c.is_pair.ensures ∙ c.if-not-is_pair.false) in
    let f = front c.put_pair.result 12 (pair_text c.get-u.result c.get-v.result) c.args.out.now c.put_pair.new.out _ _ c.put_pair.ensures e in
    (omega arith, omega arith, omega arith, f.0, f.1)
