-- `digits_from` meets its contract: "0x" in front, or anything else.
use native.Mathlib.Omega.{arith}
use Rattle.usnpaths.proofs.Digits.{start-short, start-other, start-zero, start-both}
use Rattle.usnpaths.proofs.root.digits_from.Goals as goal

pub returns-then-word-lt2 : goal.returns-then-word-lt2
returns-then-word-lt2 c =
    (start-short c.args.word.now c.if-word-lt2.true, omega arith)

pub returns-then-word-ne48 : goal.returns-then-word-ne48
returns-then-word-ne48 c =
    (start-other c.args.word.now c.if-word-lt2.false (λ q. omega (arith, c.if-word-ne48.true q)), omega arith)

pub returns-then-word-ne120 : goal.returns-then-word-ne120
returns-then-word-ne120 c =
    (start-zero c.args.word.now c.if-word-lt2.false c.if-word-ne48.false (λ q. omega (arith, c.if-word-ne120.true q)), omega arith)

pub returns : goal.returns
returns c =
    (start-both c.args.word.now c.if-word-lt2.false c.if-word-ne48.false c.if-word-ne120.false, omega arith)
