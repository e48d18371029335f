-- `put_utf8` meets its contract: one byte, two, three or four, by the character's range.
use native.Mathlib.Omega.{arith}
use lib.ListN.{length-set}
use Rattle.path_listing.proofs.Characters.{utf8-one, utf8-two, utf8-three, utf8-four}
use Rattle.path_listing.proofs.text.put_utf8.Goals as goal

pub returns-then-c-lt128 : goal.returns-then-c-lt128
returns-then-c-lt128 c =
    utf8-one c.args.out.now c.requires.1 c.args.c (omega arith)

pub bounds-out-1 : goal.bounds-out-1
bounds-out-1 c =
    simp length-set (omega arith)

pub returns-then-c-lt2048 : goal.returns-then-c-lt2048
returns-then-c-lt2048 c =
    utf8-two c.args.out.now c.requires.1 c.args.c (omega arith) (omega arith)

pub bounds-out-1-then-c-lt65536 : goal.bounds-out-1-then-c-lt65536
bounds-out-1-then-c-lt65536 c =
    simp length-set (omega arith)

pub bounds-out-2 : goal.bounds-out-2
bounds-out-2 c =
    simp length-set (omega arith)

pub returns-then-c-lt65536 : goal.returns-then-c-lt65536
returns-then-c-lt65536 c =
    utf8-three c.args.out.now c.requires.1 c.args.c (omega arith) (omega arith) (omega arith)

pub bounds-out-1-2 : goal.bounds-out-1-2
bounds-out-1-2 c =
    simp length-set (omega arith)

pub bounds-out-2-2 : goal.bounds-out-2-2
bounds-out-2-2 c =
    simp length-set (omega arith)

pub bounds-out-3 : goal.bounds-out-3
bounds-out-3 c =
    simp length-set (omega arith)

pub returns : goal.returns
returns c =
    utf8-four c.args.out.now c.requires.1 c.args.c (omega arith) (omega arith) (omega arith)
