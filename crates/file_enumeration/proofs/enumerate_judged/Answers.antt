-- `enumerate_judged` meets its contract: the refusal of the input, or the files of its query.
use mathlib.Core.Path.{refl}
use native.Mathlib.Omega.{arith}
use Rattle.std.proofs.lemmas.Result.{err_from_is_err_and}
use Rattle.usn_record.proofs.Versions.{told-refuse, told-use}
use Rattle.file_enumeration.proofs.Replying.{input-sized}
use Rattle.file_enumeration.proofs.enumerate_judged.Goals as goal

pub returns-in_err-version : goal.returns-in_err-version
returns-in_err-version c =
    let p = err_from_is_err_and c.from_residual.result c.from_residual.ensures.1 in
    rw (p.1, p.2, told-refuse _ _ _ c.in_err-version.ensures) (record { answered = refl; output = refl })

pub get-requires : goal.get-requires
get-requires c =
    omega (arith, input-sized _ _ _ c.in_ok-version.ensures)

pub get-requires-2 : goal.get-requires-2
get-requires-2 c =
    omega (arith, input-sized _ _ _ c.in_ok-version.ensures)

pub get-requires-3 : goal.get-requires-3
get-requires-3 c =
    omega (arith, input-sized _ _ _ c.in_ok-version.ensures)

pub give_files-requires : goal.give_files-requires
give_files-requires c =
    (input-sized _ _ _ c.in_ok-version.ensures).1

pub returns : goal.returns
returns c =
    let k = told-use _ _ _ c.in_ok-version.ensures in
    rw (k.0, ← k.1, ← c.get.ensures.0, ← c.get-2.ensures.0, ← c.get-3.ensures.0) c.give_files.ensures
