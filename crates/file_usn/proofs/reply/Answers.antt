-- `reply` meets its contract: the refusal of the checks, or the record behind them.
use Rattle.std.proofs.lemmas.Result.{err_from_is_err_and}
use mathlib.Core.Path.{refl}
use Rattle.usn_record.proofs.Versions.{told-refuse, told-use}
use Rattle.file_usn.specs.FileUsn.{named_reply}
use Rattle.file_usn.proofs.Writing.{checks-passed}
use Rattle.file_usn.proofs.reply.Goals as goal

pub returns-in_err-version : goal.returns-in_err-version
unfolding named_reply
returns-in_err-version c =
    let p = err_from_is_err_and c.from_residual.result c.from_residual.ensures.1 in
    rw (p.1, p.2, told-refuse _ _ _ c.in_err-version.ensures) (record { answered = refl; output = refl })

pub write_file-requires : goal.write_file-requires
write_file-requires c =
    let a = c.args in
    c.requires (checks-passed a.v a.f a.parent a.table a.input.now _ (told-use _ _ _ c.in_ok-version.ensures).0).1

pub returns : goal.returns
unfolding named_reply
returns c =
    let k = told-use _ _ _ c.in_ok-version.ensures in
    rw (k.0, ← k.1) (c.write_file.ensures _ _ c.fields_of-fields.ensures)
