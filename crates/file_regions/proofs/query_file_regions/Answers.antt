-- `query_file_regions` meets its contract: the refusal of the checks.
use mathlib.Core.Path.{refl, sym, ◌∙◌}
use lib.ListN.{length}
use Rattle.status.proofs.Checking.{told-refused}
use Rattle.file_regions.specs.Regions.{regions_check, regions_reply}
use Rattle.file_regions.proofs.query_file_regions.Goals as goal

pub returns-in-Err : goal.returns-in-Err
unfolding regions_reply
returns-in-Err c =
    let a = c.args in
    rw (told-refused (regions_check a.v a.f a.input.now (length a.output.now)) _ (sym c.in-Err.is ∙ c.judge_regions.ensures))
    (record { answered = c.from.ensures; output = refl })
