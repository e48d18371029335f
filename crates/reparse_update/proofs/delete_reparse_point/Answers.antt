-- `delete_reparse_point` meets its contract: the refusal of the checks or of the post, or no point.
use mathlib.Core.Path.{refl, sym, ◌∙◌}
use Rattle.std.proofs.lemmas.Result.{err_from_is_err_and}
use Rattle.reparse_update.specs.declared.Update.TheVariants.{Delete}
use Rattle.reparse_update.proofs.Updating.{check-refuses, post-refuses, post-takes}
use Rattle.reparse_update.proofs.delete_reparse_point.Goals as goal

pub returns-in_err-judge_update : goal.returns-in_err-judge_update
returns-in_err-judge_update c =
    let a = c.args in
    let p = err_from_is_err_and c.from_residual.result c.from_residual.ensures.1 in
    rw (p.1, p.2)
    (check-refuses Delete a.v.now a.ring.now a.f.now a.store.now a.c a.name.now a.input.now _
    (sym c.in_err-judge_update.was ∙ c.judge_update.ensures))

pub returns-in_err-posted : goal.returns-in_err-posted
returns-in_err-posted c =
    let a = c.args in
    let p = err_from_is_err_and c.from_residual-in_err-posted.result c.from_residual-in_err-posted.ensures.1 in
    rw (p.1, p.2)
    (post-refuses Delete a.v.now a.ring.now a.f.now a.store.now a.c a.name.now a.input.now
    (sym c.in_ok-judge_update.was ∙ c.judge_update.ensures) _ _ c.post_point.ensures _ c.in_err-posted.was)

pub returns : goal.returns
returns c =
    let a = c.args in
    post-takes Delete a.v.now a.ring.now a.f.now a.store.now a.c a.name.now a.input.now
    (sym c.in_ok-judge_update.was ∙ c.judge_update.ensures) _ _ c.post_point.ensures _ c.in_ok-posted.was _ _ _ _ refl refl _ c.move_journal.ensures
