-- `reply` meets its contract: behind the checks, the header with the data behind it.
use mathlib.Core.Path.{refl, sym, ◌∙◌}
use native.Mathlib.Omega.{arith}
use lib.Seq.{length-take-le}
use Rattle.status.proofs.Checking.{told-passed}
use Rattle.reparse_point.specs.Reparse.{reparse_reply}
use Rattle.reparse_point.proofs.Writing.{passed-fits, reply-given}
use Rattle.reparse_point.proofs.reply.Goals as goal

pub slice_bounds-put_reparse-end-2 : goal.slice_bounds-put_reparse-end-2
slice_bounds-put_reparse-end-2 c =
    let a = c.args in
    let k = passed-fits a.v a.f _ _ (sym c.in_ok-judge_reparse.was ∙ c.judge_reparse.ensures) in
    sym (length-take-le a.f.length a.store.now k.1)

pub put_reparse-requires : goal.put_reparse-requires
put_reparse-requires c =
    let a = c.args in
    let k = passed-fits a.v a.f _ _ (sym c.in_ok-judge_reparse.was ∙ c.judge_reparse.ensures) in
    (k.0, omega arith, omega (arith, k.2, length-take-le a.f.length a.store.now k.1))

pub returns : goal.returns
unfolding reparse_reply
returns c =
    let a = c.args in
    let passes = sym c.in_ok-judge_reparse.was ∙ c.judge_reparse.ensures in
    rw (told-passed _ passes)
    (reply-given a.f a.store.now _ _ _ _ (omega arith) (passed-fits a.v a.f _ _ passes).1 refl c.put_reparse.ensures.0 c.put_reparse.ensures.1)
