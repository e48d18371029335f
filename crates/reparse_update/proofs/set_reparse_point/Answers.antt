-- `set_reparse_point` meets its contract: the refusal of the checks or of the post, or what was given is stored.
use mathlib.Core.Path.{◌≡◌, refl, sym, ap, ◌∙◌}
use mathlib.Core.Bool.{true}
use Rattle.std.specs.Prelude.{Ok}
use Prim.Native.Nat.{◌≤◌}
use native.Mathlib.Omega.{arith}
use lib.ListN.{length}
use Rattle.std.proofs.lemmas.Result.{err_from_is_err_and}
use Rattle.status.specs.Check.{else, judged}
use Rattle.reparse_point.specs.Reparse.{header_length, points_check}
use Rattle.reparse_update.specs.declared.Update.TheVariants.{Set}
use Rattle.reparse_update.specs.Update.{given_tag, is_laid_out, given_check}
use Rattle.reparse_update.proofs.Input.{Parts, parts-of}
use Rattle.reparse_update.proofs.Updating.{passed-facts, data-fits, data-put, check-refuses, post-refuses, post-takes}
use Rattle.reparse_update.proofs.set_reparse_point.Goals.{After-post_point, After-header_length}
use Rattle.reparse_update.proofs.set_reparse_point.Goals as goal

-- the call's own checks have passed
passed : (c : After-post_point)
    → Ok tt ≡ judged (else (points_check c.args.v.now) (given_check Set c.args.f.now (length c.args.store.now) c.args.input.now))
passed c = sym c.in_ok-judge_update.was ∙ c.judge_update.ensures

-- so the input is laid out, and the store has room for any data
facts : (c : After-post_point) → (is_laid_out c.args.input.now ≡ true) × (16376 ≤ length c.args.store.now)
facts c = passed-facts Set c.args.v.now c.args.f.now (length c.args.store.now) c.args.input.now (passed c)

parts : (c : After-post_point) → Parts c.args.input.now
parts c = parts-of c.args.input.now (facts c).0

head_is : (c : After-header_length) → c.header_length.result ≡ header_length (given_tag c.args.input.now)
head_is c = c.header_length.ensures.0 ∙ ap header_length c.tag_given-tag.ensures

pub returns-in_err-judge_update : goal.returns-in_err-judge_update
returns-in_err-judge_update c =
    let a = c.args in
    let p = err_from_is_err_and c.from_residual.result c.from_residual.ensures.1 in
    rw (p.1, p.2)
    (check-refuses Set a.v.now a.ring.now a.f.now a.store.now a.c a.name.now a.input.now _
    (sym c.in_err-judge_update.was ∙ c.judge_update.ensures))

pub returns-in_err-posted : goal.returns-in_err-posted
returns-in_err-posted c =
    let a = c.args in
    let p = err_from_is_err_and c.from_residual-in_err-posted.result c.from_residual-in_err-posted.ensures.1 in
    rw (p.1, p.2)
    (post-refuses Set a.v.now a.ring.now a.f.now a.store.now a.c a.name.now a.input.now
    (passed (goal.at.returns-in_err-posted c).After-post_point) _ _ c.post_point.ensures _ c.in_err-posted.was)

pub tag_given-tag-requires : goal.tag_given-tag-requires
tag_given-tag-requires c =
    omega (arith, (parts (goal.at.tag_given-tag-requires c).After-post_point).eight)

pub slice_bounds-copy-count : goal.slice_bounds-copy-count
slice_bounds-copy-count c =
    let k = goal.at.slice_bounds-copy-count c in
    omega (arith, head_is k.After-header_length, (parts k.After-post_point).header)

pub slice_bounds-copy-start : goal.slice_bounds-copy-start
slice_bounds-copy-start c =
    let k = goal.at.slice_bounds-copy-start c in
    let within : c.header_length.result ≤ length c.args.input.now = omega (arith, head_is k.After-header_length, (parts k.After-post_point).header) in
    within

pub copy-requires : goal.copy-requires
copy-requires c =
    let k = goal.at.copy-requires c in
    let f = facts k.After-post_point in
    data-fits c.args.input.now _ (head_is k.After-header_length) (length c.args.store.now) f.0 f.1

pub guid_given-f-requires : goal.guid_given-f-requires
guid_given-f-requires c =
    (facts (goal.at.guid_given-f-requires c).After-post_point).0

pub length_given-f-requires : goal.length_given-f-requires
length_given-f-requires c =
    omega (arith, (parts (goal.at.length_given-f-requires c).After-post_point).eight)

pub returns : goal.returns
returns c =
    let a = c.args in
    let k = goal.at.returns c in
    post-takes Set a.v.now a.ring.now a.f.now a.store.now a.c a.name.now a.input.now
    (passed k.After-post_point) _ _ c.post_point.ensures _ c.in_ok-posted.was _ _ _ _
    (rw (c.tag_given-tag.ensures, c.guid_given-f.ensures, c.length_given-f.ensures.0) refl)
    (data-put a.input.now _ (head_is k.After-header_length) a.store.now _ c.copy.ensures) _ c.move_journal.ensures
