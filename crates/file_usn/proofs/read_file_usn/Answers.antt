-- `read_file_usn` meets its contract: with a bad table the name does not count, and with a good one the chosen link is good.
use mathlib.Core.Path.{◌≡◌, sym, ◌∙◌}
use mathlib.Core.Bool.{true}
use Rattle.file_links.specs.Links.{name_at, good_table}
use Rattle.file_links.proofs.Tables.{table-told}
use Rattle.file_links.proofs.Choosing.{no-link-good, chosen-good}
use Rattle.file_usn.proofs.Writing.{name-unread}
use Rattle.file_usn.proofs.read_file_usn.Goals as goal

pub read_chosen-requires : goal.read_chosen-requires
read_chosen-requires c =
    λ e. rw c.no_link.ensures (no-link-good _)

pub returns-then-not-good_table : goal.returns-then-not-good_table
returns-then-not-good_table c =
    let a = c.args in
    rw (sym c.good_table.ensures ∙ c.if-not-good_table.true, name-unread a.v a.f a.parent a.input.now a.output.now _ (name_at a.pool.now c.no_link.result))
    c.read_chosen.ensures

pub choose_link-link-requires : goal.choose_link-link-requires
choose_link-link-requires c =
    let right : let a = c.args in good_table a.pool.now a.places.now a.lengths.now a.shorts.now ≡ true =
    sym c.good_table.ensures ∙ c.if-not-good_table.false in
    let t = table-told _ _ _ _ right in
    (t.0, t.1)

pub read_chosen-requires-2 : goal.read_chosen-requires-2
read_chosen-requires-2 c =
    let right : let a = c.args in good_table a.pool.now a.places.now a.lengths.now a.shorts.now ≡ true =
    sym c.good_table.ensures ∙ c.if-not-good_table.false in
    λ e. rw c.choose_link-link.ensures (chosen-good _ _ (table-told _ _ _ _ right).2)

pub returns : goal.returns
returns c =
    let right : let a = c.args in good_table a.pool.now a.places.now a.lengths.now a.shorts.now ≡ true =
    sym c.good_table.ensures ∙ c.if-not-good_table.false in
    rw (right, ← c.choose_link-link.ensures) c.read_chosen-2.ensures
