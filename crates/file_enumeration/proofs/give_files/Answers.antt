-- `give_files` meets its contract: nothing selected, a first file that does not fit, or the page behind its id.
use mathlib.Core.Path.{◌≡◌, refl, ap, ◌∙◌, subst}
use mathlib.Core.Bool.{false}
use Prim.Native.Nat.{ℕ, ◌-◌}
use lib.ListN.{length, length-drop}
use Rattle.le.proofs.Tail.{lent, lent-tail}
use Rattle.file_enumeration.specs.Enumerate.{files_of, is_empty, page_of}
use Rattle.file_enumeration.specs.Steps.{Sends}
use Rattle.file_enumeration.proofs.Replying.{reply-end, reply-full, reply-given}
use Rattle.file_enumeration.proofs.give_files.Goals.{After-fill-sent}
use Rattle.file_enumeration.proofs.give_files.Goals as goal

-- a file is selected
some_file : (c : After-fill-sent) → is_empty (files_of c.args.q c.args.table.now.bytes.now) ≡ false
some_file c =
    rw c.in-Some.ensures.0 refl

room : (c : After-fill-sent) → length (lent 8 c.args.output.now) ≡ length c.args.output.now - 8
room c = ap length (lent-tail 8 c.args.output.now c.requires) ∙ length-drop 8 c.args.output.now

-- the page is that of the room behind the id
sends : (c : After-fill-sent) → let a = c.args in
    Sends a.v a.table.now.pool.now (page_of a.v a.table.now.pool.now (length a.output.now - 8) a.q.start (files_of a.q a.table.now.bytes.now)) (lent 8 a.output.now) c.fill-sent.result c.fill-sent.new.out
sends c =
    let a = c.args in
    subst (λ (k : ℕ). Sends a.v a.table.now.pool.now (page_of a.v a.table.now.pool.now k a.q.start (files_of a.q a.table.now.bytes.now)) (lent 8 a.output.now) c.fill-sent.result c.fill-sent.new.out) (room c) c.fill-sent.ensures

pub returns-in_default : goal.returns-in_default
returns-in_default c =
    let a = c.args in reply-end a.v a.table.now.pool.now (files_of a.q a.table.now.bytes.now) _ a.output.now _ c.in_default.ensures refl

pub returns-then-sent-eq0 : goal.returns-then-sent-eq0
returns-then-sent-eq0 c =
    let a = c.args in
    let k = (goal.at.returns-then-sent-eq0 c).After-fill-sent in
    reply-full a.v a.table.now.pool.now (files_of a.q a.table.now.bytes.now) (some_file k) _ a.output.now c.requires c.fill-sent.result c.fill-sent.new.out (sends k) _ c.if-sent-eq0.true refl

pub returns : goal.returns
returns c =
    let a = c.args in
    let k = (goal.at.returns c).After-fill-sent in
    reply-given a.v a.table.now.pool.now (files_of a.q a.table.now.bytes.now) (some_file k) _ a.output.now c.requires c.fill-sent.result c.fill-sent.new.out (sends k) _ c.put.new.out c.if-sent-eq0.false
    c.put.ensures refl
