-- A call that succeeds has passed its checks: none of them refuses with the status of a success.
-- Assumes nothing.
use mathlib.Core.Path.{◌≡◌}
use mathlib.Core.Bool.{Bool, true, false, cond}
use mathlib.Core.List.{List}
use Rattle.std.specs.Prelude.{Option, None, Some}
use Prim.Native.Nat.{ℕ}
use native.Mathlib.Omega.{arith}
use lib.Dec.{eqb}
use lib.ListN.{length}
use borrow.Author.Tests.{eq-eqb}
use Rattle.status.specs.declared.Status.{Status}
use Rattle.status.specs.declared.Status.TheVariants.{Success}
use Rattle.status.specs.Number.{number}
use Rattle.status.proofs.Checking.{Never, never-none, never-else, nevers}
use Rattle.volume.specs.declared.Volume.{Volume}
use Rattle.file_record.specs.declared.FileRecord.{FileRecord}
use Rattle.journal_post.specs.declared.Change.{Change}
use Rattle.journal_post.specs.declared.Verdict.TheVariants.{Skip}
use Rattle.journal_post.specs.Post.{skipped, post_check, checked, verdict, rejection}
use Rattle.journal_post.specs.Posts.{Journal, Posting}
use Rattle.reparse_point.specs.Reparse.{points_check}
use Rattle.reparse_update.specs.declared.Update.{Update}
use Rattle.reparse_update.specs.Update.{given_check, point_posting, Point, update_check}

-- a status that comes from such checks is not a success
pub never-zero : (x : Status) → Never Success (Some x) → number x ≡ 0 → ⊥
never-zero x n e =
    let a : eqb (number x) 0 ≡ true = eq-eqb (number x) 0 e in
    let b : eqb (number x) 0 ≡ false = n.other in
    let z : ◌≡◌ {A = ℕ} 0 1 = cc in
    omega arith

never-post : (v : Volume) (ring name : List ℕ) → Never Success (post_check v ring name)
unfolding post_check
never-post v ring name = search nevers

pub never-rejected : (v : Volume) (ring : List ℕ) (c : Change) (name : List ℕ) → Never Success (rejection (verdict v ring c name))
unfolding verdict
never-rejected v ring c name = go (skipped v c) (post_check v ring name) (never-post v ring name)
  where
    go : (t : Bool) (k : Option Status) → Never Success k → Never Success (rejection (cond t Skip (checked k)))
    go true k n = never-none
    go false None n = never-none
    go false (Some x) n = n

never-given : (u : Update) (f : FileRecord) (n : ℕ) (input : List ℕ) → Never Success (given_check u f n input)
unfolding given_check
never-given u f n input = search nevers depth 8

pub never-updated : (u : Update) (j : Journal) (p : Point) (q : Posting) (input : List ℕ) → Never Success (update_check u j p q input)
unfolding update_check
never-updated u j p q input =
    never-else (points_check j.volume) _ (search nevers)
    (never-else (given_check u p.file (length p.store) input) _ (never-given u p.file (length p.store) input)
    (never-rejected j.volume j.ring (point_posting q).change (point_posting q).name))
