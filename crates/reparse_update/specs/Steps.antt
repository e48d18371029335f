-- What the steps that post, and store the journal's positions, give and leave.
use Rattle.std.specs.Prelude.{◌≡◌, cond, List, ℕ, eqb, Result}
use Rattle.status.specs.declared.Status.{Status}
use Rattle.status.specs.Check.{granted}
use Rattle.volume.specs.declared.Volume.{Volume}
use Rattle.volume.specs.Calls.{at_positions}
use Rattle.journal_post.specs.declared.Change.{Change}
use Rattle.journal_post.specs.Post.{verdict, rejection, post_outcome, post_ring, post_usn}
use Rattle.reparse_update.specs.declared.Posted.{Posted}
use Rattle.reparse_update.specs.Update.{point_change}

-- what the post leaves of both records
abbrev pub posted : Volume → List ℕ → ℕ → Change → List ℕ → Posted
posted v ring usn c name =
    let w = (post_outcome v ring c name).volume in
    record { first = w.first; last = w.last; usn = post_usn v ring c name usn }

-- that is given unless the post is refused, and the ring is the post's
pub record Posts (v : Volume) (ring : List ℕ) (usn : ℕ) (c : Change) (name : List ℕ) (r : Result Posted Status) (ringNow : List ℕ) : Type 0 where
  pub given : r ≡ granted (rejection (verdict v ring (point_change c) name)) (posted v ring usn (point_change c) name)
  pub written : ringNow ≡ post_ring v ring (point_change c) name

-- the volume record with the journal's positions, if its end has moved
abbrev pub moved : Volume → Posted → Volume
moved v p = cond (eqb p.last v.last) v (at_positions v p.first p.last)
