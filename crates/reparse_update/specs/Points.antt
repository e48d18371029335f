-- What setting and deleting a reparse point come to: what a get replies then, and what the post decides.
use Rattle.std.specs.Prelude.{◌≡◌, List, ℕ, ◌≤◌, ◌<◌, length, take, None}
use Rattle.le.specs.Bytes.{Bytes}
use Rattle.status.specs.declared.Status.{Status}
use Rattle.status.specs.declared.Status.TheVariants.{Success, BufferTooSmall, NotAReparsePoint}
use Rattle.status.specs.Reply.{Reply, refuse, give}
use Rattle.volume.specs.declared.Volume.{Volume}
use Rattle.journal_post.specs.declared.Verdict.TheVariants.{Skip, Reject, Accept}
use Rattle.journal_post.specs.Post.{end_of, verdict}
use Rattle.journal_post.specs.Posts.{Journal, Posting, after_post}
use Rattle.reparse_point.specs.Reparse.{header_length, points_check, reparse_reply}
use Rattle.reparse_update.specs.declared.Update.{Update}
use Rattle.reparse_update.specs.declared.Update.TheVariants.{Set, Delete}
use Rattle.reparse_update.specs.Update.{given_tag, given_check, point_change, point_posting, Point, new_point, update_left}

-- a call that succeeded has left this point
pub record SucceedsWith (u : Update) (j : Journal) (p : Point) (q : Posting) (input : List ℕ) (new : Point) : Type 0 where
  pub success : (update_left u j p q input).status ≡ Success
  pub left : (update_left u j p q input).point ≡ new

-- a get of it, on a volume that supports reparse points and their controls, replies so
abbrev pub Gets : Point → ℕ → Reply → Type 0
Gets p room reply = (w : Volume) → points_check w ≡ None → reparse_reply w p.file p.store room ≡ reply

-- a call that its own checks let pass
pub record Passes (u : Update) (j : Journal) (p : Point) (input : List ℕ) : Type 0 where
  pub supported : points_check j.volume ≡ None
  pub given : given_check u p.file (length p.store) input ≡ None

pub record Points : Type 0 where
  -- after a set: the bytes that were set, as many as have room
  pub part : (j : Journal) (p : Point) (q : Posting) (input : List ℕ) (new : Point) → Bytes input → SucceedsWith Set j p q input new
      → (room : ℕ) → header_length (given_tag input) ≤ room → Gets new room (give Success (take room input))
  -- all of them where the room suffices
  pub whole : (j : Journal) (p : Point) (q : Posting) (input : List ℕ) (new : Point) → Bytes input → SucceedsWith Set j p q input new
      → (room : ℕ) → length input ≤ room → Gets new room (give Success input)
  -- and none where it does not suffice for the header
  pub short : (j : Journal) (p : Point) (q : Posting) (input : List ℕ) (new : Point) → Bytes input → SucceedsWith Set j p q input new
      → (room : ℕ) → room < header_length (given_tag input) → Gets new room (refuse BufferTooSmall)
  -- after a delete there is no reparse point
  pub gone : (j : Journal) (p : Point) (q : Posting) (input : List ℕ) (new : Point) → SucceedsWith Delete j p q input new
      → (room : ℕ) → Gets new room (refuse NotAReparsePoint)
  -- a call that its own checks let pass succeeds where its post is skipped, and leaves the journal and the file's Usn
  pub skips : (u : Update) (j : Journal) (p : Point) (q : Posting) (input : List ℕ) → Passes u j p input
      → verdict j.volume j.ring (point_change q.change) q.name ≡ Skip
      → update_left u j p q input ≡ record { status = Success; journal = j; point = new_point u p p.file.usn input }
  -- it is refused where its post is rejected, with the post's status, and leaves all as it was
  pub rejects : (u : Update) (j : Journal) (p : Point) (q : Posting) (input : List ℕ) → Passes u j p input
      → (x : Status) → verdict j.volume j.ring (point_change q.change) q.name ≡ Reject x
      → update_left u j p q input ≡ record { status = x; journal = j; point = p }
  -- and where its post is accepted it leaves what that leaves, and the new point with the record's Usn
  pub accepts : (u : Update) (j : Journal) (p : Point) (q : Posting) (input : List ℕ) → Passes u j p input
      → verdict j.volume j.ring (point_change q.change) q.name ≡ Accept
      → update_left u j p q input ≡ record { status = Success; journal = after_post j (point_posting q); point = new_point u p (end_of j.volume q.name) input }
  -- the volume record that either leaves still supports them
  pub supports : (u : Update) (j : Journal) (p : Point) (q : Posting) (input : List ℕ) → (update_left u j p q input).status ≡ Success
      → points_check (update_left u j p q input).journal.volume ≡ None
