-- How a journal and its history go together.
-- Assumes nothing.
use mathlib.Core.Path.{◌≡◌}
use mathlib.Core.Bool.{true, false}
use mathlib.Core.List.{List, [], ◌++◌}
use Prim.Native.Nat.{ℕ, ◌-◌, ◌%◌, ◌^◌, ◌≤◌, ◌<◌}
use lib.ListN.{length}
use Rattle.status.specs.Check.{passes}
use Rattle.volume.specs.State.{supported, is_active, good_capacity}
use Rattle.usn_record.specs.Layout.{Record}
use Rattle.records.specs.Records.{joined}
use Rattle.journal.specs.Kept.{kept_bytes}
use Rattle.journal_post.specs.Posts.{Journal}
use Rattle.reparse_point.specs.Reparse.{points_check}
use Rattle.history.specs.Log.{History, posted}
use Rattle.journal_post.proofs.Links.{Chain}
use Rattle.history.proofs.Effects.{usable}

-- while the history is live: the volume record agrees with it, and the ring's kept bytes are the records left
pub record Live (j : Journal) (h : History) : Type 0 where
  pub supported : supported j.volume.journal ≡ true
  pub active : is_active j.volume ≡ true
  pub buffer : length j.ring ≡ j.volume.capacity
  pub capacity : j.volume.capacity ≡ h.capacity
  pub id : j.volume.id ≡ h.id
  pub first : j.volume.first ≡ h.first
  pub last : j.volume.last ≡ h.end
  pub points : passes (points_check j.volume) ≡ h.points
  pub bytes : kept_bytes j.volume j.ring ≡ joined h.left

-- a history's records are chains that fit the capacity, whether it is live or not
pub record Shape (base first end size : ℕ) (dropped left : List Record) : Type 0 where
  pub gone : Chain base dropped first
  pub here : Chain first left end
  pub low : end < 2 ^ 63
  pub first_eight : first % 8 ≡ 0
  pub end_eight : end % 8 ≡ 0
  pub capacity : good_capacity size ≡ true
  pub span : end - first ≤ size

pub record Sim (j : Journal) (h : History) : Type 0 where
  pub shape : Shape h.base h.first h.end h.capacity h.dropped h.left
  pub live : h.live ≡ true → Live j h
  pub dead : h.live ≡ false → usable j ≡ false

-- the history's posted records and end only grow; nothing is dropped where nothing is posted
pub record Grow (h k : History) : Type 0 where
  pub more : List Record
  pub parts : posted k ≡ posted h ++ more
  pub chain : Chain h.end more k.end
  pub base : k.base ≡ h.base
  pub calm : more ≡ [] → k.first ≡ h.first
