-- What a restart keeps: an image that is cut short or has one word changed is never loaded nor moved, a moved image loads as it did before, and
-- a journal that was saved is there again. All of it holds of both forms.
use Rattle.std.specs.Prelude.{◌≡◌, true, false, List, ℕ, ◌+◌, ◌*◌, ◌^◌, ◌<◌, length, take, drop}
use Rattle.le.specs.Bytes.{Bytes}
use Rattle.status.specs.declared.Status.TheVariants.{Success}
use Rattle.status.specs.Reply.{give}
use Rattle.volume.specs.declared.Volume.{Volume}
use Rattle.volume.specs.Calls.{Outcome}
use Rattle.volume.specs.State.{supported, is_active, is_deleting}
use Rattle.journal.specs.Kept.{kept}
use Rattle.image_save.specs.Save.{save_reply}
use Rattle.image_load.specs.Load.{load_outcome, load_ring}
use Rattle.image_move.specs.Moves.{MovedTo}

-- ---- images

-- s loads into this volume record and ring, under this id
abbrev pub Loads : Volume → List ℕ → List ℕ → ℕ → Type 0
Loads v ring s id = (load_outcome v ring s id).status ≡ Success

-- s loads nowhere, and is moved from no form
pub record NeverTaken (s : List ℕ) : Type 0 where
  pub loads : (v : Volume) (ring : List ℕ) (id : ℕ) → Loads v ring s id → ⊥
  pub moves : (from : ℕ) (t : List ℕ) → MovedTo from s t → ⊥

-- saving this journal in some form, with room enough, writes s
abbrev pub SavedAs : Volume → List ℕ → List ℕ → Type 0
SavedAs v ring s = (form : ℕ) × (room : ℕ) × (save_reply v ring form room ≡ give Success s)

-- the journal's arguments have their types: its ring is bytes, its id a u64
abbrev pub TypedJournal : Volume → List ℕ → Type 0
TypedJournal v ring = Bytes ring × (v.id < 2 ^ 64)

-- an image: it loads somewhere, or it can be moved, or saving or a move has written it
pub data IsImage (s : List ℕ) : Type 0 where
  loads : (v : Volume) (ring : List ℕ) (id : ℕ) → Loads v ring s id → IsImage s
  moves : (from : ℕ) (t : List ℕ) → MovedTo from s t → IsImage s
  saved : (v : Volume) (ring : List ℕ) → TypedJournal v ring → SavedAs v ring s → IsImage s
  moved : (from : ℕ) (r : List ℕ) → Bytes r → MovedTo from r s → IsImage s

-- t is s but for the 32-bit word k, which is another
pub record OtherWord (k : ℕ) (s t : List ℕ) : Type 0 where
  pub size : length t ≡ length s
  pub front : take (4 * k) t ≡ take (4 * k) s
  pub back : drop (4 * k + 4) t ≡ drop (4 * k + 4) s
  pub other : t ≡ s → ⊥

-- ---- a volume for a journal to come back to

-- an idle volume w with support for the journal, a ring of the capacity that the volume v has, and an id that is new to both
pub record Ready (v w : Volume) (ring : List ℕ) (id : ℕ) : Type 0 where
  pub support : supported w.journal ≡ true
  pub inactive : is_active w ≡ false
  pub undeleted : is_deleting w ≡ false
  pub capacity : w.capacity ≡ v.capacity
  pub buffer : length ring ≡ w.capacity
  pub nonzero : id ≡ 0 → ⊥
  pub fresh : id ≡ v.id → ⊥
  pub unused : id ≡ w.id → ⊥

-- the journal of v and `ring` is there again under a new id: a call with the outcome o has left it so in its volume record and ring
pub record Again (v : Volume) (ring : List ℕ) (new : ℕ) (o : Outcome) (after : List ℕ) : Type 0 where
  pub status : o.status ≡ Success
  pub active : is_active o.volume ≡ true
  pub id : o.volume.id ≡ new
  pub first : o.volume.first ≡ v.first
  pub last : o.volume.last ≡ v.last
  pub records : kept o.volume after ≡ kept v ring

-- ---- the promise

pub record Restart : Type 0 where
  -- no proper prefix of an image is ever loaded or moved
  pub cut : (s : List ℕ) → Bytes s → IsImage s → (n : ℕ) → n < length s → NeverTaken (take n s)
  -- nor is an image with one word changed
  pub word : (s t : List ℕ) (k : ℕ) → Bytes s → Bytes t → IsImage s → OtherWord k s t → NeverTaken t
  -- an image that was moved loads as it did before, wherever that is: the same status, volume record and ring
  pub moved : (from : ℕ) (s t : List ℕ) → Bytes s → MovedTo from s t → (v : Volume) (ring : List ℕ) (id : ℕ)
      → (load_outcome v ring t id ≡ load_outcome v ring s id) × (load_ring v ring t id ≡ load_ring v ring s id)
  -- an image that saving wrote brings back first position, LastUsn and the kept records
  pub again : (v : Volume) (ring s : List ℕ) → TypedJournal v ring → SavedAs v ring s → (w : Volume) (other : List ℕ) (id : ℕ) → Ready v w other id
      → Again v ring id (load_outcome w other s id) (load_ring w other s id)
