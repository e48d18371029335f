-- A journal whose ring is not sound: refused and left as it is until it is deleted, and sound once it is created anew.
use Rattle.std.specs.Prelude.{◌≡◌, true, false, ℕ, length, None}
use mathlib.Core.List.{List, [], ◌∷◌, Memᴰ}
use Rattle.status.specs.declared.Status.TheVariants.{Success, FileCorruptError}
use Rattle.names.specs.Names.{good_name}
use Rattle.usn_record.specs.Layout.{Record}
use Rattle.volume.specs.State.{supported, is_active}
use Rattle.records.specs.Records.{joined}
use Rattle.journal.specs.Kept.{kept_bytes, sound, kept}
use Rattle.journal_post.specs.Post.{skipped}
use Rattle.journal_post.specs.Posts.{Journal, Posting}
use Rattle.journal_read.specs.Read.{read_check}
use Rattle.image.specs.Forms.{form_version, known}
use Rattle.reparse_point.specs.Reparse.{points_check}
use Rattle.reparse_update.specs.declared.Update.{Update}
use Rattle.reparse_update.specs.Update.{Point, given_check}
use Rattle.history.specs.Calls.{Read, Call, create, post, read, delete, finish, save, update, status_of, runs}

-- it is active, and its ring is not sound
pub record Unsound (j : Journal) : Type 0 where
  pub active : is_active j.volume ≡ true
  pub unsound : sound j.volume j.ring ≡ false

-- no call of the list asks for the deletion of the journal with this id
abbrev pub Undeleted : ℕ → List Call → Type 0
Undeleted id [] = Unit {0}
Undeleted id (c ∷ cs) = (c ≡ delete id → ⊥) × Undeleted id cs

-- the journal is deleted, and created anew under this id
abbrev pub renewed : Journal → ℕ → Journal
renewed j id = runs j (delete j.volume.id ∷ finish ∷ create id ∷ [])

pub record Until : Type 0 where
  -- a ring that keeps a record with a name that is not good is not sound
  pub names : (j : Journal) (rs : List Record) (r : Record) → kept_bytes j.volume j.ring ≡ joined rs → Memᴰ r rs → good_name r.name ≡ false
      → sound j.volume j.ring ≡ false
  -- as long as its deletion is not asked for, no call changes the volume record or a byte of the ring
  pub stays : (j : Journal) → Unsound j → (cs : List Call) → Undeleted j.volume.id cs → runs j cs ≡ j
  -- a post that is not skipped, a read that passes the checks ahead of the ring, a save in a known form, and a set or a delete of a reparse
  -- point that passes the checks ahead of its post are refused
  pub post-refused : (j : Journal) → Unsound j → (p : Posting) → skipped j.volume p.change ≡ false → status_of j (post p) ≡ FileCorruptError
  pub read-refused : (j : Journal) → Unsound j → (a : Read) → read_check j.volume a.input a.room ≡ None → status_of j (read a) ≡ FileCorruptError
  pub save-refused : (j : Journal) → Unsound j → (form room : ℕ) → supported j.volume.journal ≡ true → known (form_version form) ≡ true
      → status_of j (save form room) ≡ FileCorruptError
  pub update-refused : (j : Journal) → Unsound j → (u : Update) (p : Point) (q : Posting) (input : List ℕ) → supported j.volume.journal ≡ true
      → points_check j.volume ≡ None → given_check u p.file (length p.store) input ≡ None → status_of j (update u p q input) ≡ FileCorruptError
  -- it is deleted all the same
  pub deleted : (j : Journal) → Unsound j → status_of j (delete j.volume.id) ≡ Success
  -- where a creation behind that succeeds, in a buffer of the capacity, the ring is sound and keeps nothing, whatever bytes it has
  pub anew : (j : Journal) (id : ℕ) → status_of (runs j (delete j.volume.id ∷ finish ∷ [])) (create id) ≡ Success
      → length j.ring ≡ j.volume.capacity → (sound (renewed j id).volume (renewed j id).ring ≡ true) × (kept (renewed j id).volume (renewed j id).ring ≡ [])
