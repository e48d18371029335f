-- Which statuses are refusals, and that a refusal reports no bytes and changes nothing, whatever control or call it comes from.
use Rattle.std.specs.Prelude.{◌≡◌, Bool, true, false, not, ◌||◌, List, ℕ, ◌<◌, leb, eqb}
use Rattle.status.specs.declared.Status.{Status}
use Rattle.status.specs.declared.Status.TheVariants.{Success, BufferOverflow}
use Rattle.status.specs.Number.{number}
use Rattle.status.specs.Reply.{Reply, answer, after}
use Rattle.usn_record.specs.declared.Version.{Version}
use Rattle.usn_record.specs.declared.Fields.{Fields}
use Rattle.volume.specs.declared.Volume.{Volume}
use Rattle.file_record.specs.declared.FileRecord.{FileRecord}
use Rattle.file_links.specs.declared.Link.{Link}
use Rattle.record_writer.specs.Write.{write_reply, copy_reply, older_reply}
use Rattle.usn_listing.specs.Listing.{list_reply}
use Rattle.image_listing.specs.Listing.{list_image_reply}
use Rattle.journal_read.specs.Read.{read_reply}
use Rattle.image_save.specs.Save.{save_reply}
use Rattle.image_move.specs.Move.{move_reply}
use Rattle.file_usn.specs.FileUsn.{file_reply, table_reply}
use Rattle.file_enumeration.specs.Enumerate.{enum_reply}
use Rattle.file_path.specs.Path.{path_reply}
use Rattle.file_regions.specs.Regions.{regions_reply}
use Rattle.reparse_point.specs.Reparse.{reparse_reply}
use Rattle.journal_post.specs.Post.{post_usn}
use Rattle.journal_post.specs.Posts.{Journal, Posting}
use Rattle.reparse_update.specs.declared.Update.{Update}
use Rattle.reparse_update.specs.Update.{Point, update_left}
use Rattle.history.specs.Calls.{Call, create, post, read, delete, finish, save, load, update, status_of, next}

-- the warning
abbrev pub is_warning : Status → Bool
is_warning x = eqb (number x) (number BufferOverflow)

-- every status but SUCCESS and the warning
abbrev pub is_refusal : Status → Bool
is_refusal x = not (eqb (number x) (number Success) || is_warning x)

-- ---- what replies with bytes

-- a call, with its arguments but for its output
pub data Control : Type 0 where
  -- volume record, ring, input
  read_journal : Volume → List ℕ → List ℕ → Control
  -- volume record, ring, form
  save_journal : Volume → List ℕ → ℕ → Control
  -- image, the form that it is moved from
  move_image : List ℕ → ℕ → Control
  -- volume record, file record, parent, pool of names, links, input
  read_file : Volume → FileRecord → List ℕ → List ℕ → List Link → List ℕ → Control
  -- the same with the links as three runs of numbers
  read_file_table : Volume → FileRecord → List ℕ → List ℕ → List ℕ → List ℕ → List ℕ → List ℕ → Control
  -- volume record, table of files, pool of names, input
  enumerate_files : Volume → List ℕ → List ℕ → List ℕ → Control
  -- table of files, pool of names, id, root
  file_path : List ℕ → List ℕ → List ℕ → List ℕ → Control
  -- volume record, file record, input
  query_regions : Volume → FileRecord → List ℕ → Control
  -- volume record, file record, store of the reparse data
  get_reparse_point : Volume → FileRecord → List ℕ → Control
  -- a reply of the journal
  list_records : List ℕ → Control
  -- an image
  list_image : List ℕ → Control
  -- version, fields, name
  write_record : Version → Fields → List ℕ → Control
  -- a record's own bytes, as they are or in version 2
  copy_record : List ℕ → Control
  copy_older : List ℕ → Control

-- its reply into so much room, by the definition that its contract cites
abbrev pub reply_of : Control → ℕ → Reply
reply_of (read_journal v ring input) room = read_reply v ring input room
reply_of (save_journal v ring form) room = save_reply v ring form room
reply_of (move_image s from) room = move_reply from s room
reply_of (read_file v f parent pool links input) room = file_reply v f parent pool links input room
reply_of (read_file_table v f parent pool places lengths shorts input) room = table_reply v f parent pool places lengths shorts input room
reply_of (enumerate_files v table pool input) room = enum_reply v table pool input room
reply_of (file_path table pool id root) room = path_reply table pool id root room
reply_of (query_regions v f input) room = regions_reply v f input room
reply_of (get_reparse_point v f store) room = reparse_reply v f store room
reply_of (list_records s) room = list_reply s room
reply_of (list_image s) room = list_image_reply s room
reply_of (write_record v f name) room = write_reply v f name room
reply_of (copy_record bytes) room = copy_reply bytes room
reply_of (copy_older bytes) room = older_reply bytes room

-- ---- what changes records

-- the file's Usn after a call on the journal: only a post writes it; the Usn that a set or a delete writes is in the file's record
abbrev pub usn_after : Journal → Call → ℕ → ℕ
usn_after j (create id) usn = usn
usn_after j (post p) usn = post_usn j.volume j.ring p.change p.name usn
usn_after j (read a) usn = usn
usn_after j (delete id) usn = usn
usn_after j finish usn = usn
usn_after j (save form room) usn = usn
usn_after j (load s id) usn = usn
usn_after j (update u p q input) usn = usn

-- ---- the promise

-- a region query that had no room for two regions, and reported 40 bytes
pub record Warned (c : Control) (room : ℕ) : Type 0 where
  pub volume : Volume
  pub file : FileRecord
  pub input : List ℕ
  pub query : c ≡ query_regions volume file input
  pub short : room < 64
  pub count : (answer (reply_of c room)).count ≡ 40

pub record Refusals : Type 0 where
  -- the refusals are the errors of [MS-ERREF], whose two highest bits are set
  pub errors : (x : Status) → is_refusal x ≡ leb 0xC0000000 (number x)
  -- a control that refuses reports no bytes and leaves its output
  pub controls : (c : Control) (room : ℕ) → is_refusal (answer (reply_of c room)).status ≡ true
      → ((answer (reply_of c room)).count ≡ 0) × ((out : List ℕ) → after (reply_of c room) out ≡ out)
  -- only the region query warns
  pub warnings : (c : Control) (room : ℕ) → is_warning (answer (reply_of c room)).status ≡ true → Warned c room
  -- a call that refuses leaves the volume record, the ring and the file's Usn
  pub calls : (j : Journal) (c : Call) (usn : ℕ) → is_refusal (status_of j c) ≡ true → (next j c ≡ j) × (usn_after j c usn ≡ usn)
  -- a set or a delete of a reparse point that refuses leaves the file's record and its store
  pub points : (j : Journal) (u : Update) (p : Point) (q : Posting) (input : List ℕ) → is_refusal (status_of j (update u p q input)) ≡ true → (update_left u j p q input).point ≡ p
  -- and none of these warns
  pub unwarned : (j : Journal) (c : Call) → is_warning (status_of j c) ≡ false
