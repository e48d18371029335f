-- FSCTL_READ_FILE_USN_DATA: a record of the file as it is now.
use Rattle.std.specs.Prelude.{Bool, ◌&&◌, List, ℕ, ◌+◌, ◌^◌, leb, ltb, length, Option}
use Rattle.status.specs.declared.Status.{Status}
use Rattle.status.specs.declared.Status.TheVariants.{Success, InvalidDeviceRequest, BufferTooSmall, NotSupported, FileCorruptError}
use Rattle.status.specs.Check.{unless, else}
use Rattle.status.specs.Reply.{Reply, give, guard}
use Rattle.volume.specs.declared.Volume.{Volume}
use Rattle.volume.specs.State.{supported}
use Rattle.usn_record.specs.declared.Version.{Version}
use Rattle.usn_record.specs.declared.Fields.{Fields}
use Rattle.usn_record.specs.Version.{versions_in, version_in}
use Rattle.usn_record.specs.Layout.{name_offset, record_length, shows_ids, layout}
use Rattle.file_record.specs.declared.FileRecord.{FileRecord}
use Rattle.file_links.specs.declared.Link.{Link}
use Rattle.file_links.specs.Links.{name_at, good_links, chosen_link, links_of, good_table}

-- an input shorter than 4 bytes is ignored, and the version is 2; else Min and Max
abbrev pub file_versions : List ℕ → Option Status
file_versions input = versions_in 4 0 input

abbrev pub file_version : List ℕ → Version
file_version input = version_in 4 0 input

-- support; the file's Usn and its whole table of links; the versions; a record with a name of 4 bytes, 64 or 80 bytes, has room; ids that
-- the version shows
unfoldable pub file_check : Volume → FileRecord → List ℕ → Bool → List ℕ → ℕ → Option Status
file_check v f parent table input room =
    else (unless (supported v.usn) InvalidDeviceRequest)
    (else (unless (ltb f.usn (2 ^ 63) && table) FileCorruptError)
    (else (file_versions input)
    (else (unless (leb (name_offset (file_version input) + 4) room) BufferTooSmall) (unless (shows_ids (file_version input) f.id parent) NotSupported))))

-- a file as it is now, by its id, its parent's, its Usn and its attributes: TimeStamp, Reason, SourceInfo and SecurityId are 0
abbrev pub current_fields : List ℕ → List ℕ → ℕ → ℕ → Fields
current_fields id parent usn attributes =
    record {
      file = id;
      parent = parent;
      usn = usn;
      time = 0;
      reason = 0;
      source = 0;
      security = 0;
      attributes = attributes;
    }

-- the parent is that of the open's own link
abbrev pub file_fields : FileRecord → List ℕ → Fields
file_fields f parent = current_fields f.id parent f.usn f.attributes

-- the record with this name, if it has room
unfoldable pub file_answer : Version → FileRecord → List ℕ → List ℕ → ℕ → Reply
file_answer v f parent name room =
    guard (unless (leb (record_length v (length name)) room) BufferTooSmall) (give Success (layout v (file_fields f parent) name))

-- the reply with `room` bytes of output, where `table` says whether the table of links is right and `name` is that of the chosen link
unfoldable pub named_reply : Volume → FileRecord → List ℕ → Bool → List ℕ → List ℕ → ℕ → Reply
named_reply v f parent table name input room = guard (file_check v f parent table input room) (file_answer (file_version input) f parent name room)

-- the reply of the whole control to a file with these links
abbrev pub file_reply : Volume → FileRecord → List ℕ → List ℕ → List Link → List ℕ → ℕ → Reply
file_reply v f parent pool links input room = named_reply v f parent (good_links pool links) (name_at pool (chosen_link links)) input room

-- the same where the links are lent as three runs of numbers, which may be of different lengths
abbrev pub table_reply : Volume → FileRecord → List ℕ → List ℕ → List ℕ → List ℕ → List ℕ → List ℕ → ℕ → Reply
table_reply v f parent pool places lengths shorts input room =
    named_reply v f parent (good_table pool places lengths shorts) (name_at pool (chosen_link (links_of places lengths shorts))) input room
