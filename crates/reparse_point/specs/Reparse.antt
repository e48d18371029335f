-- Reparse points: both header forms, what every control on one asks first, and FSCTL_GET_REPARSE_POINT.
use Rattle.std.specs.Prelude.{Bool, not, cond, ◌&&◌, List, [], ◌∷◌, ◌++◌, ℕ, ◌-◌, ◌^◌, leb, eqb, length, take, Option}
use Rattle.le.specs.Numbers.{encode}
use Rattle.status.specs.declared.Status.{Status}
use Rattle.status.specs.declared.Status.TheVariants.{Success, InvalidDeviceRequest, BufferTooSmall, FileCorruptError, NotAReparsePoint, VolumeNotUpgraded}
use Rattle.status.specs.Check.{unless, else}
use Rattle.status.specs.Reply.{Reply, give, guard}
use Rattle.volume.specs.declared.Volume.{Volume}
use Rattle.volume.specs.State.{supported}
use Rattle.file_record.specs.declared.FileRecord.{FileRecord}

-- a Microsoft tag has bit 31, its highest
abbrev pub is_microsoft : ℕ → Bool
is_microsoft tag = leb (2 ^ 31) tag

-- the most data that goes with a tag; tag 0 means none
unfoldable pub most_data : ℕ → ℕ
most_data tag = cond (eqb tag 0) 0 (cond (is_microsoft tag) 16376 16360)

-- the length of the header: 8, or 24 with the GUID
unfoldable pub header_length : ℕ → ℕ
header_length tag = cond (is_microsoft tag) 8 24

-- tag, length of the whole data, Reserved, and the GUID where the tag is not Microsoft's
unfoldable pub reparse_header : ℕ → List ℕ → ℕ → List ℕ
reparse_header tag guid n = encode (4 ∷ 2 ∷ 2 ∷ []) (tag ∷ n ∷ 0 ∷ []) ++ cond (is_microsoft tag) [] guid

-- ---- what every control on a reparse point asks first

-- support for the controls; reparse points at all
abbrev pub points_check : Volume → Option Status
points_check v = else (unless (supported v.reparse) InvalidDeviceRequest) (unless (supported v.points) VolumeNotUpgraded)

-- a right file record: a lent store of n bytes, enough for any data, and a length that the tag may have
unfoldable pub good_point : FileRecord → ℕ → Bool
good_point f n = leb 16376 n && leb f.length (most_data f.tag)

-- ---- FSCTL_GET_REPARSE_POINT

-- the data is at the start of the store
abbrev pub data_of : FileRecord → List ℕ → List ℕ
data_of f store = take f.length store

-- support; the file record, with a store of n bytes; a tag; room for the header
unfoldable pub reparse_check : Volume → FileRecord → ℕ → ℕ → Option Status
reparse_check v f n room =
    else (points_check v)
    (else (unless (good_point f n) FileCorruptError)
    (else (unless (not (eqb f.tag 0)) NotAReparsePoint) (unless (leb (header_length f.tag) room) BufferTooSmall)))

-- the header and as much data as fits
unfoldable pub reparse_bytes : FileRecord → List ℕ → ℕ → List ℕ
reparse_bytes f store room = reparse_header f.tag f.guid f.length ++ take (room - header_length f.tag) (data_of f store)

-- the reply of the whole control, with `room` bytes of output
unfoldable pub reparse_reply : Volume → FileRecord → List ℕ → ℕ → Reply
reparse_reply v f store room = guard (reparse_check v f (length store) room) (give Success (reparse_bytes f store room))
