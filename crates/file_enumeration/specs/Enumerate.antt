-- FSCTL_ENUM_USN_DATA: records of the files of a table as they are now, by rising id.
use Rattle.std.specs.Prelude.{Bool, true, false, not, cond, ◌&&◌, ◌||◌, List, [], ◌∷◌, ◌++◌, ℕ, suc, ◌-◌, ◌^◌, leb, ltb, length, Option}
use Rattle.le.specs.Numbers.{le, number_at}
use Rattle.status.specs.declared.Status.{Status}
use Rattle.status.specs.declared.Status.TheVariants.{Success, InvalidParameter, InvalidDeviceRequest, EndOfFile, BufferTooSmall, FileCorruptError}
use Rattle.status.specs.Check.{unless, else}
use Rattle.status.specs.Reply.{Reply, give, guard}
use Rattle.file_ids.specs.Ids.{wide, id_number}
use Rattle.volume.specs.declared.Volume.{Volume}
use Rattle.volume.specs.State.{supported}
use Rattle.usn_record.specs.declared.Version.{Version}
use Rattle.usn_record.specs.declared.Fields.{Fields}
use Rattle.usn_record.specs.Version.{versions_in, version_in}
use Rattle.usn_record.specs.Layout.{record_length, layout}
use Rattle.file_usn.specs.FileUsn.{current_fields}
use Rattle.file_table.specs.Table.{Row, rows, row_name, right_table}
use Rattle.file_enumeration.specs.declared.Query.{Query}

-- ---- the input

-- start id, LowUsn, HighUsn
abbrev pub query_in : List ℕ → Query
query_in input = record { start = number_at input 0 8; low = number_at input 8 8; high = number_at input 16 8 }

-- the same from another id on
abbrev pub starting_at : Query → ℕ → Query
starting_at q id = record { start = id; low = q.low; high = q.high }

-- from 32 bytes on Min and Max stand at 24; a shorter input asks for version 2
abbrev pub enum_versions : List ℕ → Option Status
enum_versions input = versions_in 32 24 input

abbrev pub enum_version : List ℕ → Version
enum_version input = version_in 32 24 input

-- ---- the files that are selected

-- a Usn, which is not negative, is Low or above: a negative Low, 2^63 or above, is below every Usn
abbrev pub from_low : ℕ → ℕ → Bool
from_low low usn = leb (2 ^ 63) low || leb low usn

-- it is High or below: a negative High is below every Usn
abbrev pub to_high : ℕ → ℕ → Bool
to_high high usn = ltb high (2 ^ 63) && leb usn high

-- neither the id nor the parent's is wide, the id is the start or above, and the Usn is from Low to High
unfoldable pub selects : Query → Row → Bool
selects q r =
    (not (wide r.id) && not (wide r.parent))
    && (leb q.start (id_number r.id) && (from_low q.low r.usn && to_high q.high r.usn))

unfoldable pub selected : Query → List Row → List Row
selected q [] = []
selected q (r ∷ rs) = cond (selects q r) (r ∷ selected q rs) (selected q rs)

-- a row in its place among rows that rise by id
unfoldable pub insert : Row → List Row → List Row
insert r [] = r ∷ []
insert r (x ∷ xs) = cond (ltb (id_number r.id) (id_number x.id)) (r ∷ x ∷ xs) (x ∷ insert r xs)

-- rows by rising id
unfoldable pub by_id : List Row → List Row
by_id [] = []
by_id (r ∷ rs) = insert r (by_id rs)

-- the selected files of a table by rising id
abbrev pub files_of : Query → List ℕ → List Row
files_of q table = by_id (selected q (rows table))

-- ---- the reply

-- a file's record, as a read of the file makes it
abbrev pub row_fields : Row → Fields
row_fields r = current_fields r.id r.parent r.usn r.attributes

abbrev pub row_bytes : Version → List ℕ → Row → List ℕ
row_bytes v pool r = layout v (row_fields r) (row_name pool r)

abbrev pub row_length : Version → List ℕ → Row → ℕ
row_length v pool r = record_length v (length (row_name pool r))

-- the files that are given, and the id to go on from
pub record Page : Type 0 where
  pub given : List Row
  pub next : ℕ

-- the page of these files into so much room: up to the first that does not fit, whose id is the next; behind the last one given, its
-- successor
unfoldable pub page_of : Version → List ℕ → ℕ → ℕ → List Row → Page
page_of v pool room next [] = record { given = []; next = next }
page_of v pool room next (r ∷ rs) =
    let id = id_number r.id in
    let rest = page_of v pool (room - row_length v pool r) (suc id) rs in
    cond (leb (row_length v pool r) room) (record { given = r ∷ rest.given; next = rest.next }) (record { given = []; next = id })

-- the records of rows
unfoldable pub rows_bytes : Version → List ℕ → List Row → List ℕ
rows_bytes v pool [] = []
rows_bytes v pool (r ∷ rs) = row_bytes v pool r ++ rows_bytes v pool rs

abbrev pub is_empty : List Row → Bool
is_empty [] = true
is_empty (r ∷ rs) = false

-- the input's size; the versions; room for the id to go on from
unfoldable pub input_check : List ℕ → ℕ → Option Status
input_check input room = else (unless (leb 24 (length input)) InvalidParameter) (else (enum_versions input) (unless (leb 8 room) BufferTooSmall))

-- support; the table, all of it; the input
unfoldable pub enum_check : Volume → List ℕ → List ℕ → List ℕ → ℕ → Option Status
enum_check v table pool input room =
    else (unless (supported v.journal) InvalidDeviceRequest) (else (unless (right_table pool table) FileCorruptError) (input_check input room))

-- nothing is selected, or the first file does not fit; else the id to go on from, and the records
unfoldable pub page_reply : Version → List ℕ → List Row → Page → Reply
page_reply v pool files page =
    guard (else (unless (not (is_empty files)) EndOfFile) (unless (not (is_empty page.given)) BufferTooSmall))
    (give Success (le 8 page.next ++ rows_bytes v pool page.given))

-- the files of a query into `room` bytes of output
abbrev pub files_reply : Version → List ℕ → Query → List ℕ → ℕ → Reply
files_reply v pool q table room = page_reply v pool (files_of q table) (page_of v pool (room - 8) q.start (files_of q table))

-- the reply of the whole control
unfoldable pub enum_reply : Volume → List ℕ → List ℕ → List ℕ → ℕ → Reply
enum_reply v table pool input room = guard (enum_check v table pool input room) (files_reply (enum_version input) pool (query_in input) table room)
