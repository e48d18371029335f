-- Which files an enumeration comes to, and that it comes to an end.
use Rattle.std.specs.Prelude.{◌≡◌, ◌↔◌, true, ℕ, ◌≤◌, ◌<◌, ◌^◌, length, Option, None, Some}
use mathlib.Core.List.{List, [], ◌∷◌, ◌++◌, map, Memᴰ}
use Rattle.le.specs.Numbers.{le}
use Rattle.le.specs.Bytes.{Bytes}
use Rattle.status.specs.declared.Status.{Status}
use Rattle.status.specs.declared.Status.TheVariants.{EndOfFile}
use Rattle.status.specs.Reply.{Reply, refuse, give}
use Rattle.volume.specs.declared.Volume.{Volume}
use Rattle.volume.specs.State.{supported}
use Rattle.usn_record.specs.declared.Version.TheVariants.{V3}
use Rattle.usn_record.specs.Version.{versions_in}
use Rattle.usn_record.specs.Layout.{shown, Record, in_version}
use Rattle.records.specs.Records.{record_list}
use Rattle.reply_walker.specs.Reply.{position_of, records_of}
use Rattle.file_usn.specs.FileUsn.{current_fields}
use Rattle.file_table.specs.Table.{Row, rows, row_name, right_table, rising}
use Rattle.file_enumeration.specs.declared.Query.{Query}
use Rattle.file_enumeration.specs.Enumerate.{selects, files_of, enum_reply, starting_at}

-- ---- the selected files

-- of a table that is right: exactly the rows that are selected, by rising id, so that none is there twice
pub record Listed (q : Query) (table : List ℕ) : Type 0 where
  pub members : (r : Row) → Memᴰ r (files_of q table) ↔ (Memᴰ r (rows table) × (selects q r ≡ true))
  pub order : rising (files_of q table) ≡ true

-- ---- following

-- one call: what its input holds behind start, Low and High, and how many bytes its output has
pub record Turn : Type 0 where
  pub versions : List ℕ
  pub room : ℕ

-- versions that are not refused, or none, and 600 bytes of output or more
abbrev pub Ample : List Turn → Type 0
Ample [] = Unit {0}
Ample (t ∷ ts) = (versions_in 8 0 t.versions ≡ None) × (600 ≤ t.room) × Ample ts

-- its input
abbrev pub input_of : Query → Turn → List ℕ
input_of q t = le 8 q.start ++ (le 8 q.low ++ (le 8 q.high ++ t.versions))

-- what the caller is given: the replies in order, and the status of the call that was refused, if one was
pub record Given : Type 0 where
  pub replies : List (List ℕ)
  pub refusal : Option Status

-- a refusal ends it; behind a reply it goes on
abbrev pub goes_on : Reply → (List ℕ → Given) → Given
goes_on (refuse x) more = record { replies = []; refusal = Some x }
goes_on (give x bytes) more = record { replies = bytes ∷ (more bytes).replies; refusal = (more bytes).refusal }

-- each call starts at the u64 of the reply before
unfoldable pub follow : Volume → List ℕ → List ℕ → Query → List Turn → Given
follow v table pool q [] = record { replies = []; refusal = None }
follow v table pool q (t ∷ ts) =
    goes_on (enum_reply v table pool (input_of q t) t.room) (λ (bytes : List ℕ). follow v table pool (starting_at q (position_of bytes)) ts)

-- ---- what it comes to

-- the records that a caller reads in replies, each walked as a reply of the journal is
abbrev pub all_records : List (List ℕ) → List Record
all_records [] = []
all_records (s ∷ ss) = record_list (records_of s) ++ all_records ss

-- the record of a file as it is read, in version 3: attributes 0 are 0x80
abbrev pub record_of : List ℕ → Row → Record
record_of pool r = record { version = V3; fields = current_fields r.id r.parent r.usn (shown r.attributes); name = row_name pool r }

pub record Followed (v : Volume) (table pool : List ℕ) (q : Query) (ts : List Turn) : Type 0 where
  -- it ends with END_OF_FILE
  pub ended : (follow v table pool q ts).refusal ≡ Some EndOfFile
  -- after at most as many replies as there are files, so by one call more at the most
  pub calls : length (follow v table pool q ts).replies ≤ length (files_of q table)
  -- each selected file was given once, in order
  pub files : map (in_version V3) (all_records (follow v table pool q ts).replies) ≡ map (record_of pool) (files_of q table)

-- ---- the promise

-- numbers of 64 bits
pub record Sized (q : Query) : Type 0 where
  pub start : q.start < 2 ^ 64
  pub low : q.low < 2 ^ 64
  pub high : q.high < 2 ^ 64

pub record Enumerates : Type 0 where
  pub listed : (q : Query) (pool table : List ℕ) → right_table pool table ≡ true → Listed q table
  -- over one table, with more turns than files
  pub followed : (v : Volume) (table pool : List ℕ) (q : Query) (ts : List Turn) → supported v.journal ≡ true → right_table pool table ≡ true → Bytes table → Sized q
      → Ample ts
      → length (files_of q table) < length ts
      → Followed v table pool q ts
