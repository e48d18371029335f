-- A table of three files out of order, of which one has a parent with a wide id: whole replies by their bytes, and an instance of what following asks.
-- Assumes nothing.
use mathlib.Core.Path.{◌≡◌, refl}
use mathlib.Core.Bool.{true}
use mathlib.Core.List.{List, [], ◌∷◌, ◌++◌, map}
use Prim.Native.Nat.{ℕ, ◌-◌, ◌^◌}
use lib.Dec.{lit<, lit≤}
use Rattle.le.specs.Numbers.{le, unle, number_at, encode}
use Rattle.le.specs.Bytes.{all_zero}
use Rattle.le.proofs.Runs.{are-bytes}
use Rattle.names.specs.Names.{good_unit, good_units, good_name, good_in}
use Rattle.status.specs.declared.Status.TheVariants.{Success, InvalidParameter, EndOfFile, BufferTooSmall, FileCorruptError}
use Rattle.status.specs.Reply.{Reply, refuse, give}
use Rattle.volume.specs.declared.Volume.{Volume}
use Rattle.usn_record.specs.Layout.{layout}
use Rattle.file_table.specs.Table.{first_rows, rows, good_row, good_rows, has_id, distinct, right_table}
use Rattle.file_enumeration.specs.declared.Query.{Query}
use Rattle.file_enumeration.specs.Enumerate.{selects, selected, insert, by_id, page_of, rows_bytes, input_check, enum_check, page_reply, enum_reply}
use Rattle.file_enumeration.specs.Follow.{Turn, Followed, Sized}
use Rattle.file_enumeration.proofs.Following.{enumerates}

-- one that supports the journal
abbrev pub disk : Volume
disk = record { usn = 0; regions = 0; reparse = 0; points = 0; journal = 1; state = 0; id = 0; first = 0; last = 0; capacity = 0 }

-- ---- the table

-- the names a and bc
abbrev pub pool : List ℕ
pool = 0x61 ∷ 0 ∷ 0x62 ∷ 0 ∷ 0x63 ∷ 0 ∷ []

-- file 9, parent 5, Usn 1024, attributes 32, two bytes of name at 0
abbrev pub nine : List ℕ
nine =
    9 ∷ 0 ∷ 0 ∷ 0 ∷ 0 ∷ 0 ∷ 0 ∷ 0
    ∷ 0 ∷ 0 ∷ 0 ∷ 0 ∷ 0 ∷ 0 ∷ 0 ∷ 0
    ∷ 5 ∷ 0 ∷ 0 ∷ 0 ∷ 0 ∷ 0 ∷ 0 ∷ 0
    ∷ 0 ∷ 0 ∷ 0 ∷ 0 ∷ 0 ∷ 0 ∷ 0 ∷ 0
    ∷ 0 ∷ 4 ∷ 0 ∷ 0 ∷ 0 ∷ 0 ∷ 0 ∷ 0
    ∷ 32 ∷ 0 ∷ 0 ∷ 0 ∷ 2 ∷ 0 ∷ 0 ∷ 0
    ∷ 0 ∷ 0 ∷ 0 ∷ 0 ∷ 0 ∷ 0 ∷ 0 ∷ 0 ∷ []

-- file 5, its own parent, Usn 80, attributes 0, four bytes of name at 2
abbrev pub five : List ℕ
five =
    5 ∷ 0 ∷ 0 ∷ 0 ∷ 0 ∷ 0 ∷ 0 ∷ 0
    ∷ 0 ∷ 0 ∷ 0 ∷ 0 ∷ 0 ∷ 0 ∷ 0 ∷ 0
    ∷ 5 ∷ 0 ∷ 0 ∷ 0 ∷ 0 ∷ 0 ∷ 0 ∷ 0
    ∷ 0 ∷ 0 ∷ 0 ∷ 0 ∷ 0 ∷ 0 ∷ 0 ∷ 0
    ∷ 80 ∷ 0 ∷ 0 ∷ 0 ∷ 0 ∷ 0 ∷ 0 ∷ 0
    ∷ 0 ∷ 0 ∷ 0 ∷ 0 ∷ 4 ∷ 0 ∷ 0 ∷ 0
    ∷ 2 ∷ 0 ∷ 0 ∷ 0 ∷ 0 ∷ 0 ∷ 0 ∷ 0 ∷ []

-- file 7, a parent with a sixteenth byte, Usn 300, attributes 16, no name
abbrev pub seven : List ℕ
seven =
    7 ∷ 0 ∷ 0 ∷ 0 ∷ 0 ∷ 0 ∷ 0 ∷ 0
    ∷ 0 ∷ 0 ∷ 0 ∷ 0 ∷ 0 ∷ 0 ∷ 0 ∷ 0
    ∷ 5 ∷ 0 ∷ 0 ∷ 0 ∷ 0 ∷ 0 ∷ 0 ∷ 0
    ∷ 0 ∷ 0 ∷ 0 ∷ 0 ∷ 0 ∷ 0 ∷ 0 ∷ 1
    ∷ 44 ∷ 1 ∷ 0 ∷ 0 ∷ 0 ∷ 0 ∷ 0 ∷ 0
    ∷ 16 ∷ 0 ∷ 0 ∷ 0 ∷ 0 ∷ 0 ∷ 0 ∷ 0
    ∷ 6 ∷ 0 ∷ 0 ∷ 0 ∷ 0 ∷ 0 ∷ 0 ∷ 0 ∷ []

abbrev pub files : List ℕ
files = nine ++ (five ++ seven)

-- ---- the replies

-- a start, LowUsn 0, and the top byte of HighUsn, whose other bytes are 255, 3, 0, 0, 0, 0, 0
abbrev pub asking : ℕ → ℕ → List ℕ
asking start top =
    start ∷ 0 ∷ 0 ∷ 0 ∷ 0 ∷ 0 ∷ 0 ∷ 0
    ∷ 0 ∷ 0 ∷ 0 ∷ 0 ∷ 0 ∷ 0 ∷ 0 ∷ 0
    ∷ 255 ∷ 3 ∷ 0 ∷ 0 ∷ 0 ∷ 0 ∷ 0 ∷ top ∷ []

-- the start 0, the lowest and the highest byte of LowUsn, the same HighUsn as with 1 above
abbrev pub asking_from : ℕ → ℕ → List ℕ
asking_from low top =
    0 ∷ 0 ∷ 0 ∷ 0 ∷ 0 ∷ 0 ∷ 0 ∷ 0
    ∷ low ∷ 0 ∷ 0 ∷ 0 ∷ 0 ∷ 0 ∷ 0 ∷ top
    ∷ 255 ∷ 3 ∷ 0 ∷ 0 ∷ 0 ∷ 0 ∷ 0 ∷ 1 ∷ []

-- RecordLength 64, version 2.0, file 5, parent 5, Usn 80, four times 0, attributes 128, a name of 4 bytes at 60
abbrev pub record_five : List ℕ
record_five =
    64 ∷ 0 ∷ 0 ∷ 0 ∷ 2 ∷ 0 ∷ 0 ∷ 0
    ∷ 5 ∷ 0 ∷ 0 ∷ 0 ∷ 0 ∷ 0 ∷ 0 ∷ 0
    ∷ 5 ∷ 0 ∷ 0 ∷ 0 ∷ 0 ∷ 0 ∷ 0 ∷ 0
    ∷ 80 ∷ 0 ∷ 0 ∷ 0 ∷ 0 ∷ 0 ∷ 0 ∷ 0
    ∷ 0 ∷ 0 ∷ 0 ∷ 0 ∷ 0 ∷ 0 ∷ 0 ∷ 0
    ∷ 0 ∷ 0 ∷ 0 ∷ 0 ∷ 0 ∷ 0 ∷ 0 ∷ 0
    ∷ 0 ∷ 0 ∷ 0 ∷ 0 ∷ 128 ∷ 0 ∷ 0 ∷ 0
    ∷ 4 ∷ 0 ∷ 60 ∷ 0 ∷ 98 ∷ 0 ∷ 99 ∷ 0 ∷ []

-- RecordLength 64, version 2.0, file 9, parent 5, Usn 1024, four times 0, attributes 32, a name of 2 bytes at 60, two zeroes
abbrev pub record_nine : List ℕ
record_nine =
    64 ∷ 0 ∷ 0 ∷ 0 ∷ 2 ∷ 0 ∷ 0 ∷ 0
    ∷ 9 ∷ 0 ∷ 0 ∷ 0 ∷ 0 ∷ 0 ∷ 0 ∷ 0
    ∷ 5 ∷ 0 ∷ 0 ∷ 0 ∷ 0 ∷ 0 ∷ 0 ∷ 0
    ∷ 0 ∷ 4 ∷ 0 ∷ 0 ∷ 0 ∷ 0 ∷ 0 ∷ 0
    ∷ 0 ∷ 0 ∷ 0 ∷ 0 ∷ 0 ∷ 0 ∷ 0 ∷ 0
    ∷ 0 ∷ 0 ∷ 0 ∷ 0 ∷ 0 ∷ 0 ∷ 0 ∷ 0
    ∷ 0 ∷ 0 ∷ 0 ∷ 0 ∷ 32 ∷ 0 ∷ 0 ∷ 0
    ∷ 2 ∷ 0 ∷ 60 ∷ 0 ∷ 97 ∷ 0 ∷ 0 ∷ 0 ∷ []

-- RecordLength 80, version 3.0, file 9, parent 5, Usn 1024, four times 0, attributes 32, a name of 2 bytes at 76, two zeroes
abbrev pub newer_nine : List ℕ
newer_nine =
    80 ∷ 0 ∷ 0 ∷ 0 ∷ 3 ∷ 0 ∷ 0 ∷ 0
    ∷ 9 ∷ 0 ∷ 0 ∷ 0 ∷ 0 ∷ 0 ∷ 0 ∷ 0
    ∷ 0 ∷ 0 ∷ 0 ∷ 0 ∷ 0 ∷ 0 ∷ 0 ∷ 0
    ∷ 5 ∷ 0 ∷ 0 ∷ 0 ∷ 0 ∷ 0 ∷ 0 ∷ 0
    ∷ 0 ∷ 0 ∷ 0 ∷ 0 ∷ 0 ∷ 0 ∷ 0 ∷ 0
    ∷ 0 ∷ 4 ∷ 0 ∷ 0 ∷ 0 ∷ 0 ∷ 0 ∷ 0
    ∷ 0 ∷ 0 ∷ 0 ∷ 0 ∷ 0 ∷ 0 ∷ 0 ∷ 0
    ∷ 0 ∷ 0 ∷ 0 ∷ 0 ∷ 0 ∷ 0 ∷ 0 ∷ 0
    ∷ 0 ∷ 0 ∷ 0 ∷ 0 ∷ 32 ∷ 0 ∷ 0 ∷ 0
    ∷ 2 ∷ 0 ∷ 76 ∷ 0 ∷ 97 ∷ 0 ∷ 0 ∷ 0 ∷ []

-- the id to go on from
abbrev pub next : ℕ → List ℕ
next id = id ∷ 0 ∷ 0 ∷ 0 ∷ 0 ∷ 0 ∷ 0 ∷ 0 ∷ []

pub record Example : Type 0 where
  pub table : List ℕ
  pub input : List ℕ
  pub room : ℕ
  pub reply : Reply

abbrev pub examples : List Example
examples =
    record { table = files; input = asking 0 1; room = 136; reply = give Success (next 10 ++ (record_five ++ record_nine)) }
    -- only the first fits
    ∷ record { table = files; input = asking 0 1; room = 135; reply = give Success (next 9 ++ record_five) }
    ∷ record { table = files; input = asking 0 1; room = 72; reply = give Success (next 9 ++ record_five) }
    -- not even that one, and not even the id
    ∷ record { table = files; input = asking 0 1; room = 71; reply = refuse BufferTooSmall }
    ∷ record { table = files; input = asking 0 1; room = 7; reply = refuse BufferTooSmall }
    -- from 5, from 6, from 10 on
    ∷ record { table = files; input = asking 5 1; room = 72; reply = give Success (next 9 ++ record_five) }
    ∷ record { table = files; input = asking 6 1; room = 72; reply = give Success (next 10 ++ record_nine) }
    ∷ record { table = files; input = asking 10 1; room = 136; reply = refuse EndOfFile }
    -- HighUsn 1023, and a negative one
    ∷ record { table = files; input = asking 0 0; room = 136; reply = give Success (next 6 ++ record_five) }
    ∷ record { table = files; input = asking 0 128; room = 136; reply = refuse EndOfFile }
    -- LowUsn 80 and 81, and a negative one
    ∷ record { table = files; input = asking_from 80 0; room = 136; reply = give Success (next 10 ++ (record_five ++ record_nine)) }
    ∷ record { table = files; input = asking_from 81 0; room = 136; reply = give Success (next 10 ++ record_nine) }
    ∷ record { table = files; input = asking_from 81 128; room = 136; reply = give Success (next 10 ++ (record_five ++ record_nine)) }
    -- versions 2 to 3, and 3 to 2
    ∷ record { table = files; input = asking_from 81 0 ++ (2 ∷ 0 ∷ 3 ∷ 0 ∷ 0 ∷ 0 ∷ 0 ∷ 0 ∷ []); room = 88; reply = give Success (next 10 ++ newer_nine) }
    ∷ record { table = files; input = asking_from 81 0 ++ (3 ∷ 0 ∷ 2 ∷ 0 ∷ 0 ∷ 0 ∷ 0 ∷ 0 ∷ []); room = 88; reply = refuse InvalidParameter }
    -- an id twice; a row that is not whole; an input that is too short
    ∷ record { table = nine ++ (five ++ nine); input = asking 0 1; room = 136; reply = refuse FileCorruptError }
    ∷ record { table = nine ++ (0 ∷ []); input = asking 0 1; room = 136; reply = refuse FileCorruptError }
    ∷ record { table = files; input = 0 ∷ []; room = 136; reply = refuse InvalidParameter }
    ∷ []

pub examples-right : map (λ (e : Example). record { table = e.table; input = e.input; room = e.room; reply = enum_reply disk e.table pool e.input e.room }) examples ≡ examples
unfolding le unle number_at encode all_zero good_unit good_units good_name good_in layout first_rows rows good_row good_rows has_id distinct right_table selects selected insert by_id page_of rows_bytes input_check enum_check page_reply enum_reply
examples-right = refl

-- ---- following

-- every file, whatever its Usn
abbrev pub all : Query
all = record { start = 0; low = 0; high = 2 ^ 63 - 1 }

-- a call with no versions, and two with versions 2 to 3
abbrev pub turns : List Turn
turns =
    record { versions = []; room = 600 }
    ∷ record { versions = 2 ∷ 0 ∷ 3 ∷ 0 ∷ 0 ∷ 0 ∷ 0 ∷ 0 ∷ []; room = 600 }
    ∷ record { versions = 2 ∷ 0 ∷ 3 ∷ 0 ∷ 0 ∷ 0 ∷ 0 ∷ 0 ∷ []; room = 65536 }
    ∷ []

files-good : right_table pool files ≡ true
unfolding unle number_at all_zero good_unit good_units good_name good_in first_rows rows good_row good_rows has_id distinct right_table
files-good = refl

all-sized : Sized all
all-sized = record { start = lit< tt; low = lit< tt; high = lit< tt }

pub all-followed : Followed disk files pool all turns
unfolding unle number_at all_zero first_rows rows selects selected insert by_id
all-followed = enumerates.followed disk files pool all turns refl files-good (are-bytes files refl) all-sized (refl, lit≤ tt, (refl, lit≤ tt, (refl, lit≤ tt, tt))) (lit< tt)
