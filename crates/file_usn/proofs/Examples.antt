-- A file with no links, and one with a wide id: one table and one statement for each.
-- Assumes nothing.
use mathlib.Core.Path.{◌≡◌, refl}
use mathlib.Core.List.{List, [], ◌∷◌, map}
use Prim.Native.Nat.{ℕ}
use lib.ListN.{replicate}
use Rattle.le.specs.Numbers.{le, unle, number_at, encode}
use Rattle.le.specs.Bytes.{all_zero}
use Rattle.status.specs.declared.Status.TheVariants.{Success, BufferTooSmall, NotSupported}
use Rattle.status.specs.Reply.{Reply, refuse, give, answer}
use Rattle.volume.specs.declared.Volume.{Volume}
use Rattle.usn_record.specs.Layout.{layout}
use Rattle.file_record.specs.declared.FileRecord.{FileRecord}
use Rattle.file_links.specs.Links.{links_of, good_links, good_table, first_of}
use Rattle.file_usn.specs.FileUsn.{file_check, file_answer, named_reply, file_reply}

abbrev pub disk : Volume
disk = record { usn = 1; regions = 0; reparse = 0; points = 0; journal = 0; state = 0; id = 0; first = 0; last = 0; capacity = 0 }

abbrev pub file : FileRecord
file = record { id = 5 ∷ replicate 15 0; usn = 1024; eof = 0; valid = 0; attributes = 32; tag = 0; guid = replicate 16 0; length = 0 }

-- the room, the reply, and how many bytes it counts
pub record Example : Type 0 where
  pub room : ℕ
  pub reply : Reply
  pub count : ℕ

-- RecordLength 64, version 2.0, file 5, parent 7, Usn 1024, four times 0, attributes 32, no name at 60
abbrev pub bytes : List ℕ
bytes =
    64 ∷ 0 ∷ 0 ∷ 0 ∷ 2 ∷ 0 ∷ 0 ∷ 0
    ∷ 5 ∷ 0 ∷ 0 ∷ 0 ∷ 0 ∷ 0 ∷ 0 ∷ 0
    ∷ 7 ∷ 0 ∷ 0 ∷ 0 ∷ 0 ∷ 0 ∷ 0 ∷ 0
    ∷ 0 ∷ 4 ∷ 0 ∷ 0 ∷ 0 ∷ 0 ∷ 0 ∷ 0
    ∷ 0 ∷ 0 ∷ 0 ∷ 0 ∷ 0 ∷ 0 ∷ 0 ∷ 0
    ∷ 0 ∷ 0 ∷ 0 ∷ 0 ∷ 0 ∷ 0 ∷ 0 ∷ 0
    ∷ 0 ∷ 0 ∷ 0 ∷ 0 ∷ 32 ∷ 0 ∷ 0 ∷ 0
    ∷ 0 ∷ 0 ∷ 60 ∷ 0 ∷ 0 ∷ 0 ∷ 0 ∷ 0 ∷ []

abbrev pub examples : List Example
examples = record { room = 64; reply = give Success bytes; count = 64 } ∷ record { room = 63; reply = refuse BufferTooSmall; count = 0 } ∷ []

-- a file with parent 7 and no links, read with no input
abbrev reply_in : ℕ → Reply
reply_in room = file_reply disk file (7 ∷ replicate 15 0) [] [] [] room

pub no-links-right : map (λ (e : Example). record { room = e.room; reply = reply_in e.room; count = (answer (reply_in e.room)).count }) examples ≡ examples
unfolding le unle all_zero encode layout links_of good_links good_table first_of file_check file_answer named_reply
no-links-right = refl

-- a file whose id has a sixteenth byte, with parent 7 and no links: an input that asks for this version, and so much room
pub record Wide : Type 0 where
  pub version : ℕ
  pub room : ℕ
  pub reply : Reply

abbrev pub wide_file : FileRecord
wide_file =
    record {
      id = 5 ∷ 0 ∷ 0 ∷ 0 ∷ 0 ∷ 0 ∷ 0 ∷ 0 ∷ 0 ∷ 0 ∷ 0 ∷ 0 ∷ 0 ∷ 0 ∷ 0 ∷ 9 ∷ [];
      usn = 1024;
      eof = 0;
      valid = 0;
      attributes = 32;
      tag = 0;
      guid = replicate 16 0;
      length = 0;
    }

abbrev pub wide_bytes : List ℕ
wide_bytes =
    80 ∷ 0 ∷ 0 ∷ 0 ∷ 3 ∷ 0 ∷ 0 ∷ 0
    ∷ 5 ∷ 0 ∷ 0 ∷ 0 ∷ 0 ∷ 0 ∷ 0 ∷ 0
    ∷ 0 ∷ 0 ∷ 0 ∷ 0 ∷ 0 ∷ 0 ∷ 0 ∷ 9
    ∷ 7 ∷ 0 ∷ 0 ∷ 0 ∷ 0 ∷ 0 ∷ 0 ∷ 0
    ∷ 0 ∷ 0 ∷ 0 ∷ 0 ∷ 0 ∷ 0 ∷ 0 ∷ 0
    ∷ 0 ∷ 4 ∷ 0 ∷ 0 ∷ 0 ∷ 0 ∷ 0 ∷ 0
    ∷ 0 ∷ 0 ∷ 0 ∷ 0 ∷ 0 ∷ 0 ∷ 0 ∷ 0
    ∷ 0 ∷ 0 ∷ 0 ∷ 0 ∷ 0 ∷ 0 ∷ 0 ∷ 0
    ∷ 0 ∷ 0 ∷ 0 ∷ 0 ∷ 32 ∷ 0 ∷ 0 ∷ 0
    ∷ 0 ∷ 0 ∷ 76 ∷ 0 ∷ 0 ∷ 0 ∷ 0 ∷ 0 ∷ []

abbrev pub wides : List Wide
wides =
    record { version = 2; room = 63; reply = refuse BufferTooSmall }
    ∷ record { version = 2; room = 64; reply = refuse NotSupported }
    ∷ record { version = 3; room = 79; reply = refuse BufferTooSmall }
    ∷ record { version = 3; room = 80; reply = give Success wide_bytes }
    ∷ []

abbrev reply_as : ℕ → ℕ → Reply
reply_as version room = file_reply disk wide_file (7 ∷ replicate 15 0) [] [] (version ∷ 0 ∷ version ∷ 0 ∷ []) room

pub wides-right : map (λ (e : Wide). record { version = e.version; room = e.room; reply = reply_as e.version e.room }) wides ≡ wides
unfolding le unle number_at all_zero encode layout links_of good_links good_table first_of file_check file_answer named_reply
wides-right = refl
