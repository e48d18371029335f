-- Examples: a symbolic link's tag with 20 bytes of data, and a file without a reparse point.
-- Assumes nothing.
use mathlib.Core.Path.{◌≡◌, refl}
use mathlib.Core.List.{List, [], ◌∷◌, ◌++◌, map}
use Prim.Native.Nat.{ℕ, ◌-◌}
use lib.ListN.{length, replicate}
use Rattle.le.specs.Numbers.{le, encode}
use Rattle.status.specs.declared.Status.TheVariants.{Success, BufferTooSmall, NotAReparsePoint}
use Rattle.status.specs.Reply.{Reply, refuse, give, answer}
use Rattle.volume.specs.declared.Volume.{Volume}
use Rattle.file_record.specs.declared.FileRecord.{FileRecord}
use Rattle.reparse_point.specs.Reparse.{most_data, header_length, reparse_header, good_point, reparse_check, reparse_bytes, reparse_reply}

abbrev pub volume : Volume
volume = record { usn = 0; regions = 0; reparse = 1; points = 1; journal = 0; state = 0; id = 0; first = 0; last = 0; capacity = 0 }

abbrev pub file : ℕ → ℕ → FileRecord
file tag n = record { id = 1 ∷ replicate 15 0; attributes = 0x400; usn = 0; eof = 0; valid = 0; tag = tag; guid = replicate 16 0; length = n }

abbrev pub twenty : List ℕ
twenty = 1 ∷ 2 ∷ 3 ∷ 4 ∷ 5 ∷ 6 ∷ 7 ∷ 8 ∷ 9 ∷ 10 ∷ 11 ∷ 12 ∷ 13 ∷ 14 ∷ 15 ∷ 16 ∷ 17 ∷ 18 ∷ 19 ∷ 20 ∷ []

-- a tag, its data, the room, the reply, and how many bytes it counts
pub record Example : Type 0 where
  pub tag : ℕ
  pub bytes : List ℕ
  pub room : ℕ
  pub reply : Reply
  pub count : ℕ

abbrev pub row : ℕ → List ℕ → ℕ → Reply → ℕ → Example
row tag bytes room reply count = record { tag = tag; bytes = bytes; room = room; reply = reply; count = count }

abbrev pub examples : List Example
examples =
    row 0xA000000C twenty 7 (refuse BufferTooSmall) 0
    ∷ row 0xA000000C twenty 18 (give Success (0x0C ∷ 0 ∷ 0 ∷ 0xA0 ∷ 20 ∷ 0 ∷ 0 ∷ 0 ∷ 1 ∷ 2 ∷ 3 ∷ 4 ∷ 5 ∷ 6 ∷ 7 ∷ 8 ∷ 9 ∷ 10 ∷ [])) 18
    ∷ row 0 [] 18 (refuse NotAReparsePoint) 0
    ∷ []

-- the data in a store of 16,376 bytes
abbrev reply_to : Example → Reply
reply_to e = reparse_reply volume (file e.tag (length e.bytes)) (e.bytes ++ replicate (16376 - length e.bytes) 0xEE) e.room

-- each call gives its reply
pub reparse-right : map (λ (e : Example). row e.tag e.bytes e.room (reply_to e) (answer (reply_to e)).count) examples ≡ examples
unfolding le encode most_data header_length reparse_header good_point reparse_check reparse_bytes reparse_reply
reparse-right = refl
