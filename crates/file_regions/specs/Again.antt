-- After a warning: a caller asks again, for what is behind the region that it got.
use Rattle.std.specs.Prelude.{◌≡◌, List, ◌++◌, ℕ, ◌+◌, ◌-◌, drop}
use Rattle.le.specs.Bytes.{Bytes}
use Rattle.status.specs.declared.Status.TheVariants.{Success, BufferOverflow}
use Rattle.status.specs.Reply.{Reply, answer, written}
use Rattle.volume.specs.declared.Volume.{Volume}
use Rattle.file_record.specs.declared.FileRecord.{FileRecord}
use Rattle.file_regions.specs.declared.Asked.{Asked}
use Rattle.file_regions.specs.declared.Region.{Region}
use Rattle.file_regions.specs.Regions.{asked_of, regions_reply}
use Rattle.file_regions.specs.Caller.{input_for, region_at}

-- what is left of a range behind the region that it begins with
abbrev pub behind : Asked → Region → Asked
behind a r = record { offset = r.offset + r.length; length = a.length - r.length; usage = a.usage }

-- the reply to one who asks for what is behind the first region of a reply
abbrev pub next_reply : Volume → FileRecord → List ℕ → ℕ → Reply
next_reply v f input room = regions_reply v f (input_for (behind (asked_of input) (region_at (written (regions_reply v f input room)) 16))) room

pub record Completes (v : Volume) (f : FileRecord) (input : List ℕ) (room : ℕ) : Type 0 where
  -- the second call is the last
  pub done : (answer (next_reply v f input room)).status ≡ Success
  -- and both give the regions that one call with 64 bytes of output gives
  pub whole :
      drop 16 (written (regions_reply v f input room)) ++ drop 16 (written (next_reply v f input room)) ≡ drop 16 (written (regions_reply v f input 64))

-- whoever is warned and asks again has the whole answer, if volume and file are as they were
abbrev pub Again : Type 0
Again =
    (v : Volume) (f : FileRecord) (input : List ℕ) (room : ℕ) → Bytes input → (answer (regions_reply v f input room)).status ≡ BufferOverflow
    → Completes v f input room
