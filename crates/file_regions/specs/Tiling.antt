-- Region replies tile the file: what they say of each byte of it, what is due to that byte, and that the two agree.
use Rattle.std.specs.Prelude.{◌≡◌, Bool, true, cond, ◌&&◌, ◌||◌, List, [], ◌∷◌, ◌++◌, ℕ, ◌+◌, ◌-◌, ◌≤◌, ◌<◌, min, leb, ltb, eqb, length}
use Rattle.le.specs.Bytes.{Bytes}
use Rattle.status.specs.declared.Status.TheVariants.{Success}
use Rattle.status.specs.Reply.{Reply, answer, written}
use Rattle.volume.specs.declared.Volume.{Volume}
use Rattle.file_record.specs.declared.FileRecord.{FileRecord}
use Rattle.file_regions.specs.declared.Asked.{Asked}
use Rattle.file_regions.specs.declared.Region.{Region}
use Rattle.file_regions.specs.Regions.{asked_of, region, regions_reply}
use Rattle.file_regions.specs.Caller.{regions_in, is_whole}

-- ---- what regions say of a byte of the file

-- that it lies in one
unfoldable pub lies_in : Region → ℕ → Bool
lies_in r byte = leb r.offset byte && ltb byte (r.offset + r.length)

-- its usages: one from each region that it lies in
unfoldable pub usages_of : List Region → ℕ → List ℕ
usages_of [] byte = []
usages_of (r ∷ rs) byte = cond (lies_in r byte) (r.usage ∷ usages_of rs byte) (usages_of rs byte)

-- the usages that a reply gives it
abbrev pub usages_in : List ℕ → ℕ → List ℕ
usages_in reply byte = usages_of (regions_in reply) byte

-- ---- what is due to it

-- what is asked for ends at the lesser of offset plus length and Eof
abbrev pub end_of : FileRecord → Asked → ℕ
end_of f a = min (a.offset + a.length) f.eof

-- from the offset up to there
unfoldable pub is_asked : FileRecord → Asked → ℕ → Bool
is_asked f a byte = leb a.offset byte && ltb byte (end_of f a)

-- as asked below Vdl, 0 from Vdl on
unfoldable pub usage_due : FileRecord → Asked → ℕ → ℕ
usage_due f a byte = cond (ltb byte f.valid) a.usage 0

-- that to a byte that is asked for, and none to any other
unfoldable pub usages_due : FileRecord → Asked → ℕ → List ℕ
usages_due f a byte = cond (is_asked f a byte) (usage_due f a byte ∷ []) []

-- ---- one call

-- the reply to one who asked for a range
pub record Tiled (f : FileRecord) (a : Asked) (reply : List ℕ) : Type 0 where
  -- the regions that are decoded are in the reply, and nothing behind them
  pub whole : is_whole reply ≡ true
  -- each byte that is asked for lies in exactly one of them, with the usage due, and no other byte in any
  pub tiles : (byte : ℕ) → usages_in reply byte ≡ usages_due f a byte
  -- where the range begins at or past Eof, no byte has a usage
  pub outside : f.eof ≤ a.offset → (byte : ℕ) → usages_in reply byte ≡ []
  -- nor are there reply bytes, but for a range from 0 on in an empty file: one region of length 0
  pub none : f.eof ≤ a.offset → 0 < a.offset → reply ≡ []
  pub empty : f.eof ≡ 0 → a.offset ≡ 0 → regions_in reply ≡ region 0 0 0 ∷ []

abbrev pub Succeeds : Reply → Type 0
Succeeds reply = (answer reply).status ≡ Success

-- every call that succeeds tiles what it was asked for
abbrev pub Tiles : Type 0
Tiles =
    (v : Volume) (f : FileRecord) (input : List ℕ) (room : ℕ) → Bytes input → Succeeds (regions_reply v f input room)
    → Tiled f (asked_of input) (written (regions_reply v f input room))

-- ---- two calls for one

-- the range up to m, and the range from m on
abbrev pub first_part : Asked → ℕ → Asked
first_part a m = record { offset = a.offset; length = m - a.offset; usage = a.usage }

abbrev pub second_part : Asked → ℕ → Asked
second_part a m = record { offset = m; length = a.offset + a.length - m; usage = a.usage }

-- an input that asks for a range: none, or 24 bytes and more
pub record Asks (input : List ℕ) (a : Asked) : Type 0 where
  pub bytes : Bytes input
  pub long : eqb (length input) 0 || leb 24 (length input) ≡ true
  pub range : asked_of input ≡ a

-- the replies to a range at once, up to m, and from m on
pub record Splits (f : FileRecord) (m : ℕ) (whole first second : Reply) : Type 0 where
  -- the one succeeds exactly if the two do
  pub apart : Succeeds whole → Succeeds first × Succeeds second
  pub together : Succeeds first → Succeeds second → Succeeds whole
  -- then the two give every byte what the one gives it
  pub same : Succeeds whole → (byte : ℕ) → usages_in (written first) byte ++ usages_in (written second) byte ≡ usages_in (written whole) byte
  -- and where the second begins at or past Eof it has no bytes, and gives no byte a usage
  pub past : Succeeds whole → f.eof ≤ m → (written second ≡ []) × ((byte : ℕ) → usages_in (written second) byte ≡ [])

-- with 64 bytes of output or more, a range may be split anywhere inside
abbrev pub Split : Type 0
Split =
    (v : Volume) (f : FileRecord) (a : Asked) (m room : ℕ) (whole first second : List ℕ)
    → Asks whole a → Asks first (first_part a m) → Asks second (second_part a m) → 64 ≤ room → a.offset < m → m < a.offset + a.length
    → Splits f m (regions_reply v f whole room) (regions_reply v f first room) (regions_reply v f second room)
