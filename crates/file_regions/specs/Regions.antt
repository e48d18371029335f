-- FSCTL_QUERY_FILE_REGIONS: what is asked, the regions, and the reply.
use Rattle.std.specs.Prelude.{Bool, cond, ◌&&◌, ◌||◌, List, [], ◌∷◌, ◌++◌, ℕ, ◌+◌, ◌-◌, ◌*◌, ◌%◌, ◌^◌, min, leb, ltb, eqb, length, take, Option}
use Rattle.le.specs.Numbers.{number_at, encode}
use Rattle.status.specs.declared.Status.{Status}
use Rattle.status.specs.declared.Status.TheVariants.{Success, BufferOverflow, InvalidParameter, InvalidDeviceRequest, BufferTooSmall, FileCorruptError}
use Rattle.status.specs.Check.{unless, else}
use Rattle.status.specs.Reply.{Reply, give, guard}
use Rattle.volume.specs.declared.Volume.{Volume}
use Rattle.volume.specs.State.{supported}
use Rattle.file_record.specs.declared.FileRecord.{FileRecord}
use Rattle.file_regions.specs.declared.Asked.{Asked}
use Rattle.file_regions.specs.declared.Region.{Region}

-- no input means all of the file and usage 1; else FileOffset, Length, DesiredUsage, and what follows is ignored
unfoldable pub asked_of : List ℕ → Asked
asked_of input =
    cond (eqb (length input) 0) (record { offset = 0; length = 2 ^ 63 - 1; usage = 1 })
    (record { offset = number_at input 0 8; length = number_at input 8 8; usage = number_at input 16 4 })

-- Vdl <= Eof <= 2^63-1
unfoldable pub good_sizes : FileRecord → Bool
good_sizes f = leb f.valid f.eof && ltb f.eof (2 ^ 63)

-- a Length above 0 as a signed number, an end at most 2^63-1 with FileOffset read unsigned, and flag 1 of the usage
unfoldable pub asked_check : Asked → Option Status
asked_check a =
    else (unless (ltb 0 a.length && ltb a.length (2 ^ 63)) InvalidParameter)
    (else (unless (ltb (a.offset + a.length) (2 ^ 63)) InvalidParameter) (unless (eqb (a.usage % 2) 1) InvalidParameter))

-- the checks on volume, file record, input and output
unfoldable pub regions_check : Volume → FileRecord → List ℕ → ℕ → Option Status
regions_check v f input room =
    else (unless (supported v.regions) InvalidDeviceRequest)
    (else (unless (good_sizes f) FileCorruptError)
    (else (unless (eqb (length input) 0 || leb 24 (length input)) BufferTooSmall)
    (else (asked_check (asked_of input)) (unless (leb 40 room) BufferTooSmall))))

-- ---- the regions

abbrev pub region : ℕ → ℕ → ℕ → Region
region offset length usage = record { offset = offset; length = length; usage = usage }

-- the first: behind the valid data with usage 0, else up to its end with the usage asked for
unfoldable pub first_region : ℕ → ℕ → Asked → Region
first_region eof vdl a =
    cond (leb vdl a.offset) (region a.offset (min a.length (eof - a.offset)) 0)
    (region a.offset (min (vdl - a.offset) a.length) a.usage)

-- a second is due from the end of the valid data on
unfoldable pub second_due : ℕ → ℕ → Asked → Bool
second_due eof vdl a = ltb a.offset vdl && (ltb vdl eof && ltb (first_region eof vdl a).length a.length)

unfoldable pub second_region : ℕ → ℕ → Asked → Region
second_region eof vdl a = region vdl (min (a.length - (first_region eof vdl a).length) (eof - vdl)) 0

abbrev pub regions_of : ℕ → ℕ → Asked → List Region
regions_of eof vdl a = first_region eof vdl a ∷ cond (second_due eof vdl a) (second_region eof vdl a ∷ []) []

-- ---- the reply

-- an offset behind the file, or at its end if it isn't empty
unfoldable pub is_outside : ℕ → ℕ → Bool
is_outside eof offset = ltb eof offset || (eqb offset eof && ltb 0 eof)

-- Flags 0, how many regions there are, how many are given, Reserved 0
abbrev pub regions_header : ℕ → ℕ → List ℕ
regions_header total given = encode (4 ∷ 4 ∷ 4 ∷ 4 ∷ []) (0 ∷ total ∷ given ∷ 0 ∷ [])

abbrev pub region_bytes : Region → List ℕ
region_bytes r = encode (8 ∷ 8 ∷ 4 ∷ 4 ∷ []) (r.offset ∷ r.length ∷ r.usage ∷ 0 ∷ [])

unfoldable pub list_bytes : List Region → List ℕ
list_bytes [] = []
list_bytes (r ∷ rs) = region_bytes r ++ list_bytes rs

-- the reply that gives some regions of `total`
abbrev pub regions_bytes : ℕ → List Region → List ℕ
regions_bytes total given = regions_header total (length given) ++ list_bytes given

-- all regions; where they do not fit, a warning with the first alone
unfoldable pub answer_regions : List Region → ℕ → Reply
answer_regions rs room =
    let n = length rs in
    cond (leb (16 + 24 * n) room) (give Success (regions_bytes n rs)) (give BufferOverflow (regions_bytes n (take 1 rs)))

unfoldable pub regions_answer : FileRecord → Asked → ℕ → Reply
regions_answer f a room = cond (is_outside f.eof a.offset) (give Success []) (answer_regions (regions_of f.eof f.valid a) room)

-- the reply of the whole control, with `room` bytes of output
unfoldable pub regions_reply : Volume → FileRecord → List ℕ → ℕ → Reply
regions_reply v f input room = guard (regions_check v f input room) (regions_answer f (asked_of input) room)
