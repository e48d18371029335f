-- The examples of FSCTL_QUERY_FILE_REGIONS: one table and one statement.
-- Assumes nothing.
use mathlib.Core.Path.{◌≡◌, refl}
use mathlib.Core.List.{List, [], ◌∷◌, ◌++◌, map}
use mathlib.Core.Bool.{true}
use Prim.Native.Nat.{ℕ, ◌<◌}
use lib.Dec.{lit<, lit≤}
use lib.ListN.{replicate}
use Rattle.le.specs.Numbers.{le, unle, number_at, encode}
use Rattle.le.proofs.Runs.{all_bytes, are-bytes}
use Rattle.status.specs.declared.Status.TheVariants.{Success, BufferOverflow, InvalidParameter}
use Rattle.status.specs.Reply.{Reply, refuse, give, answer, written}
use Rattle.volume.specs.declared.Volume.{Volume}
use Rattle.file_record.specs.declared.FileRecord.{FileRecord}
use Rattle.file_regions.specs.Regions.{asked_of, good_sizes, asked_check, regions_check, first_region, second_due, second_region, is_outside, list_bytes, answer_regions, regions_answer, regions_reply}
use Rattle.file_regions.specs.declared.Asked.{Asked}
use Rattle.file_regions.specs.Caller.{input_for, region_at, regions_from}
use Rattle.file_regions.specs.Again.{behind, next_reply}
use Rattle.file_regions.specs.Tiling.{lies_in, usages_of, usages_in, Tiled, first_part, second_part, Asks, Splits}
use Rattle.file_regions.proofs.Tiling.{tiles, split}

-- a volume that supports the control
abbrev pub volume : Volume
volume = record { usn = 0; regions = 1; reparse = 0; points = 0; journal = 0; state = 0; id = 0; first = 0; last = 0; capacity = 0 }

-- a file with this Eof and Vdl
abbrev pub file : ℕ → ℕ → FileRecord
file eof vdl = record { id = replicate 16 0; attributes = 0; usn = 0; eof = eof; valid = vdl; tag = 0; guid = replicate 16 0; length = 0 }

-- a number below 256 as the bytes of 4 and of 8, written out
abbrev pub four : ℕ → List ℕ
four n = n ∷ 0 ∷ 0 ∷ 0 ∷ []

abbrev pub eight : ℕ → List ℕ
eight n = n ∷ 0 ∷ 0 ∷ 0 ∷ 0 ∷ 0 ∷ 0 ∷ 0 ∷ []

-- 2^63-1
abbrev pub most : List ℕ
most = 0xFF ∷ 0xFF ∷ 0xFF ∷ 0xFF ∷ 0xFF ∷ 0xFF ∷ 0xFF ∷ 0x7F ∷ []

-- FileOffset, Length, DesiredUsage and Reserved; a region of the reply has the same numbers
abbrev pub asks : ℕ → ℕ → ℕ → List ℕ
asks offset length usage = eight offset ++ (eight length ++ (four usage ++ four 0))

-- Flags, both counts and Reserved
abbrev pub counts : ℕ → ℕ → List ℕ
counts total given = four 0 ++ (four total ++ (four given ++ four 0))

-- Eof, Vdl, the input, the room, the reply, and how many bytes it counts
pub record Example : Type 0 where
  pub eof : ℕ
  pub vdl : ℕ
  pub input : List ℕ
  pub room : ℕ
  pub reply : Reply
  pub count : ℕ

abbrev pub row : ℕ → ℕ → List ℕ → ℕ → Reply → ℕ → Example
row eof vdl input room reply count = record { eof = eof; vdl = vdl; input = input; room = room; reply = reply; count = count }

abbrev pub examples : List Example
examples =
    row 100 60 [] 64 (give Success (counts 2 2 ++ (asks 0 60 1 ++ asks 60 40 0))) 64
    ∷ row 100 60 [] 63 (give BufferOverflow (counts 2 1 ++ asks 0 60 1)) 40
    ∷ row 100 60 (asks 50 20 1) 64 (give Success (counts 2 2 ++ (asks 50 10 1 ++ asks 60 10 0))) 64
    ∷ row 100 60 (asks 50 10 3) 64 (give Success (counts 1 1 ++ asks 50 10 3)) 40
    ∷ row 100 60 (asks 100 1 1) 64 (give Success []) 0
    ∷ row 0 0 [] 40 (give Success (counts 1 1 ++ asks 0 0 0)) 40
    ∷ row 100 60 (eight 1 ++ (most ++ (four 1 ++ four 0))) 64 (refuse InvalidParameter) 0
    ∷ []

abbrev reply_to : Example → Reply
reply_to e = regions_reply volume (file e.eof e.vdl) e.input e.room

-- each query gives its reply
pub regions-right : map (λ (e : Example). row e.eof e.vdl e.input e.room (reply_to e) (answer (reply_to e)).count) examples ≡ examples
unfolding le unle number_at encode asked_of good_sizes asked_check regions_check first_region second_due second_region is_outside list_bytes answer_regions regions_answer regions_reply
regions-right = refl

-- a warning, what is asked then, and the reply to that
pub again-right :
    (regions_reply volume (file 100 60) [] 40 ≡ give BufferOverflow (counts 2 1 ++ asks 0 60 1))
    × (input_for (behind (asked_of []) (region_at (written (regions_reply volume (file 100 60) [] 40)) 16))
    ≡ eight 60 ++ ((0xC3 ∷ 0xFF ∷ 0xFF ∷ 0xFF ∷ 0xFF ∷ 0xFF ∷ 0xFF ∷ 0x7F ∷ []) ++ (four 1 ++ four 0)))
    × (next_reply volume (file 100 60) [] 40 ≡ give Success (counts 1 1 ++ asks 60 40 0))
unfolding le unle number_at encode asked_of good_sizes asked_check regions_check first_region second_due second_region is_outside list_bytes answer_regions regions_answer regions_reply
again-right = (refl, refl, refl)

-- ---- bytes 2 to 10 with usage 3, of a file with Eof 6 and Vdl 4

abbrev pub part : ℕ → ℕ → Asked
part offset length = record { offset = offset; length = length; usage = 3 }

-- the input that asks for a part of them, and the reply to it
abbrev pub part_asks : Asked → List ℕ
part_asks a = asks a.offset a.length a.usage

abbrev pub part_reply : Asked → Reply
part_reply a = regions_reply volume (file 6 4) (part_asks a) 64

-- a part, its reply, and the usages that the reply gives the bytes 0 to 7
abbrev pub Part : Type 0
Part = Asked × Reply × List (List ℕ)

abbrev pub parts : List Part
parts =
    -- at once
    (part 2 9, give Success (counts 2 2 ++ (asks 2 2 3 ++ asks 4 2 0)), [] ∷ [] ∷ (3 ∷ []) ∷ (3 ∷ []) ∷ (0 ∷ []) ∷ (0 ∷ []) ∷ [] ∷ [] ∷ [])
    -- split at 5
    ∷ (part 2 3, give Success (counts 2 2 ++ (asks 2 2 3 ++ asks 4 1 0)), [] ∷ [] ∷ (3 ∷ []) ∷ (3 ∷ []) ∷ (0 ∷ []) ∷ [] ∷ [] ∷ [] ∷ [])
    ∷ (part 5 6, give Success (counts 1 1 ++ asks 5 1 0), [] ∷ [] ∷ [] ∷ [] ∷ [] ∷ (0 ∷ []) ∷ [] ∷ [] ∷ [])
    -- split at Eof
    ∷ (part 2 4, give Success (counts 2 2 ++ (asks 2 2 3 ++ asks 4 2 0)), [] ∷ [] ∷ (3 ∷ []) ∷ (3 ∷ []) ∷ (0 ∷ []) ∷ (0 ∷ []) ∷ [] ∷ [] ∷ [])
    ∷ (part 6 5, give Success [], [] ∷ [] ∷ [] ∷ [] ∷ [] ∷ [] ∷ [] ∷ [] ∷ [])
    ∷ []

abbrev part_of : Asked → Part
part_of a = (a, part_reply a, map (usages_in (written (part_reply a))) (0 ∷ 1 ∷ 2 ∷ 3 ∷ 4 ∷ 5 ∷ 6 ∷ 7 ∷ []))

pub parts-right : map (λ (e : Part). part_of e.0) parts ≡ parts
unfolding le unle number_at encode asked_of good_sizes asked_check regions_check first_region second_due second_region is_outside list_bytes answer_regions regions_answer regions_reply regions_from lies_in usages_of
parts-right = refl

-- they meet the hypotheses of the theorems
pub tiles-met : Tiled (file 6 4) (part 2 9) (written (part_reply (part 2 9)))
unfolding le unle number_at encode asked_of good_sizes asked_check regions_check first_region second_due second_region is_outside list_bytes answer_regions regions_answer regions_reply
tiles-met = tiles volume (file 6 4) (part_asks (part 2 9)) 64 (are-bytes (part_asks (part 2 9)) refl) refl

part-asks : (a : Asked) → all_bytes (part_asks a) ≡ true → asked_of (part_asks a) ≡ a → Asks (part_asks a) a
part-asks a e q = record { bytes = are-bytes (part_asks a) e; long = refl; range = q }

part-splits : (m : ℕ) → 2 < m → m < 11 → Asks (part_asks (first_part (part 2 9) m)) (first_part (part 2 9) m)
    → Asks (part_asks (second_part (part 2 9) m)) (second_part (part 2 9) m)
    → Splits (file 6 4) m (part_reply (part 2 9)) (part_reply (first_part (part 2 9) m)) (part_reply (second_part (part 2 9) m))
unfolding unle number_at asked_of
part-splits m h k x y = split volume (file 6 4) (part 2 9) m 64 _ _ _ (part-asks (part 2 9) refl refl) x y (lit≤ tt) h k

pub split-met : Splits (file 6 4) 5 (part_reply (part 2 9)) (part_reply (part 2 3)) (part_reply (part 5 6))
unfolding unle number_at asked_of
split-met = part-splits 5 (lit< tt) (lit< tt) (part-asks (part 2 3) refl refl) (part-asks (part 5 6) refl refl)

pub past-met : Splits (file 6 4) 6 (part_reply (part 2 9)) (part_reply (part 2 4)) (part_reply (part 6 5))
unfolding unle number_at asked_of
past-met = part-splits 6 (lit< tt) (lit< tt) (part-asks (part 2 4) refl refl) (part-asks (part 6 5) refl refl)
