-- The caller's side of a region query: the input for a range, and the regions in the bytes of a reply.
use Rattle.std.specs.Prelude.{Bool, ◌||◌, List, [], ◌∷◌, ℕ, zero, suc, ◌+◌, ◌*◌, eqb, length}
use Rattle.le.specs.Numbers.{number_at, encode}
use Rattle.file_regions.specs.declared.Asked.{Asked}
use Rattle.file_regions.specs.declared.Region.{Region}
use Rattle.file_regions.specs.Regions.{region}

-- FileOffset, Length, DesiredUsage and what is ignored
abbrev pub input_for : Asked → List ℕ
input_for a = encode (8 ∷ 8 ∷ 4 ∷ 4 ∷ []) (a.offset ∷ a.length ∷ a.usage ∷ 0 ∷ [])

-- the region at a place of a reply: its offset, length and usage
abbrev pub region_at : List ℕ → ℕ → Region
region_at reply at = region (number_at reply at 8) (number_at reply (at + 8) 8) (number_at reply (at + 16) 4)

-- so many regions one after another, 24 bytes each
unfoldable pub regions_from : List ℕ → ℕ → ℕ → List Region
regions_from reply at zero = []
regions_from reply at (suc n) = region_at reply at ∷ regions_from reply (at + 24) n

-- how many it has, by its entry count; none if it has no bytes
abbrev pub entries_in : List ℕ → ℕ
entries_in reply = number_at reply 8 4

-- those behind the header
abbrev pub regions_in : List ℕ → List Region
regions_in reply = regions_from reply 16 (entries_in reply)

-- a reply has no bytes, or those of its header and of as many regions as its entry count says
unfoldable pub is_whole : List ℕ → Bool
is_whole reply = eqb (length reply) 0 || eqb (length reply) (16 + 24 * entries_in reply)
