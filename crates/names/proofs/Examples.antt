-- The rule on names whose bytes are written out.
-- Assumes nothing.
use mathlib.Core.Path.{◌≡◌, refl}
use mathlib.Core.List.{List, [], ◌∷◌, map}
use mathlib.Core.Bool.{true, false}
use Prim.Native.Nat.{ℕ}
use lib.ListN.{replicate}
use Rattle.names.specs.Names.{good_unit, good_units, good_name}

-- the empty name, 'a.', and names that hold the bytes of the excluded code units but not these: U+5C00, U+015C, U+FF5C, U+2F00 U+5C5C; at
-- odd places, 5C 00 and 2F 00, and 00 00; and the longest
abbrev pub good : List (List ℕ)
good =
    []
    ∷ (0x61 ∷ 0 ∷ 0x2E ∷ 0 ∷ [])
    ∷ (0 ∷ 0x5C ∷ [])
    ∷ (0x5C ∷ 0x01 ∷ [])
    ∷ (0x5C ∷ 0xFF ∷ [])
    ∷ (0 ∷ 0x2F ∷ 0x5C ∷ 0x5C ∷ [])
    ∷ (0x61 ∷ 0x5C ∷ 0 ∷ 0x2F ∷ 0 ∷ 0x62 ∷ [])
    ∷ (0x61 ∷ 0 ∷ 0 ∷ 0x61 ∷ [])
    ∷ replicate 510 0x61
    ∷ []

pub all-good : map good_name good ≡ replicate 9 true
unfolding good_name good_units good_unit
all-good = refl

-- each excluded code unit alone; 0x5C as the last, 0x2F as the first, 0 inside; an odd name, and one that is too long
abbrev pub bad : List (List ℕ)
bad =
    (0 ∷ 0 ∷ [])
    ∷ (0x2F ∷ 0 ∷ [])
    ∷ (0x5C ∷ 0 ∷ [])
    ∷ (0x61 ∷ 0 ∷ 0x5C ∷ 0 ∷ [])
    ∷ (0x2F ∷ 0 ∷ 0x61 ∷ 0 ∷ [])
    ∷ (0x61 ∷ 0 ∷ 0 ∷ 0 ∷ 0x62 ∷ 0 ∷ [])
    ∷ (0x61 ∷ [])
    ∷ replicate 512 0x61
    ∷ []

pub all-bad : map good_name bad ≡ replicate 8 false
unfolding good_name good_units good_unit
all-bad = refl
