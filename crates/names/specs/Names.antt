-- Which names there may be.
use Rattle.std.specs.Prelude.{ℕ, ◌+◌, ◌*◌, ◌%◌, List, [], ◌∷◌, Bool, true, not, ◌&&◌, leb, eqb, length, take, drop}

-- a code unit is not 0, 0x2F or 0x5C
unfoldable pub good_unit : ℕ → Bool
good_unit u = not (eqb u 0) && (not (eqb u 0x2F) && not (eqb u 0x5C))

-- each code unit is good: two bytes, the lower first; a single last byte is none
unfoldable pub good_units : List ℕ → Bool
good_units [] = true
good_units (a ∷ []) = true
good_units (a ∷ b ∷ s) = good_unit (a + 256 * b) && good_units s

-- a name is even and at most 510 bytes, and each of its code units is good
unfoldable pub good_name : List ℕ → Bool
good_name name = leb (length name) 510 && (eqb (length name % 2) 0 && good_units name)

-- ---- names in a pool

-- the n bytes from a place on
abbrev pub name_in : List ℕ → ℕ → ℕ → List ℕ
name_in pool place n = take n (drop place pool)

-- they lie inside the pool, and may be a name
unfoldable pub good_in : List ℕ → ℕ → ℕ → Bool
good_in pool place n = leb (place + n) (length pool) && good_name (name_in pool place n)
