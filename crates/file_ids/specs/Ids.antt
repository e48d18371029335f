-- File ids. An id is a run of sixteen bytes, the lowest first.
use Rattle.std.specs.Prelude.{ℕ, ◌≡◌, List, Bool, not, length, drop}
use Rattle.le.specs.Numbers.{le, unle}
use Rattle.le.specs.Bytes.{Bytes, all_zero}

-- a run that is an id
pub record Id (id : List ℕ) : Type 0 where
  pub size : length id ≡ 16
  pub bytes : Bytes id

-- its upper eight bytes are not all zero
abbrev pub wide : List ℕ → Bool
wide id = not (all_zero (drop 8 id))

-- ---- an id as the one number that a record's layout has for it

abbrev pub id_number : List ℕ → ℕ
id_number id = unle id

abbrev pub id_bytes : ℕ → List ℕ
id_bytes n = le 16 n
