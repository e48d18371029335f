-- Rows of nine numbers, and a digest of bytes.
use Rattle.std.specs.Prelude.{cond, List, [], ◌∷◌, ℕ, ◌+◌, ◌*◌, ◌%◌, leb, length}
use Rattle.le.specs.Numbers.{number_at}

-- number i of a row; 0 where there is none
abbrev pub number_in : List ℕ → ℕ → ℕ
number_in row i = cond (leb (8 * i + 8) (length row)) (number_at row (8 * i) 8) 0

-- a number that tells one run of bytes from another
unfoldable pub digest_from : ℕ → List ℕ → ℕ
digest_from d [] = d % 4294967291
digest_from d (b ∷ bs) = digest_from (d % 4294967291 * 31 + b) bs
