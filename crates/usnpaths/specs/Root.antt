-- An id as a word in hex.
use Rattle.std.specs.Prelude.{cond, List, [], ◌∷◌, ℕ, ◌+◌, ◌-◌, ◌*◌, length, drop, option_and_then, Option, None, Some}
use Rattle.le.specs.Bytes.{begins}
use Rattle.path_listing.specs.Text.{within}

-- the value of a digit: '0' to '9', 'A' to 'F', 'a' to 'f'
unfoldable pub digit_of : ℕ → Option ℕ
digit_of b = cond (within 48 57 b) (Some (b - 48)) (cond (within 65 70 b) (Some (b - 55)) (cond (within 97 102 b) (Some (b - 87)) None))

-- the number of digits that stand behind those of n; none where one of them is no digit
unfoldable pub digits_from : ℕ → List ℕ → Option ℕ
digits_from n [] = Some n
digits_from n (b ∷ bs) = option_and_then (λ d. digits_from (16 * n + d) bs) (digit_of b)

-- where a word's digits start: behind "0x", if it has that in front
abbrev pub start_of : List ℕ → ℕ
start_of word = cond (begins (48 ∷ 120 ∷ []) word) 2 0

abbrev pub digits_of : List ℕ → List ℕ
digits_of word = drop (start_of word) word

-- the number of the id that a word says, in 1 to 32 digits
unfoldable pub id_of : List ℕ → Option ℕ
id_of word = cond (within 1 32 (length (digits_of word))) (digits_from 0 (digits_of word)) None
