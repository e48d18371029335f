-- Numbers of 64 bits in decimal, as ASCII text.
use Rattle.std.specs.Prelude.{ℕ, zero, suc, ◌+◌, ◌-◌, ◌/◌, ◌%◌, ◌^◌, List, [], ◌∷◌, cond, ltb}

-- the decimal digits of n, the highest first, in front of `tail`; at most k of them
unfoldable pub decimal_to : ℕ → ℕ → List ℕ → List ℕ
decimal_to zero n tail = tail
decimal_to (suc k) n tail =
    let last = (48 + n % 10) ∷ tail in
    let more = decimal_to k (n / 10) last in
    cond (ltb n 10) last more

-- a number of 64 bits in decimal: at most 20 digits, no zero in front
unfoldable pub decimal : ℕ → List ℕ
decimal n = decimal_to 20 n []

-- 64 bits as a signed number: 2^63 and above are negative, with '-' in front
unfoldable pub signed : ℕ → List ℕ
signed x = cond (ltb x (2 ^ 63)) (decimal x) (45 ∷ decimal (2 ^ 64 - x))
