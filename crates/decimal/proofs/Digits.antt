-- Laws of numbers in decimal: the loop that writes the digits, turn by turn, the sign, and digits read back.
-- Assumes nothing.
use mathlib.Core.Path.{◌≡◌, refl, sym, ap, ◌∙◌}
use mathlib.Core.List.{List, [], ◌∷◌, ◌++◌}
use Prim.Native.Nat.{ℕ, zero, suc, ◌+◌, ◌-◌, ◌*◌, ◌/◌, ◌%◌, ◌^◌, ◌≤◌, ◌<◌}
use native.Mathlib.Nat.{not-suc-le-zero, le_of_suc-le-suc, pow-suc}
use native.Mathlib.Omega.{arith}
use mathlib.Core.Bool.{Bool, true, false}
use lib.Dec.{ltb}
use lib.ListN.{length, take, drop, set, length-drop}
use lib.Seq.{take_all}
use borrow.Author.Tests.{lt-ltb, le-ltb, ltb-true}
use Rattle.le.proofs.Tail.{put-tail, lent, back}
use Rattle.decimal.specs.Decimal.{decimal_to, decimal, signed}

-- ---- decimal

drop-set : (i : ℕ) (s : List ℕ) (a : ℕ) → i < length s → drop i (set s i a) ≡ a ∷ drop (suc i) s
drop-set i [] a h = absurd (not-suc-le-zero h)
drop-set zero (x ∷ s) a h = refl
drop-set (suc i) (x ∷ s) a h = drop-set i s a (le_of_suc-le-suc h)

-- a turn that leaves digits to write
pub decimal-again : (value i rest : ℕ) (digits : List ℕ) → i ≤ 20 → length digits ≡ 20 → rest < 10 ^ i → decimal value ≡ decimal_to i rest (drop i digits)
    → 10 ≤ rest
    → (1 ≤ i - 1) × (rest / 10 < 10 ^ (i - 1)) × (decimal value ≡ decimal_to (i - 1) (rest / 10) (drop (i - 1) (set digits (i - 1) (48 + rest % 10))))
unfolding decimal_to
decimal-again value zero rest digits h n r e k = absurd (omega arith)
decimal-again value (suc zero) rest digits h n r e k = absurd (omega arith)
decimal-again value (suc (suc j)) rest digits h n r e k =
    let p : suc (suc j) - 1 ≡ suc j = omega arith in
    let q : rest < 10 ^ suc j * 10 = rw pow-suc at r in
    rw p (omega arith, omega arith, e ∙ rw (le-ltb rest 10 k, drop-set (suc j) digits (48 + rest % 10) (omega arith)))

-- the last turn
pub decimal-end : (value i rest : ℕ) (digits : List ℕ) → 1 ≤ i → i ≤ 20 → length digits ≡ 20 → decimal value ≡ decimal_to i rest (drop i digits)
    → rest < 10
    → decimal value ≡ drop (i - 1) (set digits (i - 1) (48 + rest % 10))
unfolding decimal_to
decimal-end value zero rest digits p h n e k = absurd (not-suc-le-zero p)
decimal-end value (suc j) rest digits p h n e k =
    let q : suc j - 1 ≡ j = omega arith in
    rw q (e ∙ rw (lt-ltb rest 10 k, drop-set j digits (48 + rest % 10) (omega arith)))

-- the digits copied
pub decimal-out : (value start : ℕ) (digits out last : List ℕ) → length digits ≡ 20 → decimal value ≡ drop start digits
    → last ≡ take (20 - start) (drop start digits) ++ drop (length (take (20 - start) (drop start digits))) out
    → (20 - start ≡ length (decimal value)) × (20 - start ≤ 20) × (last ≡ decimal value ++ drop (20 - start) out)
decimal-out value start digits out last n e q =
    let l : length (drop start digits) ≡ 20 - start = length-drop start digits ∙ ap (λ (m : ℕ). m - start) n in
    let t : take (20 - start) (drop start digits) ≡ drop start digits = take_all (20 - start) (drop start digits) (omega arith) in
    (sym (ap length e ∙ l), omega arith, q ∙ rw (t, l, e))

-- ---- signed

pub signed_low : (value : ℕ) → value < 2 ^ 63 → decimal value ≡ signed value
unfolding signed
signed_low value h = rw (lt-ltb value (2 ^ 63) h)

signed_high : (value : ℕ) → 2 ^ 63 ≤ value → value < 2 ^ 64 → signed value ≡ 45 ∷ decimal (2 ^ 64 - 1 - value + 1)
unfolding signed
signed_high value h k =
    let e : 2 ^ 64 - 1 - value + 1 ≡ 2 ^ 64 - value = omega arith in
    rw (le-ltb value (2 ^ 63) h, e)

-- the magnitude behind '-', written into the tail that was lent
pub signed-out : (value r : ℕ) (o last : List ℕ) → 2 ^ 63 ≤ value → value < 2 ^ 64 → 21 ≤ length o
    → (r ≡ length (decimal (2 ^ 64 - 1 - value + 1))) × (r ≤ 20) × (last ≡ decimal (2 ^ 64 - 1 - value + 1) ++ drop r (lent 1 (set o 0 45)))
    → (1 + r ≡ length (signed value)) × (1 + r ≤ 21) × (back 1 (set o 0 45) last ≡ signed value ++ drop (1 + r) o)
signed-out value r o last h k n q =
    let e : set o 0 45 ≡ 45 ∷ drop 1 o = drop-set 0 o 45 (omega arith) in
    rw (signed_high value h k)
    (omega arith, omega arith, put-tail 1 r (45 ∷ []) (decimal (2 ^ 64 - 1 - value + 1)) (set o 0 45) o last e refl (sym q.0) (omega arith) q.2)

-- ---- read back

-- the number that decimal digits hold, behind those that hold n
unfoldable pub undecimal : ℕ → List ℕ → ℕ
undecimal n [] = n
undecimal n (d ∷ ds) = undecimal (10 * n + (d - 48)) ds

undecimal-to : (k n : ℕ) (tail : List ℕ) → n < 10 ^ k → undecimal 0 (decimal_to k n tail) ≡ undecimal n tail
unfolding decimal_to undecimal
undecimal-to zero n tail h = let e : n ≡ 0 = omega arith in rw e
undecimal-to (suc k) n tail h =
    let q : n < 10 ^ k * 10 = rw pow-suc at h in
    go (ltb n 10) refl (undecimal-to k (n / 10) ((48 + n % 10) ∷ tail) (omega arith))
  where
    go : (b : Bool) → ltb n 10 ≡ b → undecimal 0 (decimal_to k (n / 10) ((48 + n % 10) ∷ tail)) ≡ undecimal (n / 10) ((48 + n % 10) ∷ tail)
        → undecimal 0 (decimal_to (suc k) n tail) ≡ undecimal n tail
    go true t e = rw t (ap (λ (m : ℕ). undecimal m tail) (omega (arith, ltb-true n 10 t)))
    go false t e = rw t (e ∙ ap (λ (m : ℕ). undecimal m tail) (omega arith))

-- the digits of n read back as n
pub decimal-value : (n : ℕ) → n < 10 ^ 20 → undecimal 0 (decimal n) ≡ n
unfolding decimal undecimal
decimal-value n h = undecimal-to 20 n [] h
