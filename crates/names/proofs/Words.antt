-- Four code units in a word: where bit 15 of each stays set, a name may hold all four.
-- Assumes nothing.
use mathlib.Core.Path.{◌≡◌, refl, sym, ap, ◌∙◌}
use mathlib.Core.List.{List, [], ◌∷◌}
use mathlib.Core.Bool.{true}
use Prim.Native.Nat.{ℕ, zero, suc, ◌+◌, ◌*◌, ◌/◌, ◌%◌, ◌^◌, ◌≤◌, ◌<◌}
use native.Mathlib.Omega.{arith}
use lib.Bits.{bit_and, bit_or, bit_xor, and_shr, and_mod, or_shr, or_mod, xor_shr, xor_mod, and_le_l, and_le_r, or_zero_r, xor_self}
use lib.ListN.{length, take, drop, length-drop}
use lib.Seq.{drop-drop}
use Rattle.le.specs.Numbers.{unle, number_at}
use Rattle.le.specs.Bytes.{Bytes}
use Rattle.le.proofs.Numbers.{bytes_drop}
use Rattle.names.specs.Names.{good_unit, good_units}
use Rattle.names.proofs.Units.{good}

abbrev pub tops : ℕ
tops = 0x8000_8000_8000_8000

abbrev lows : ℕ
lows = 0x7FFF_7FFF_7FFF_7FFF

abbrev slashes : ℕ
slashes = 0x002F_002F_002F_002F

abbrev backslashes : ℕ
backslashes = 0x005C_005C_005C_005C

-- ---- bits

-- bit k of a is set
abbrev Bit : ℕ → ℕ → Type 0
Bit a k = a / 2 ^ k % 2 ≡ 1

bit-and : (a b k : ℕ) → Bit (bit_and a b) k → Bit a k × Bit b k
bit-and a b k h =
    let x = a / 2 ^ k % 2 in
    let y = b / 2 ^ k % 2 in
    let e : bit_and x y ≡ 1 = sym (and_mod (a / 2 ^ k) (b / 2 ^ k) 1) ∙ ap (λ (n : ℕ). n % 2) (sym (and_shr a b k)) ∙ h in
    (omega (arith, and_le_l x y), omega (arith, and_le_r x y))

bit-or : (a b k : ℕ) → Bit (bit_or a b) k → (Bit b k → ⊥) → Bit a k
bit-or a b k h n =
    let x = a / 2 ^ k % 2 in
    let z : b / 2 ^ k % 2 ≡ 0 = omega arith in
    let e : bit_or x (b / 2 ^ k % 2) ≡ 1 = sym (or_mod (a / 2 ^ k) (b / 2 ^ k) 1) ∙ ap (λ (m : ℕ). m % 2) (sym (or_shr a b k)) ∙ h in
    sym (or_zero_r x) ∙ ap (bit_or x) (sym z) ∙ e

-- bit 15 of each unit is set
abbrev pub Set : ℕ → Type 0
Set a = (k : ℕ) → Bit tops k → Bit a k

set-and : (a b : ℕ) → Set (bit_and a b) → Set a × Set b
set-and a b s = ((λ k t. (bit-and a b k (s k t)).0), (λ k t. (bit-and a b k (s k t)).1))

pub set-masked : (a : ℕ) → bit_and a tops ≡ tops → Set a
set-masked a e k t = (bit-and a tops k (ap (λ (n : ℕ). n / 2 ^ k % 2) e ∙ t)).0

pub room : (z : ℕ) → bit_and z lows + lows < 2 ^ 64
room z = omega (arith, and_le_r z lows)

-- ---- one unit of a word, at bit k

abbrev unit_at : ℕ → ℕ → ℕ
unit_at k z = z / 2 ^ k % 65536

-- what is left of it under the mask, where it is zero
masked : (k z : ℕ) → unit_at k z ≡ 0 → unit_at k (bit_and z lows) ≡ 0
masked k z e =
    let m = ap (λ (n : ℕ). n % 65536) (and_shr z lows k) ∙ and_mod (z / 2 ^ k) (lows / 2 ^ k) 16 in
    omega (arith, m, e, and_le_l (unit_at k z) (unit_at k lows))

-- and of the bits below it
below : (k z : ℕ) → bit_and z lows % 2 ^ k ≤ lows % 2 ^ k
below k z = omega (arith, and_mod z lows k, and_le_r (z % 2 ^ k) (lows % 2 ^ k))

same : (k w m : ℕ) → unit_at k w ≡ unit_at k m → unit_at k (bit_xor w m) ≡ 0
same k w m e =
    ap (λ (n : ℕ). n % 65536) (xor_shr w m k) ∙ xor_mod (w / 2 ^ k) (m / 2 ^ k) 16
    ∙ ap (λ (n : ℕ). bit_xor n (unit_at k m)) e ∙ xor_self (unit_at k m)

-- what is known of each of the four places of a unit
record Place (k : ℕ) : Type 0 where
  bit : Bit tops (k + 15)
  low : (w : ℕ) → unit_at k w < 0x8000 → Bit w (k + 15) → ⊥
  clears : (x : ℕ) → x % 2 ^ k ≤ lows % 2 ^ k → unit_at k x ≡ 0 → Bit (x + lows) (k + 15) → ⊥
  slash : unit_at k slashes ≡ 0x2F
  backslash : unit_at k backslashes ≡ 0x5C

place0 : Place 0
place0 = record { bit = refl; low = λ w h b. omega arith; clears = λ x m h b. omega arith; slash = refl; backslash = refl }

place1 : Place 16
place1 = record { bit = refl; low = λ w h b. omega arith; clears = λ x m h b. omega arith; slash = refl; backslash = refl }

place2 : Place 32
place2 = record { bit = refl; low = λ w h b. omega arith; clears = λ x m h b. omega arith; slash = refl; backslash = refl }

place3 : Place 48
place3 = record { bit = refl; low = λ w h b. omega arith; clears = λ x m h b. omega arith; slash = refl; backslash = refl }

-- bit 15 of what `nonzero` returns is clear where the code unit is zero
cleared : (k : ℕ) → Place k → (z : ℕ) → unit_at k z ≡ 0 → Bit (bit_and z lows + lows) (k + 15) → ⊥
cleared k l z e = l.clears (bit_and z lows) (below k z) (masked k z e)

-- ---- the units of a word

-- the k lowest units are good
abbrev Lanes : ℕ → ℕ → Type 0
Lanes zero w = Unit {0}
Lanes (suc k) w = (good_unit (w % 65536) ≡ true) × Lanes k (w / 65536)

places : (w : ℕ) → (w % 65536 ≡ unit_at 0 w) × (w / 65536 % 65536 ≡ unit_at 16 w) × (w / 65536 / 65536 % 65536 ≡ unit_at 32 w) × (w / 65536 / 65536 / 65536 % 65536 ≡ unit_at 48 w)
places w = (omega arith, omega arith, omega arith, omega arith)

-- a, b and c are what `nonzero` returned
module _ (w a b c : ℕ) (p : a ≡ bit_and w lows + lows) (q : b ≡ bit_and (bit_xor w slashes) lows + lows) (r : c ≡ bit_and (bit_xor w backslashes) lows + lows)
    (s : Set (bit_or (bit_and (bit_and a b) c) w)) where
  unit : (k : ℕ) → Place k → good_unit (unit_at k w) ≡ true
  unit k l =
      let all : unit_at k w < 0x8000 → Bit (bit_and (bit_and a b) c) (k + 15) = λ h. bit-or _ w (k + 15) (s (k + 15) l.bit) (l.low w h) in
      let ab : unit_at k w < 0x8000 → Bit (bit_and a b) (k + 15) = λ h. (bit-and (bit_and a b) c (k + 15) (all h)).0 in
      good (unit_at k w)
      (λ e. cleared k l w e (rw p at (bit-and a b (k + 15) (ab (omega arith))).0))
      (λ e. cleared k l (bit_xor w slashes) (same k w slashes (e ∙ sym l.slash)) (rw q at (bit-and a b (k + 15) (ab (omega arith))).1))
      (λ e. cleared k l (bit_xor w backslashes) (same k w backslashes (e ∙ sym l.backslash)) (rw r at (bit-and (bit_and a b) c (k + 15) (all (omega arith))).1))

  lanes : Lanes 4 w
  lanes =
      let e = places w in
      (rw e.0 (unit 0 place0), (rw e.1 (unit 16 place1), (rw e.2 (unit 32 place2), (rw e.3 (unit 48 place3), tt))))

-- ---- the units of a run

abbrev twice : ℕ → ℕ
twice zero = zero
twice (suc k) = suc (suc (twice k))

pass : (k : ℕ) (s : List ℕ) → Bytes s → twice k ≤ length s → Lanes k (unle (take (twice k) s)) → good_units s ≡ good_units (drop (twice k) s)
unfolding unle good_units
pass zero s b h l = refl
pass (suc k) [] b h l = absurd (omega arith)
pass (suc k) (x ∷ []) b h l = absurd (omega arith)
pass (suc k) (x ∷ y ∷ s) b h l =
    let n = unle (take (twice k) s) in
    let p : x < 256 = b 0 in
    let q : y < 256 = b 1 in
    let u : (x + 256 * (y + 256 * n)) % 65536 ≡ x + 256 * y = omega arith in
    let v : (x + 256 * (y + 256 * n)) / 65536 ≡ n = omega arith in
    rw (rw u at l.0) (pass k s (λ i. b (suc (suc i))) (omega arith) (rw v at l.1))

-- a turn of the loop: if the bits are still set, the word at i passes, and the units behind it are left
pub turn : (s : List ℕ) (i w seen a b c : ℕ) → Bytes s → i + 8 ≤ length s → w ≡ number_at s i 8
    → a ≡ bit_and w lows + lows → b ≡ bit_and (bit_xor w slashes) lows + lows → c ≡ bit_and (bit_xor w backslashes) lows + lows
    → (Set seen → good_units (drop i s) ≡ good_units s) → Set (bit_and seen (bit_or (bit_and (bit_and a b) c) w))
    → good_units (drop (i + 8) s) ≡ good_units s
unfolding number_at
turn s i w seen a b c bytes h e p q r inv t =
    let x = set-and seen (bit_or (bit_and (bit_and a b) c) w) t in
    ap good_units (sym (drop-drop 8 i s))
    ∙ sym (pass 4 (drop i s) (bytes_drop i s bytes) (omega (arith, length-drop i s)) (rw e at (lanes w a b c p q r x.1)))
    ∙ inv x.0
