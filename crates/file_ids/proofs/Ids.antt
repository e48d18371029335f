-- Laws of ids.
-- Assumes nothing.
use mathlib.Core.Path.{◌≡◌, refl, sym, ap, ap₂, ◌∙◌}
use mathlib.Core.Bool.{Bool, true, false, not}
use mathlib.Core.List.{List, [], ◌∷◌, ◌++◌, append-nil}
use Prim.Native.Nat.{ℕ, zero, suc, ◌+◌, ◌-◌, ◌*◌, ◌^◌, ◌≤◌, ◌<◌}
use native.Mathlib.Nat.{mul_comm}
use native.Mathlib.Omega.{arith}
use native.Mathlib.Numerals.{unary_clauses}
use lib.Dec.{eqb, lit<}
use lib.ListN.{length, take, drop, replicate, length-append, length-drop, take-append-drop}
use lib.Seq.{take_all, take_at, drop_at}
use borrow.Author.Tests.{eq-eqb, ne_eqb}
use Rattle.std.specs.Prelude.{slice_index}
use Rattle.std.specs.Int.{w128, byte_worth, sum_through, from_le_bytes}
use Rattle.le.specs.Numbers.{le, unle, number_at, encode}
use Rattle.le.specs.Bytes.{Bytes, all_zero}
use Rattle.le.proofs.Numbers.{bytes-append, bytes_le, unle-lt, unle-le, le_low, le-unle, length-le}
use Rattle.le.proofs.Places.{number-split, number-one, number-whole, number_lt, le-number}
use Rattle.le.proofs.Runs.{zeroes-are, are-zeroes}
use Rattle.file_ids.specs.Ids.{Id, wide, id_number, id_bytes}
use Rattle.file_ids.proofs.Longer.{le-longer, zero-bytes}

true-false : {A : Type 0} → false ≡ true → A
true-false e = let z : ◌≡◌ {A = ℕ} 0 1 = cc in absurd (omega arith)

-- ---- an id and its number

-- the number of an id fits sixteen bytes, and both ways round nothing is lost
pub id-lt : (id : List ℕ) → Id id → id_number id < 256 ^ 16
id-lt id d = rw d.size at (unle-lt id d.bytes)

pub id-back : (id : List ℕ) → Id id → id_bytes (id_number id) ≡ id
id-back id d = rw d.size at (le-unle id d.bytes)

pub number-back : (n : ℕ) → n < 256 ^ 16 → id_number (id_bytes n) ≡ n
number-back n h = unle-le 16 n h

-- what is made of a number is an id
pub id-bytes : (n : ℕ) → Id (id_bytes n)
id-bytes n = record { size = length-le 16 n; bytes = bytes_le 16 n }

-- ---- the halves of an id

-- its number is that of its two halves
pub id-halves : (id : List ℕ) → Id id → id_number id ≡ number_at id 0 8 + 2 ^ 64 * number_at id 8 8
unfolding number_at
id-halves id d =
    let all : number_at id 0 16 ≡ unle id = ap unle (take_all 16 id (omega (arith, d.size))) in
    sym all ∙ number-split id 0 8 8 (omega (arith, d.size))

-- its upper half has its last eight bytes
upper : (id : List ℕ) → Id id → le 8 (number_at id 8 8) ≡ drop 8 id
upper id d =
    let n : length id ≡ 16 = d.size in
    le-number id 8 8 d.bytes (omega arith) ∙ take_all 8 (drop 8 id) (omega (arith, length-drop 8 id))

-- and its bytes are those of both: what a writer of words needs
pub id-words : (id : List ℕ) → Id id → le 16 (id_number id) ≡ le 8 (number_at id 0 8) ++ le 8 (number_at id 8 8)
id-words id d =
    let n : length id ≡ 16 = d.size in
    let a : le 8 (number_at id 0 8) ≡ take 8 id = le-number id 0 8 d.bytes (omega arith) in
    id-back id d ∙ rw (a, upper id d) (sym (take-append-drop 8 id))

-- the other way round: the id of two halves
module _ (low high : ℕ) where
  abbrev joint : List ℕ
  joint = le 8 low ++ le 8 high

  joint-id : Id joint
  joint-id =
      record {
        size = length-append (le 8 low) (le 8 high) ∙ omega (arith, length-le 8 low, length-le 8 high);
        bytes = bytes-append (le 8 low) (le 8 high) (bytes_le 8 low) (bytes_le 8 high);
      }

  joint-low : low < 2 ^ 64 → number_at joint 0 8 ≡ low
  unfolding number_at
  joint-low h = ap unle (take_at (le 8 low) (le 8 high) 8 (length-le 8 low)) ∙ unle-le 8 low h

  joint-high : high < 2 ^ 64 → number_at joint 8 8 ≡ high
  unfolding number_at
  joint-high h =
      ap (λ (t : List ℕ). unle (take 8 t)) (drop_at (le 8 low) (le 8 high) 8 (length-le 8 low))
      ∙ ap unle (take_all 8 (le 8 high) (omega (arith, length-le 8 high))) ∙ unle-le 8 high h

  two-halves : low < 2 ^ 64 → high < 2 ^ 64 → joint ≡ id_bytes (low + 2 ^ 64 * high)
  two-halves a b =
      sym (id-back joint joint-id)
      ∙ ap id_bytes (id-halves joint joint-id ∙ ap (λ (x : ℕ). x + 2 ^ 64 * number_at joint 8 8) (joint-low a) ∙ ap (λ (x : ℕ). low + 2 ^ 64 * x) (joint-high b))

-- ---- wide ids

module _ (id : List ℕ) (d : Id id) where
  -- the upper eight bytes are all zero if they are so as one number
  zero-upper : number_at id 8 8 ≡ 0 → all_zero (drop 8 id) ≡ true
  zero-upper e = ap all_zero (sym (upper id d) ∙ zero-bytes 8 (number_at id 8 8) e) ∙ zeroes-are 8

  -- and only then
  upper-zero : all_zero (drop 8 id) ≡ true → number_at id 8 8 ≡ 0
  upper-zero e =
      let n : length (drop 8 id) ≡ 8 = length-drop 8 id ∙ omega (arith, d.size) in
      let z : le 8 (number_at id 8 8) ≡ le 8 0 =
      upper id d ∙ are-zeroes (drop 8 id) e ∙ ap (λ (k : ℕ). replicate k 0) n ∙ sym (zero-bytes 8 0 refl) in
      sym (unle-le 8 (number_at id 8 8) (number_lt id 8 8 d.bytes)) ∙ ap unle z ∙ unle-le 8 0 (lit< tt)

  -- what the test of the upper half answers
  pub wide-upper : (r : ℕ) → r ≡ number_at id 8 8 → not (eqb r 0) ≡ wide id
  wide-upper r e = by (all_zero (drop 8 id)) refl
    where
      by : (t : Bool) → all_zero (drop 8 id) ≡ t → not (eqb r 0) ≡ not t
      by true z = ap (λ (t : Bool). not t) (eq-eqb r 0 (e ∙ upper-zero z))
      by false z = ap (λ (t : Bool). not t) (ne_eqb r 0 (λ k. let f : false ≡ true = sym z ∙ zero-upper (sym e ∙ k) in true-false f))

  -- an id that is not wide is its lower half
  pub narrow-lt : wide id ≡ false → id_number id < 2 ^ 64
  narrow-lt h = by (all_zero (drop 8 id)) refl h
    where
      by : (t : Bool) → all_zero (drop 8 id) ≡ t → not t ≡ false → id_number id < 2 ^ 64
      by true z h = omega (arith, id-halves id d, upper-zero z, number_lt id 0 8 d.bytes)
      by false z h = true-false (sym h)

-- an id of two halves is wide by its upper one
pub wide-halves : (low high : ℕ) → low < 2 ^ 64 → high < 2 ^ 64 → wide (id_bytes (low + 2 ^ 64 * high)) ≡ not (eqb high 0)
wide-halves low high a b =
    ap wide (sym (two-halves low high a b)) ∙ sym (wide-upper (joint low high) (joint-id low high) high (sym (joint-high low high b)))

-- an id of eight bytes is not wide
pub narrow-bytes : (n : ℕ) → n < 2 ^ 64 → wide (id_bytes n) ≡ false
narrow-bytes n h =
    let e : drop 8 (le 16 n) ≡ replicate 8 0 = ap (drop 8) (le-longer 8 8 n h) ∙ drop_at (le 8 n) (replicate 8 0) 8 (length-le 8 n) in
    ap (λ (l : List ℕ). not (all_zero l)) e ∙ ap (λ (t : Bool). not t) (zeroes-are 8)

-- ---- an id read as one number

-- its bytes up to the one at n
sum-number : (s : List ℕ) (n : ℕ) → n < length s → sum_through (λ i. byte_worth i (slice_index s i)) n ≡ number_at s 0 (suc n)
sum-number s zero h = number-one s 0 h
sum-number s (suc n) h =
    let e : suc n + 1 ≡ suc (suc n) = omega arith in
    let z : 0 + suc n ≡ suc n = omega arith in
    ap₂ (λ (a b : ℕ). a + b) (sum-number s n (omega arith)) (mul_comm _ _ ∙ ap (λ (b : ℕ). 256 ^ suc n * b) (number-one s (suc n) h ∙ ap (λ (i : ℕ). number_at s i 1) (sym z)))
    ∙ sym (number-split s 0 (suc n) 1 (omega arith)) ∙ ap (number_at s 0) e

pub id-read : (id : List ℕ) → Id id → (n : ℕ) → n ≡ from_le_bytes w128 id → n ≡ id_number id
id-read id d n e =
    let h : length id ≡ 16 = d.size in
    e ∙ sum-number id 15 (omega arith) ∙ number-whole id 16 h

-- ---- what the code makes

drop-zeroes : (k n : ℕ) → drop {A = ℕ} k (replicate n 0) ≡ replicate (n - k) 0
drop-zeroes zero n = simp unary_clauses
drop-zeroes (suc k) zero = let e : 0 - suc k ≡ 0 = omega arith in rw e
drop-zeroes (suc k) (suc n) = simp unary_clauses (drop-zeroes k n)

-- bytes at the start of sixteen zeroes are the id of their number
pub id-made : (s l : List ℕ) → Bytes s → length s ≤ 16 → l ≡ s ++ drop (length s) (replicate 16 0) → l ≡ id_bytes (unle s)
id-made s l b h e =
    let n : ℕ = length s in
    let k : n + (16 - n) ≡ 16 = omega arith in
    e ∙ ap (λ (t : List ℕ). s ++ t) (drop-zeroes n 16) ∙ ap (λ (t : List ℕ). t ++ replicate (16 - n) 0) (sym (le-unle s b))
    ∙ sym (le-longer n (16 - n) (unle s) (unle-lt s b)) ∙ ap (λ (m : ℕ). le m (unle s)) k

-- an id that is made of a part of a slice
pub id-number : (s r : List ℕ) (at end w : ℕ) → end ≡ at + w → r ≡ id_bytes (unle (take (end - at) (drop at s))) → r ≡ id_bytes (number_at s at w)
unfolding number_at
id-number s r at end w h e =
    let k : end - at ≡ w = omega arith in
    rw k at e

-- a number of eight bytes, in front of eight zeroes
pub id-of : (n : ℕ) (l : List ℕ) → n < 2 ^ 64 → l ≡ le 8 n ++ drop 8 (replicate 16 0) → l ≡ id_bytes n
id-of n l h e = e ∙ sym (le-longer 8 8 n h)

-- two of them, one behind the other
pub id-of-halves : (low high : ℕ) (l : List ℕ) → low < 2 ^ 64 → high < 2 ^ 64
    → l ≡ encode (8 ∷ 8 ∷ []) (low ∷ high ∷ []) ++ drop 16 (replicate 16 0) → l ≡ id_bytes (low + 2 ^ 64 * high)
unfolding encode
id-of-halves low high l a b e = e ∙ append-nil _ ∙ ap (λ (t : List ℕ). le 8 low ++ t) (append-nil (le 8 high)) ∙ two-halves low high a b

-- ---- what a writer of an id leaves

-- its first bytes, copied
pub id-put : (w : ℕ) (id o l : List ℕ) → Id id → w ≤ 16 → l ≡ take w id ++ drop (length (take w id)) o → l ≡ le w (id_number id) ++ drop w o
id-put w id o l d h e =
    let q : le w (unle id) ≡ take w id = le_low w id d.bytes (omega (arith, d.size)) in
    let n : length (take w id) ≡ w = sym (ap length q) ∙ length-le w (unle id) in
    e ∙ ap (λ (m : ℕ). take w id ++ drop m o) n ∙ ap (λ (t : List ℕ). t ++ drop w o) (sym q)

-- all of them
pub id-put-all : (id o l : List ℕ) → Id id → l ≡ id ++ drop (length id) o → l ≡ le 16 (id_number id) ++ drop 16 o
id-put-all id o l d e =
    let t : take 16 id ≡ id = take_all 16 id (omega (arith, d.size)) in
    id-put 16 id o l d (omega arith) (rw t e)
