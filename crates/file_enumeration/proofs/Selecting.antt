-- Whether a row is selected, by the numbers in it.
-- Assumes nothing.
use mathlib.Core.Path.{◌≡◌, refl, sym, ap, ◌∙◌}
use mathlib.Core.Bool.{Bool, true, false, not, ◌&&◌}
use mathlib.Core.List.{List, [], ◌∷◌}
use Prim.Native.Nat.{ℕ, suc, ◌+◌, ◌^◌, ◌≤◌, ◌<◌}
use native.Mathlib.Omega.{arith}
use lib.Dec.{leb, eqb}
use lib.ListN.{length, take, drop, length-drop}
use lib.Seq.{take-add, drop-drop, drop_at, length-take-le}
use borrow.Author.Tests.{not-true, not-false, le-leb, lt-leb, eq-eqb, ne_eqb, eqb-true}
use Rattle.le.specs.Numbers.{unle, number_at}
use Rattle.le.specs.Bytes.{Bytes, all_zero}
use Rattle.le.proofs.Runs.{and_left, and_right}
use Rattle.file_ids.specs.Ids.{wide, id_number}
use Rattle.file_ids.proofs.Ids.{narrow-lt}
use Rattle.file_table.specs.Table.{Row}
use Rattle.file_table.specs.Steps.{row_at, id_at}
use Rattle.file_table.proofs.Rows.{number-drop, halves, id-wide, parent-wide, id-low}
use Rattle.file_table.proofs.Places.{Right}
use Rattle.file_enumeration.specs.declared.Query.{Query}
use Rattle.file_enumeration.specs.Enumerate.{from_low, to_high, selects}

-- what it comes to, by what each test does
module _ (q : Query) (r : Row) where
  pub told : (w p t l : Bool) → wide r.id ≡ w → wide r.parent ≡ p → leb q.start (id_number r.id) ≡ t → from_low q.low r.usn ≡ l
      → selects q r ≡ (not w && not p) && (t && (l && to_high q.high r.usn))
  unfolding selects
  told w p t l a b c d =
      ap (λ (x : Bool). (not x && not (wide r.parent)) && (leb q.start (id_number r.id) && (from_low q.low r.usn && to_high q.high r.usn))) a
      ∙ ap (λ (x : Bool). (not w && not x) && (leb q.start (id_number r.id) && (from_low q.low r.usn && to_high q.high r.usn))) b
      ∙ ap (λ (x : Bool). (not w && not p) && (x && (from_low q.low r.usn && to_high q.high r.usn))) c
      ∙ ap (λ (x : Bool). (not w && not p) && (t && (x && to_high q.high r.usn))) d

module _ (s : List ℕ) (b : Bytes s) (at : ℕ) (h : at + 56 ≤ length s) (q : Query) where
  abbrev r : Row
  r = row_at s at

  module _ (x : ℕ) (e : x ≡ number_at s (at + 8) 8) where
    wide_by : (t : Bool) → eqb x 0 ≡ t → wide r.id ≡ not t
    wide_by t d = id-wide s b at h x e ∙ ap (λ (k : Bool). not k) d

    -- the id is wide
    pub wide-out : (x ≡ 0 → ⊥) → false ≡ selects q r
    wide-out n = sym (told q r true (wide r.parent) (leb q.start (id_at s at)) (from_low q.low r.usn) (wide_by false (ne_eqb x 0 n)) refl refl refl)

    module _ (z : x ≡ 0) (y : ℕ) (d : y ≡ number_at s (at + 16 + 8) 8) where
      -- the parent is
      pub parent-out : (y ≡ 0 → ⊥) → false ≡ selects q r
      parent-out n =
          sym (told q r false true (leb q.start (id_at s at)) (from_low q.low r.usn) (wide_by true (eq-eqb x 0 z)) (parent-wide s b at h y d ∙ ap (λ (k : Bool). not k) (ne_eqb y 0 n)) refl refl)

      module _ (n : y ≡ 0) (i : ℕ) (k : i ≡ number_at s at 8) where
        narrow : (t l : Bool) → leb q.start (id_at s at) ≡ t → from_low q.low r.usn ≡ l → selects q r ≡ t && (l && to_high q.high r.usn)
        narrow t l c f =
            told q r false false t l (wide_by true (eq-eqb x 0 z)) (parent-wide s b at h y d ∙ ap (λ (k : Bool). not k) (eq-eqb y 0 n)) c f

        same_id : id_at s at ≡ i
        same_id = id-low s b at h x e z ∙ sym k

        -- the id is below the start
        pub start-out : i < q.start → false ≡ selects q r
        start-out l = sym (narrow false (from_low q.low r.usn) (lt-leb q.start (id_at s at) (omega (arith, same_id, l))) refl)

        module _ (l : q.start ≤ i) (u : ℕ) (m : u ≡ number_at s (at + 32) 8) where
          same-usn : u ≡ r.usn
          same-usn = m ∙ sym (number-drop s at 32 8)

          from_start : (t : Bool) → from_low q.low r.usn ≡ t → selects q r ≡ t && to_high q.high r.usn
          from_start t f = narrow true t (le-leb q.start (id_at s at) (omega (arith, same_id, l))) f

          -- the Usn is below Low, or by High
          module _ (v : Bool) (f : v ≡ from_low q.low u) where
            low-is : from_low q.low r.usn ≡ v
            low-is = ap (from_low q.low) (sym same-usn) ∙ sym f

            pub low-out : v ≡ false → false ≡ selects q r
            low-out t = sym (from_start false (low-is ∙ t))

            pub by_high : v ≡ true → (g : Bool) → g ≡ to_high q.high u → g ≡ selects q r
            by_high t g o = o ∙ ap (to_high q.high) same-usn ∙ sym (from_start true (low-is ∙ t))

-- ---- what a selected row tells

-- neither id of a selected row is wide
pub selects-narrow : (q : Query) (r : Row) → selects q r ≡ true → not (wide r.id) && not (wide r.parent) ≡ true
unfolding selects
selects-narrow q r e =
    and_left (not (wide r.id) && not (wide r.parent)) (leb q.start (id_number r.id) && (from_low q.low r.usn && to_high q.high r.usn)) e

-- so the successor of its id fits 64 bits
pub next_fits : (pool : List ℕ) (q : Query) (r : Row) → Right pool r → selects q r ≡ true → suc (id_number r.id) < 2 ^ 64
next_fits pool q r k e =
    let n = selects-narrow q r e in
    let l = narrow-lt r.id k.id (not-true (wide r.id) (and_left (not (wide r.id)) (not (wide r.parent)) n)) in
    let o = k.other in
    omega (arith, l, o)

-- a run of zeroes is the number 0
zero-number : (l : List ℕ) → all_zero l ≡ true → unle l ≡ 0
unfolding all_zero unle
zero-number [] e = refl
zero-number (b ∷ l) e =
    let z : b ≡ 0 = eqb-true b 0 (and_left (eqb b 0) (all_zero l) e) in
    let r : unle l ≡ 0 = zero-number l (and_right (eqb b 0) (all_zero l) e) in
    omega (arith, z, r)

-- the upper half of an id that is not wide
upper-zero : (s : List ℕ) (at : ℕ) → at + 56 ≤ length s → wide (row_at s at).id ≡ false → number_at s (at + 8) 8 ≡ 0
unfolding number_at
upper-zero s at h e =
    let x : List ℕ = drop at s in
    let n : length (take 8 x) ≡ 8 = length-take-le 8 x (omega (arith, length-drop at s)) in
    let u : drop 8 (take 16 x) ≡ take 8 (drop 8 x) = ap (drop 8) (take-add 8 8 x) ∙ drop_at (take 8 x) (take 8 (drop 8 x)) 8 n in
    ap (λ (l : List ℕ). unle (take 8 l)) (sym (drop-drop 8 at s)) ∙ ap unle (sym u)
    ∙ zero-number (drop 8 (take 16 x)) (not-false (all_zero (drop 8 (take 16 x))) e)

-- its id is the lower half
pub selected-low : (s : List ℕ) (at : ℕ) → at + 56 ≤ length s → (q : Query) → selects q (row_at s at) ≡ true → id_at s at ≡ number_at s at 8
selected-low s at h q e =
    let n = and_left (not (wide (row_at s at).id)) (not (wide (row_at s at).parent)) (selects-narrow q (row_at s at) e) in
    omega (arith, halves s at h, upper-zero s at h (not-true (wide (row_at s at).id) n))
