-- The rows of a table from a place on, and the numbers in them.
-- Assumes nothing.
use mathlib.Core.Path.{◌≡◌, refl, sym, ap, ◌∙◌}
use mathlib.Core.Bool.{not, Bool, true, false}
use mathlib.Core.List.{List, [], ◌∷◌}
use Prim.Native.Nat.{ℕ, suc, ◌+◌, ◌-◌, ◌*◌, ◌/◌, ◌^◌, ◌≤◌, ◌<◌}
use native.Mathlib.Omega.{arith}
use lib.Dec.{eqb, ltb}
use lib.ListN.{length, take, drop, length-drop}
use lib.Seq.{drop-drop}
use Rattle.le.specs.Numbers.{number_at}
use Rattle.le.specs.Bytes.{Bytes}
use Rattle.le.proofs.Places.{number_lt, number-split, le-number}
use Rattle.file_ids.specs.Ids.{wide, id_number, id_bytes}
use Rattle.file_ids.proofs.Ids.{wide-halves}
use Rattle.file_table.specs.Table.{row_in, first_rows, rows}
use Rattle.file_table.specs.Steps.{row_at, id_at}
use borrow.Author.Tests.{ltb-true, ltb-false, lt-ltb, le-ltb, eq-eqb, ne_eqb, eqb-true, eqb-false}

-- ---- the first row and the rest

rows_none : (s : List ℕ) → length s < 56 → rows s ≡ []
unfolding rows first_rows
rows_none s h = let e : length s / 56 ≡ 0 = omega arith in rw e

pub rows-some : (s : List ℕ) → 56 ≤ length s → rows s ≡ row_in s ∷ rows (drop 56 s)
unfolding rows first_rows
rows-some s h =
    let n : length (drop 56 s) ≡ length s - 56 = length-drop 56 s in
    let e : length s / 56 ≡ suc (length (drop 56 s) / 56) = omega (arith, n) in
    rw e

module _ (s : List ℕ) (at : ℕ) where
  pub rows_end : length s - at < 56 → rows (drop at s) ≡ []
  rows_end h = rows_none (drop at s) (omega (arith, length-drop at s))

  pub rows_next : at + 56 ≤ length s → rows (drop at s) ≡ row_at s at ∷ rows (drop (at + 56) s)
  rows_next h = rows-some (drop at s) (omega (arith, length-drop at s)) ∙ ap (λ (l : List ℕ). row_at s at ∷ rows l) (drop-drop 56 at s)

  -- ---- numbers

  pub number-drop : (k w : ℕ) → number_at (drop at s) k w ≡ number_at s (at + k) w
  unfolding number_at
  number-drop k w = rw (drop-drop k at s)

  pub id-number : number_at s at 16 ≡ id_at s at
  unfolding number_at
  id-number = refl

  pub parent-number : number_at s (at + 16) 16 ≡ id_number (row_at s at).parent
  unfolding number_at
  parent-number = sym (ap (λ (l : List ℕ). id_number (take 16 l)) (drop-drop 16 at s))

  pub halves : at + 56 ≤ length s → id_at s at ≡ number_at s at 8 + 2 ^ 64 * number_at s (at + 8) 8
  unfolding number_at
  halves h = number-split s at 8 8 (omega arith)

-- ---- an id of a row

module _ (s : List ℕ) (b : Bytes s) (at : ℕ) (h : at + 16 ≤ length s) where
  pub run-bytes : id_bytes (number_at s at 16) ≡ take 16 (drop at s)
  run-bytes = le-number s at 16 b h

  pub run-wide : (x : ℕ) → x ≡ number_at s (at + 8) 8 → wide (take 16 (drop at s)) ≡ not (eqb x 0)
  run-wide x e =
      let low : number_at s at 8 < 2 ^ 64 = omega (arith, number_lt s at 8 b) in
      let high : x < 2 ^ 64 = omega (arith, number_lt s (at + 8) 8 b, e) in
      ap wide (sym run-bytes) ∙ ap (λ (n : ℕ). wide (id_bytes n)) (number-split s at 8 8 (omega arith) ∙ ap (λ (n : ℕ). number_at s at 8 + 2 ^ 64 * n) (sym e))
      ∙ wide-halves (number_at s at 8) x low high

module _ (s : List ℕ) (b : Bytes s) (at : ℕ) (h : at + 56 ≤ length s) where
  pub id-wide : (x : ℕ) → x ≡ number_at s (at + 8) 8 → wide (row_at s at).id ≡ not (eqb x 0)
  id-wide x e = run-wide s b at (omega arith) x e

  pub parent-wide : (x : ℕ) → x ≡ number_at s (at + 16 + 8) 8 → wide (row_at s at).parent ≡ not (eqb x 0)
  parent-wide x e = ap (λ (l : List ℕ). wide (take 16 l)) (drop-drop 16 at s) ∙ run-wide s b (at + 16) (omega arith) x e

  -- an id that is not wide is its lower half
  pub id-low : (x : ℕ) → x ≡ number_at s (at + 8) 8 → x ≡ 0 → id_at s at ≡ number_at s at 8
  id-low x e z = omega (arith, halves s at h, e, z)

-- ---- two ids by their halves

lt_of_le_ne : {x y : ℕ} → x ≤ y → (x ≡ y → ⊥) → x < y
lt_of_le_ne {x} {y} h n = by (ltb x y) refl
  where
    by : (t : Bool) → ltb x y ≡ t → x < y
    by true t = ltb-true x y t
    by false t = let m : y ≤ x = ltb-false x y t in absurd (n (omega arith))

module _ (s : List ℕ) (b : Bytes s) (a c : ℕ) (h : a + 56 ≤ length s) (k : c + 56 ≤ length s) where
  abbrev la : ℕ
  la = number_at s a 8

  abbrev lc : ℕ
  lc = number_at s c 8

  abbrev ha : ℕ
  ha = number_at s (a + 8) 8

  abbrev hc : ℕ
  hc = number_at s (c + 8) 8

  low-a : la < 2 ^ 64
  low-a = omega (arith, number_lt s a 8 b)

  low-c : lc < 2 ^ 64
  low-c = omega (arith, number_lt s c 8 b)

  pub below-high : (x y : ℕ) → x ≡ ha → y ≡ hc → (x ≡ y → ⊥) → ltb x y ≡ ltb (id_at s a) (id_at s c)
  below-high x y e d n = by (ltb x y) refl
    where
      by : (t : Bool) → ltb x y ≡ t → t ≡ ltb (id_at s a) (id_at s c)
      by true t = sym (lt-ltb (id_at s a) (id_at s c) (omega (arith, halves s a h, halves s c k, low-a, low-c, e, d, ltb-true x y t)))
      by false t =
          let m : y < x = lt_of_le_ne (ltb-false x y t) (λ z. n (sym z)) in
          sym (le-ltb (id_at s a) (id_at s c) (omega (arith, halves s a h, halves s c k, low-a, low-c, e, d, m)))

  pub below-low : (x y u w : ℕ) → x ≡ ha → y ≡ hc → x ≡ y → u ≡ la → w ≡ lc → ltb u w ≡ ltb (id_at s a) (id_at s c)
  below-low x y u w e d n i j = by (ltb u w) refl
    where
      by : (t : Bool) → ltb u w ≡ t → t ≡ ltb (id_at s a) (id_at s c)
      by true t = sym (lt-ltb (id_at s a) (id_at s c) (omega (arith, halves s a h, halves s c k, i, j, e, d, n, ltb-true u w t)))
      by false t = sym (le-ltb (id_at s a) (id_at s c) (omega (arith, halves s a h, halves s c k, i, j, e, d, n, ltb-false u w t)))

  pub other-low : (x y : ℕ) → x ≡ la → y ≡ lc → (x ≡ y → ⊥) → false ≡ eqb (id_at s c) (id_at s a)
  other-low x y e d n = sym (ne_eqb (id_at s c) (id_at s a) (λ m. n (omega (arith, halves s a h, halves s c k, low-a, low-c, e, d, m))))

  pub same_low : (x y u w : ℕ) → x ≡ la → y ≡ lc → x ≡ y → u ≡ ha → w ≡ hc → eqb u w ≡ eqb (id_at s c) (id_at s a)
  same_low x y u w e d n i j = by (eqb u w) refl
    where
      by : (t : Bool) → eqb u w ≡ t → t ≡ eqb (id_at s c) (id_at s a)
      by true t = sym (eq-eqb (id_at s c) (id_at s a) (omega (arith, halves s a h, halves s c k, i, j, e, d, n, eqb-true u w t)))
      by false t =
          sym (ne_eqb (id_at s c) (id_at s a) (λ m. eqb-false u w t (omega (arith, halves s a h, halves s c k, low-a, low-c, i, j, e, d, n, m))))
