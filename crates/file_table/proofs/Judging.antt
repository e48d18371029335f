-- The judgement of a table: of one row, and of all rows from a place on.
-- Assumes nothing.
use mathlib.Core.Path.{◌≡◌, refl, sym, ap, ◌∙◌}
use mathlib.Core.Bool.{Bool, true, false, not, cond, ◌&&◌, ◌||◌}
use mathlib.Core.List.{List, ◌∷◌}
use Rattle.std.specs.Prelude.{None, Some}
use Prim.Native.Nat.{ℕ, ◌+◌, ◌-◌, ◌%◌, ◌^◌, ◌≤◌, ◌<◌}
use native.Mathlib.Omega.{arith}
use lib.Dec.{ltb, eqb}
use lib.ListN.{length, drop}
use borrow.Author.Tests.{lt-ltb, le-ltb, ltb-true, ltb-false, eq-eqb, ne_eqb, eqb-true, eqb-false}
use Rattle.le.specs.Numbers.{number_at}
use Rattle.file_ids.specs.Ids.{id_number}
use Rattle.names.specs.Names.{good_in}
use Rattle.file_table.specs.declared.Order.{Order}
use Rattle.file_table.specs.declared.Order.TheVariants.{Rising, Mixed}
use Rattle.file_table.specs.Table.{Row, rows, good_row, good_rows, has_id, distinct, right_table, above, rising, order_of}
use Rattle.file_table.specs.Steps.{row_at, id_at}
use Rattle.file_table.proofs.Rows.{rows_end, rows_next, number-drop, halves}
use Rattle.le.specs.Bytes.{Bytes}
use Rattle.le.proofs.Places.{number_lt}
use Rattle.file_table.proofs.Rising.{rising-distinct}

-- ---- one row

middle-false : (a c : Bool) → a && (false && c) ≡ false
middle-false true c = refl
middle-false false c = refl

last-false : (a b : Bool) → a && (b && false) ≡ false
last-false true true = refl
last-false true false = refl
last-false false b = refl

both_true : (a : Bool) → a && (true && true) ≡ a
both_true true = refl
both_true false = refl

module _ (s : List ℕ) (at : ℕ) where
  -- the id 2^64-1 by its halves
  module _ (b : Bytes s) (h : at + 56 ≤ length s) where
    pub not_last : (x : ℕ) → x ≡ number_at s at 8 → (x ≡ 2 ^ 64 - 1 → ⊥) → false ≡ eqb (id_at s at) (2 ^ 64 - 1)
    not_last x e n = sym (ne_eqb (id_at s at) (2 ^ 64 - 1) (λ m. n (omega (arith, halves s at h, number_lt s at 8 b, e, m))))

    pub last-by-upper : (x y : ℕ) → x ≡ number_at s at 8 → y ≡ number_at s (at + 8) 8 → x ≡ 2 ^ 64 - 1 → eqb y 0 ≡ eqb (id_at s at) (2 ^ 64 - 1)
    last-by-upper x y e d n = by (eqb y 0) refl
      where
        by : (t : Bool) → eqb y 0 ≡ t → t ≡ eqb (id_at s at) (2 ^ 64 - 1)
        by true t = sym (eq-eqb (id_at s at) (2 ^ 64 - 1) (omega (arith, halves s at h, e, d, n, eqb-true y 0 t)))
        by false t = sym (ne_eqb (id_at s at) (2 ^ 64 - 1) (λ m. eqb-false y 0 t (omega (arith, halves s at h, e, d, n, m))))

  module _ (pool : List ℕ) (x : ℕ) (e : x ≡ number_at s (at + 32) 8) where
    abbrev r : Row
    r = row_at s at

    abbrev named : Bool
    named = good_in pool r.place r.length

    usn-is : x ≡ r.usn
    usn-is = e ∙ sym (number-drop s at 32 8)

    pub negative-bad : 2 ^ 63 ≤ x → false ≡ good_row pool r
    unfolding good_row
    negative-bad h =
        let last = not (eqb (id_number r.id) (2 ^ 64 - 1)) in
        let u : ltb r.usn (2 ^ 63) ≡ false = le-ltb r.usn (2 ^ 63) (omega (arith, usn-is)) in
        sym (ap (λ (t : Bool). named && (t && last)) u ∙ middle-false named last)

    module _ (h : x < 2 ^ 63) (l : Bool) (d : l ≡ eqb (id_at s at) (2 ^ 64 - 1)) where
      pub last-bad : l ≡ true → false ≡ good_row pool r
      unfolding good_row
      last-bad t =
          let u : not (eqb (id_at s at) (2 ^ 64 - 1)) ≡ false = ap (λ (k : Bool). not k) (sym d ∙ t) in
          sym (ap (λ (k : Bool). named && (ltb r.usn (2 ^ 63) && k)) u ∙ last-false named (ltb r.usn (2 ^ 63)))

      pub by_name : l ≡ false → (place n : ℕ) → place ≡ number_at s (at + 48) 8 → n ≡ number_at s (at + 44) 4 → (g : Bool) → g ≡ good_in pool place n → g ≡ good_row pool r
      unfolding good_row
      by_name t place n p q g k =
          let v : ltb r.usn (2 ^ 63) ≡ true = lt-ltb r.usn (2 ^ 63) (omega (arith, usn-is)) in
          let u : not (eqb (id_at s at) (2 ^ 64 - 1)) ≡ true = ap (λ (k : Bool). not k) (sym d ∙ t) in
          let a : place ≡ r.place = p ∙ sym (number-drop s at 48 8) in
          let b : n ≡ r.length = q ∙ sym (number-drop s at 44 4) in
          k ∙ ap (λ (z : ℕ). good_in pool z n) a ∙ ap (λ (z : ℕ). good_in pool r.place z) b
          ∙ sym (ap (λ (k : Bool). named && (ltb r.usn (2 ^ 63) && k)) u ∙ ap (λ (k : Bool). named && (k && true)) v ∙ both_true named)

-- ---- all rows from a place on

module _ (s : List ℕ) (at : ℕ) where
  pub good-end : (pool : List ℕ) → length s - at < 56 → good_rows pool (rows (drop at s)) ≡ true
  unfolding good_rows
  good-end pool h = rw (rows_end s at h)

  pub good-next : (pool : List ℕ) → at + 56 ≤ length s → good_rows pool (rows (drop at s)) ≡ good_row pool (row_at s at) && good_rows pool (rows (drop (at + 56) s))
  unfolding good_rows
  good-next pool h = ap (good_rows pool) (rows_next s at h)

  pub has_end : (n : ℕ) → length s - at < 56 → has_id n (rows (drop at s)) ≡ false
  unfolding has_id
  has_end n h = rw (rows_end s at h)

  pub has-next : (n : ℕ) → at + 56 ≤ length s → has_id n (rows (drop at s)) ≡ eqb (id_at s at) n || has_id n (rows (drop (at + 56) s))
  unfolding has_id
  has-next n h = ap (has_id n) (rows_next s at h)

  pub distinct-end : length s - at < 56 → distinct (rows (drop at s)) ≡ true
  unfolding distinct
  distinct-end h = rw (rows_end s at h)

  pub distinct-next : at + 56 ≤ length s → distinct (rows (drop at s)) ≡ not (has_id (id_at s at) (rows (drop (at + 56) s))) && distinct (rows (drop (at + 56) s))
  unfolding distinct
  distinct-next h = ap distinct (rows_next s at h)

  -- a table with one row or none
  pub rising-end : length s - at < 112 → rising (rows (drop at s)) ≡ true
  unfolding rising
  rising-end h = by (ltb (length s - at) 56) refl
    where
      by : (t : Bool) → ltb (length s - at) 56 ≡ t → rising (rows (drop at s)) ≡ true
      by true t = ap rising (rows_end s at (ltb-true _ _ t))
      by false t =
          let n : 56 ≤ length s - at = ltb-false (length s - at) 56 t in
          ap rising (rows_next s at (omega arith) ∙ ap (λ (l : List Row). row_at s at ∷ l) (rows_end s (at + 56) (omega arith)))

  pub rising-next : at + 112 ≤ length s → rising (rows (drop at s)) ≡ ltb (id_at s at) (id_at s (at + 56)) && rising (rows (drop (at + 56) s))
  unfolding rising
  rising-next h = ap rising (rows_next s at (omega arith)) ∙ ap (λ (l : List Row). above (id_at s at) l && rising (rows (drop (at + 56) s))) (rows_next s (at + 56) (omega arith))

-- ---- the whole table

module _ (pool s : List ℕ) where
  pub uneven : (length s % 56 ≡ 0 → ⊥) → right_table pool s ≡ false
  unfolding right_table
  uneven n = rw (ne_eqb (length s % 56) 0 n)

  module _ (e : length s % 56 ≡ 0) where
    pub row-bad : good_rows pool (rows s) ≡ false → right_table pool s ≡ false
    unfolding right_table
    row-bad g = rw (eq-eqb (length s % 56) 0 e, g)

    module _ (g : good_rows pool (rows s) ≡ true) where
      pub right : distinct (rows s) ≡ true → right_table pool s ≡ true
      unfolding right_table
      right d = rw (eq-eqb (length s % 56) 0 e, g, d)

      pub duplicate-bad : distinct (rows s) ≡ false → right_table pool s ≡ false
      unfolding right_table
      duplicate-bad d = rw (eq-eqb (length s % 56) 0 e, g, d)

  -- what the order is
  pub none-of : right_table pool s ≡ false → None ≡ order_of pool s
  none-of g = rw g

  -- what it tells
  pub told-bad : None ≡ order_of pool s → right_table pool s ≡ false
  told-bad e = by (right_table pool s) refl e
    where
      by : (g : Bool) → right_table pool s ≡ g → None ≡ cond g (Some (cond (rising (rows s)) Rising Mixed)) None → right_table pool s ≡ false
      by false t e = t
      by true t e = let z : ◌≡◌ {A = ℕ} 0 1 = cc in absurd (omega arith)

  pub told-right : (o : Order) → Some o ≡ order_of pool s → right_table pool s ≡ true
  told-right o e = by (right_table pool s) refl e
    where
      by : (g : Bool) → right_table pool s ≡ g → Some o ≡ cond g (Some (cond (rising (rows s)) Rising Mixed)) None → right_table pool s ≡ true
      by true t e = t
      by false t e = let z : ◌≡◌ {A = ℕ} 0 1 = cc in absurd (omega arith)

  -- a right table by its rows' order
  module _ (e : length s % 56 ≡ 0) (g : good_rows pool (rows s) ≡ true) where
    pub in_order : rising (rows s) ≡ true → Some Rising ≡ order_of pool s
    unfolding right_table
    in_order r = rw (eq-eqb (length s % 56) 0 e, g, rising-distinct (rows s) r, r)

    pub mixed : rising (rows s) ≡ false → distinct (rows s) ≡ true → Some Mixed ≡ order_of pool s
    unfolding right_table
    mixed r d = rw (eq-eqb (length s % 56) 0 e, g, d, r)

  pub told-rising : Some Rising ≡ order_of pool s → (right_table pool s ≡ true) × (rising (rows s) ≡ true)
  told-rising e = by (right_table pool s) (rising (rows s)) refl refl e
    where
      by : (g r : Bool) → right_table pool s ≡ g → rising (rows s) ≡ r → Some Rising ≡ cond g (Some (cond r Rising Mixed)) None
          → (right_table pool s ≡ true) × (rising (rows s) ≡ true)
      by true true t u e = (t, u)
      by true false t u e = let o : Rising ≡ Mixed = cc in
          let z : ◌≡◌ {A = ℕ} 0 1 = cc in absurd (omega arith)
      by false r t u e = let z : ◌≡◌ {A = ℕ} 0 1 = cc in absurd (omega arith)

  pub told-mixed : Some Mixed ≡ order_of pool s → right_table pool s ≡ true
  told-mixed e = told-right Mixed e
