-- The rows of a table that is right, and the row at a place among them.
-- Assumes nothing.
use mathlib.Core.Path.{◌≡◌, refl, sym, ap, ◌∙◌, subst}
use mathlib.Core.Logic.{◌⊎◌, inl, inr}
use mathlib.Core.Bool.{Bool, true, not, ◌&&◌}
use mathlib.Core.List.Memᴰ
use mathlib.Core.List.{List, [], ◌∷◌, ◌++◌, Memᴰ}
use Prim.Native.Nat.{ℕ, zero, suc, ◌+◌, ◌-◌, ◌*◌, ◌/◌, ◌%◌, ◌^◌, ◌≤◌, ◌<◌}
use native.Mathlib.Omega.{arith}
use lib.Dec.{ltb, eqb}
use lib.ListN.{length, drop, length-drop}
use lib.Seq.{drop-drop, length-take-le}
use borrow.Author.Tests.{ltb-true, eqb-true, eqb-false, not-true}
use Rattle.le.specs.Bytes.{Bytes}
use Rattle.le.proofs.Numbers.{bytes_drop, bytes_take}
use Rattle.le.proofs.Places.{number_lt}
use Rattle.le.proofs.Runs.{and_left, and_right}
use Rattle.names.specs.Names.{good_name, good_in}
use Rattle.names.proofs.Names.{in-named}
use Rattle.file_ids.specs.Ids.{Id, id_number}
use Rattle.file_table.specs.Table.{Row, row_in, first_rows, rows, row_name, good_row, good_rows, distinct, right_table}
use Rattle.file_table.specs.Steps.{row_at}
use Rattle.file_table.proofs.Rows.{rows-some, rows_next}

-- ---- what a table that is right tells

module _ (pool table : List ℕ) (g : right_table pool table ≡ true) where
  pub table-whole : length table % 56 ≡ 0
  unfolding right_table
  table-whole = eqb-true (length table % 56) 0 (and_left (eqb (length table % 56) 0) (good_rows pool (rows table) && distinct (rows table)) g)

  rest : good_rows pool (rows table) && distinct (rows table) ≡ true
  unfolding right_table
  rest = and_right (eqb (length table % 56) 0) (good_rows pool (rows table) && distinct (rows table)) g

  pub table-good : good_rows pool (rows table) ≡ true
  table-good = and_left (good_rows pool (rows table)) (distinct (rows table)) rest

  pub table-distinct : distinct (rows table) ≡ true
  table-distinct = and_right (good_rows pool (rows table)) (distinct (rows table)) rest

-- ---- each of its rows

-- what is known of it
pub record Right (pool : List ℕ) (r : Row) : Type 0 where
  pub id : Id r.id
  pub parent : Id r.parent
  pub attributes : r.attributes < 2 ^ 32
  pub usn : r.usn < 2 ^ 63
  pub named : good_name (row_name pool r) ≡ true
  pub other : id_number r.id ≡ 2 ^ 64 - 1 → ⊥

pub good-member : (pool : List ℕ) (rs : List Row) → good_rows pool rs ≡ true → (r : Row) → Memᴰ r rs → good_row pool r ≡ true
unfolding good_rows
good-member pool [] g r m = absurd (Memᴰ.not-nil m)
good-member pool (x ∷ xs) g r m = go (Memᴰ.cases_cons m) (good-member pool xs (and_right (good_row pool x) (good_rows pool xs) g) r)
  where
    go : (r ≡ x) ⊎ Memᴰ r xs → (Memᴰ r xs → good_row pool r ≡ true) → good_row pool r ≡ true
    go (inl p) ih = ap (good_row pool) p ∙ and_left (good_row pool x) (good_rows pool xs) g
    go (inr p) ih = ih p

-- the types of its fields
abbrev Typed : Row → Type 0
Typed r = Id r.id × Id r.parent × (r.attributes < 2 ^ 32)

typed-row : (s : List ℕ) → 56 ≤ length s → Bytes s → Typed (row_in s)
typed-row s h b = (
  record { size = length-take-le 16 s (omega arith); bytes = bytes_take 16 s b },
  record { size = length-take-le 16 (drop 16 s) (omega (arith, length-drop 16 s)); bytes = bytes_take 16 (drop 16 s) (bytes_drop 16 s b) },
  number_lt s 40 4 b,
)

typed-member : (n : ℕ) (s : List ℕ) → 56 * n ≤ length s → Bytes s → (r : Row) → Memᴰ r (first_rows n s) → Typed r
unfolding first_rows
typed-member zero s h b r m = absurd (Memᴰ.not-nil m)
typed-member (suc n) s h b r m = go (Memᴰ.cases_cons m) (typed-member n (drop 56 s) (omega (arith, length-drop 56 s)) (bytes_drop 56 s b) r)
  where
    go : (r ≡ row_in s) ⊎ Memᴰ r (first_rows n (drop 56 s)) → (Memᴰ r (first_rows n (drop 56 s)) → Typed r) → Typed r
    go (inl p) ih = subst Typed (sym p) (typed-row s (omega arith) b)
    go (inr p) ih = ih p

pub right-row : (pool table : List ℕ) → right_table pool table ≡ true → Bytes table → (r : Row) → Memᴰ r (rows table) → Right pool r
unfolding rows good_row
right-row pool table g b r m =
    let t = typed-member (length table / 56) table (omega arith) b r m in
    let e = good-member pool (rows table) (table-good pool table g) r m in
    let named : Bool = good_in pool r.place r.length in
    let usn : Bool = ltb r.usn (2 ^ 63) in
    let other : Bool = not (eqb (id_number r.id) (2 ^ 64 - 1)) in
    let k : usn && other ≡ true = and_right named (usn && other) e in
    record {
      id = t.0;
      parent = t.1;
      attributes = t.2;
      usn = ltb-true r.usn (2 ^ 63) (and_left usn other k);
      named = in-named pool r.place r.length (and_left named (usn && other) e);
      other = eqb-false (id_number r.id) (2 ^ 64 - 1) (not-true (eqb (id_number r.id) (2 ^ 64 - 1)) (and_right usn other k));
    }

-- ---- the rows before a place

split_at : (k : ℕ) (s : List ℕ) → 56 * k ≤ length s → (before : List Row) × (rows s ≡ before ++ rows (drop (56 * k) s))
split_at zero s h = ([], refl)
split_at (suc k) s h =
    let n : length (drop 56 s) ≡ length s - 56 = length-drop 56 s in
    let t = split_at k (drop 56 s) (omega (arith, n)) in
    let e : 56 + 56 * k ≡ 56 * suc k = omega arith in
    (row_in s ∷ t.0, rows-some s (omega arith) ∙ ap (λ (l : List Row). row_in s ∷ l) (t.1 ∙ ap (λ (l : List ℕ). t.0 ++ rows l) (drop-drop (56 * k) 56 s ∙ ap (λ (j : ℕ). drop j s) e)))

-- a row stands behind others
member-behind : (before rs : List Row) (r : Row) → Memᴰ r rs → Memᴰ r (before ++ rs)
member-behind [] rs r m = m
member-behind (x ∷ before) rs r m = Memᴰ.tail (member-behind before rs r m)

module _ (s : List ℕ) (at : ℕ) (d : at % 56 ≡ 0) where
  pub row-split : at ≤ length s → (before : List Row) × (rows s ≡ before ++ rows (drop at s))
  row-split h =
      let e : 56 * (at / 56) ≡ at = omega arith in
      subst (λ (j : ℕ). (before : List Row) × (rows s ≡ before ++ rows (drop j s))) e (split_at (at / 56) s (omega arith))

  module _ (h : at + 56 ≤ length s) where
    pub row-member : Memᴰ (row_at s at) (rows s)
    row-member =
        let t = row-split (omega arith) in
        subst (λ (l : List Row). Memᴰ (row_at s at) l) (sym t.1)
        (member-behind t.0 (rows (drop at s)) (row_at s at) (subst (λ (l : List Row). Memᴰ (row_at s at) l) (sym (rows_next s at h)) (Memᴰ.head refl)))

    pub row-good : (pool : List ℕ) → good_rows pool (rows s) ≡ true → good_row pool (row_at s at) ≡ true
    row-good pool g = good-member pool (rows s) g (row_at s at) row-member
