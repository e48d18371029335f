-- One record more: what the table and the pool then hold, and what becomes of the rest.
-- Assumes nothing.
use mathlib.Core.Path.{◌≡◌, refl, sym, ap, ap₂, ◌∙◌}
use mathlib.Core.Bool.{true, false}
use mathlib.Core.List.{List, [], ◌∷◌, ◌++◌}
use Rattle.std.specs.Prelude.{Ok, Err}
use Prim.Native.Nat.{ℕ, zero, suc, ◌+◌, ◌-◌, ◌*◌, ◌/◌, ◌%◌, ◌^◌, ◌≤◌, ◌<◌}
use native.Mathlib.Omega.{arith}
use lib.Dec.{eqb}
use lib.ListN.{length, take, drop, length-append, length-drop, take-append-drop, drop_of_length-le}
use lib.Seq.{take_at, length-take-le}
use borrow.Author.Tests.{le-leb, lt-leb}
use Rattle.le.specs.Numbers.{number_at}
use Rattle.le.proofs.Tail.{lent, back, tail-back}
use Rattle.file_ids.specs.Ids.{id_number}
use Rattle.usn_record.specs.Layout.{Record, length_of}
use Rattle.file_table.specs.Table.{Row, row_in, first_rows, rows}
use Rattle.file_table.proofs.Rows.{rows-some}
use Rattle.usnpaths.specs.declared.table.Extent.{Extent}
use Rattle.usnpaths.specs.declared.table.Unfit.TheVariants.{BadAt, ManyFiles, LongNames}
use Rattle.usnpaths.specs.Rows.{behind, added_of}

-- ---- the front of a run

take_past : (a b : List ℕ) (n k : ℕ) → length a ≡ n → take (n + k) (a ++ b) ≡ a ++ take k b
take_past [] b n k e = let z : n + k ≡ k = omega (arith, e) in ap (λ (j : ℕ). take j b) z
take_past (x ∷ a) b zero k e = absurd (omega (arith, e))
take_past (x ∷ a) b (suc n) k e = let z : suc n + k ≡ suc (n + k) = omega arith in rw z (ap (λ (l : List ℕ). x ∷ l) (take_past a b n k (omega (arith, e))))

-- the first bytes of a run are those of its front
take-front : (a b : List ℕ) (k : ℕ) → k ≤ length a → take k (a ++ b) ≡ take k a
take-front a b zero h = refl
take-front [] b (suc k) h = absurd (omega (arith, h))
take-front (x ∷ a) b (suc k) h = ap (λ (l : List ℕ). x ∷ l) (take-front a b k (omega (arith, h)))

drop-front : (a b : List ℕ) (k : ℕ) → k ≤ length a → drop k (a ++ b) ≡ drop k a ++ b
drop-front a b zero h = refl
drop-front [] b (suc k) h = absurd (omega (arith, h))
drop-front (x ∷ a) b (suc k) h = drop-front a b k (omega (arith, h))

module _ (a b : List ℕ) where
  part-front : (at k : ℕ) → at + k ≤ length a → take k (drop at (a ++ b)) ≡ take k (drop at a)
  part-front at k h = ap (take k) (drop-front a b at (omega arith)) ∙ take-front (drop at a) b k (omega (arith, length-drop at a))

  number-front : (at k : ℕ) → at + k ≤ length a → number_at (a ++ b) at k ≡ number_at a at k
  unfolding number_at
  number-front at k h = rw (part-front at k h)

  -- a row is of its own 56 bytes
  row-front : 56 ≤ length a → row_in (a ++ b) ≡ row_in a
  row-front h =
      rw (take-front a b 16 (omega arith), part-front 16 16 (omega arith), number-front 32 8 (omega arith), number-front 40 4 (omega arith), number-front 44 4 (omega arith), number-front 48 8 (omega arith))

-- ---- rows behind rows

rows_none : (b : List ℕ) → rows ([] ++ b) ≡ rows [] ++ rows b
unfolding rows first_rows
rows_none b = refl

rows_join : (k : ℕ) (a b : List ℕ) → length a ≡ 56 * k → rows (a ++ b) ≡ rows a ++ rows b
rows_join zero [] b e = rows_none b
rows_join zero (x ∷ a) b e = absurd (omega (arith, e))
rows_join (suc k) a b e =
    rows-some (a ++ b) (omega (arith, e, length-append a b))
    ∙ ap₂ (λ (r : Row) (l : List ℕ). r ∷ rows l) (row-front a b (omega (arith, e))) (drop-front a b 56 (omega (arith, e)))
    ∙ ap (λ (l : List Row). row_in a ∷ l) (rows_join k (drop 56 a) b (omega (arith, e, length-drop 56 a)))
    ∙ sym (ap (λ (l : List Row). l ++ rows b) (rows-some a (omega (arith, e))))

rows-one : (s : List ℕ) → 56 ≤ length s → rows (take 56 s) ≡ row_in s ∷ []
unfolding rows first_rows
rows-one s h =
    let n : length (take 56 s) ≡ 56 = length-take-le 56 s h in
    let r : row_in s ≡ row_in (take 56 s) = ap row_in (sym (take-append-drop 56 s)) ∙ row-front (take 56 s) (drop 56 s) (omega (arith, n)) in
    let d : drop 56 (take 56 s) ≡ [] = drop_of_length-le (take 56 s) {i = 56} (omega (arith, n)) in
    rows-some (take 56 s) (omega (arith, n)) ∙ ap₂ (λ (r : Row) (l : List ℕ). r ∷ rows l) (sym r) d

-- the table with one row more
pub rows_more : (table last : List ℕ) (n : ℕ) → n % 56 ≡ 0 → n + 56 ≤ length table → length last ≡ length (lent n table)
    → rows (take (n + 56) (back n table last)) ≡ rows (take n table) ++ (row_in last ∷ [])
rows_more table last n w h e =
    let f : length (take n table) ≡ n = length-take-le n table (omega arith) in
    let l : 56 ≤ length last = omega (arith, e, length-take-le (length table - n) (drop n table) (omega (arith, length-drop n table))) in
    let z : length (take n table) ≡ 56 * (n / 56) = omega (arith, f, w) in
    ap (λ (s : List ℕ). rows (take (n + 56) s)) (tail-back n table (omega arith) last) ∙ ap rows (take_past (take n table) last n 56 f)
    ∙ rows_join (n / 56) (take n table) (take 56 last) z ∙ ap (λ (r : List Row). rows (take n table) ++ r) (rows-one last l)

-- the pool with one name more
pub names_more : (pool last run : List ℕ) (n k : ℕ) → n + k ≤ length pool → length run ≡ k → last ≡ run ++ drop (length run) (lent n pool)
    → take (n + k) (back n pool last) ≡ take n pool ++ run
names_more pool last run n k h m e =
    ap (λ (s : List ℕ). take (n + k) s) (tail-back n pool (omega arith) last) ∙ take_past (take n pool) last n k (length-take-le n pool (omega arith))
    ∙ ap (λ (s : List ℕ). take n pool ++ s) (ap (take k) e ∙ take_at run (drop (length run) (lent n pool)) k m)

-- ---- what becomes of records

pub added_none : (table pool at : ℕ) (e : Extent) → added_of table pool at e [] ≡ Ok e
unfolding added_of
added_none table pool at e = refl

module _ (table pool at : ℕ) (e : Extent) (r : Record) (rs : List Record) where
  pub added-last : eqb (id_number r.fields.file) (2 ^ 64 - 1) ≡ true → added_of table pool at e (r ∷ rs) ≡ Err (BadAt at)
  unfolding added_of
  added-last q = rw q

  module _ (q : eqb (id_number r.fields.file) (2 ^ 64 - 1) ≡ false) where
    pub added-many : table - e.rows < 56 → added_of table pool at e (r ∷ rs) ≡ Err ManyFiles
    unfolding added_of
    added-many h = rw (q, lt-leb 56 (table - e.rows) h)

    module _ (h : 56 ≤ table - e.rows) where
      pub added-long : pool - e.names < length r.name → added_of table pool at e (r ∷ rs) ≡ Err LongNames
      unfolding added_of
      added-long k = rw (q, le-leb 56 (table - e.rows) h, lt-leb (length r.name) (pool - e.names) k)

      pub added_more : length r.name ≤ pool - e.names → added_of table pool at e (r ∷ rs) ≡ added_of table pool (at + length_of r) (behind e (length r.name)) rs
      unfolding added_of
      added_more k = rw (q, le-leb 56 (table - e.rows) h, le-leb (length r.name) (pool - e.names) k)
