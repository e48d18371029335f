-- The row at a place of a table, and where the rows of lower ids end.
use Rattle.std.specs.Prelude.{◌≡◌, List, ℕ, ◌%◌, ◌≤◌, ◌<◌, length, drop}
use Rattle.file_ids.specs.Ids.{id_number}
use Rattle.file_table.specs.Table.{Row, row_in}

-- ---- places

abbrev pub row_at : List ℕ → ℕ → Row
row_at s at = row_in (drop at s)

-- the number of its id
abbrev pub id_at : List ℕ → ℕ → ℕ
id_at s at = id_number (row_at s at).id

-- ---- the order of rows

-- the rows before a place have lower ids than n, and those from it on have not
pub record Parts (n : ℕ) (s : List ℕ) (at : ℕ) : Type 0 where
  pub inside : at ≤ length s
  pub whole : at % 56 ≡ 0
  pub before : (i : ℕ) → i % 56 ≡ 0 → i < at → id_at s i < n
  pub behind : (i : ℕ) → i % 56 ≡ 0 → at ≤ i → i < length s → n ≤ id_at s i
