-- A table of a volume's files: a row of 56 bytes for each, with its name in a pool. What the rows hold, and when the table is right.
use Rattle.std.specs.Prelude.{◌≡◌, ◌≤◌, ◌+◌, Bool, true, false, not, cond, ◌&&◌, ◌||◌, List, [], ◌∷◌, ℕ, zero, suc, ◌-◌, ◌/◌, ◌%◌, ◌^◌, ltb, eqb, length, take, drop, Option, None, Some}
use Rattle.le.specs.Numbers.{number_at}
use Rattle.file_ids.specs.Ids.{id_number}
use Rattle.names.specs.Names.{name_in, good_in}
use Rattle.file_table.specs.declared.Order.{Order}
use Rattle.file_table.specs.declared.Order.TheVariants.{Rising, Mixed}

-- ---- the rows

-- a file's id and its parent's, its Usn and attributes, and the length and place of its name in the pool
pub record Row : Type 0 where
  pub id : List ℕ
  pub parent : List ℕ
  pub usn : ℕ
  pub attributes : ℕ
  pub length : ℕ
  pub place : ℕ

-- the row that stands at the start of s
abbrev pub row_in : List ℕ → Row
row_in s =
    record {
      id = take 16 s;
      parent = take 16 (drop 16 s);
      usn = number_at s 32 8;
      attributes = number_at s 40 4;
      length = number_at s 44 4;
      place = number_at s 48 8;
    }

-- the first n rows of s
unfoldable pub first_rows : ℕ → List ℕ → List Row
first_rows zero s = []
first_rows (suc n) s = row_in s ∷ first_rows n (drop 56 s)

-- all rows of s
unfoldable pub rows : List ℕ → List Row
rows s = first_rows (length s / 56) s

-- a file's name
abbrev pub row_name : List ℕ → Row → List ℕ
row_name pool r = name_in pool r.place r.length

-- the row that has the id of this number, if there is one
unfoldable pub find : ℕ → List Row → Option Row
find n [] = None
find n (r ∷ rs) = cond (eqb (id_number r.id) n) (Some r) (find n rs)

-- where it stands in the bytes of a table, or there is none
abbrev pub Stands : ℕ → List ℕ → Option ℕ → Type 0
Stands n s (Some at) = (find n (rows s) ≡ Some (row_in (drop at s))) × (at + 56 ≤ length s) × (at % 56 ≡ 0)
Stands n s None = find n (rows s) ≡ None

-- ---- when the table is right

-- a name as a link has one, a Usn that is not negative, and an id other than 2^64-1, whose successor a reply could not hold
unfoldable pub good_row : List ℕ → Row → Bool
good_row pool r = good_in pool r.place r.length && (ltb r.usn (2 ^ 63) && not (eqb (id_number r.id) (2 ^ 64 - 1)))

unfoldable pub good_rows : List ℕ → List Row → Bool
good_rows pool [] = true
good_rows pool (r ∷ rs) = good_row pool r && good_rows pool rs

-- one of the rows has the id of this number
unfoldable pub has_id : ℕ → List Row → Bool
has_id n [] = false
has_id n (r ∷ rs) = eqb (id_number r.id) n || has_id n rs

-- no id stands twice, all sixteen bytes compared
unfoldable pub distinct : List Row → Bool
distinct [] = true
distinct (r ∷ rs) = not (has_id (id_number r.id) rs) && distinct rs

-- whole rows, each of them good, and no id twice
unfoldable pub right_table : List ℕ → List ℕ → Bool
right_table pool s = eqb (length s % 56) 0 && (good_rows pool (rows s) && distinct (rows s))

-- ---- its order

-- the first row, if there is one, has an id above n
abbrev pub above : ℕ → List Row → Bool
above n [] = true
above n (r ∷ rs) = ltb n (id_number r.id)

-- each id is above the one before it
unfoldable pub rising : List Row → Bool
rising [] = true
rising (r ∷ rs) = above (id_number r.id) rs && rising rs

-- the order of a table that is right
abbrev pub order_of : List ℕ → List ℕ → Option Order
order_of pool s = cond (right_table pool s) (Some (cond (rising (rows s)) Rising Mixed)) None
