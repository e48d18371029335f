-- The rows that are made of records, and what is taken of the table and of the pool.
use Rattle.std.specs.Prelude.{◌≡◌, cond, List, [], ◌∷◌, ◌++◌, ℕ, ◌+◌, ◌-◌, ◌%◌, ◌^◌, ◌≤◌, leb, eqb, length, take, Result, Ok, Err}
use Rattle.file_ids.specs.Ids.{id_number}
use Rattle.usn_record.specs.declared.Fields.{Fields}
use Rattle.usn_record.specs.Layout.{Record, length_of}
use Rattle.records.specs.Records.{Records, whole, bad}
use Rattle.file_table.specs.Table.{Row, rows}
use Rattle.usnpaths.specs.declared.table.Extent.{Extent}
use Rattle.usnpaths.specs.declared.table.Unfit.{Unfit}
use Rattle.usnpaths.specs.declared.table.Unfit.TheVariants.{BadAt, ManyFiles, LongNames}

-- ---- the rows of records

-- the row of a record whose name has so many bytes and stands at a place of the pool
abbrev pub row_of : Fields → ℕ → ℕ → Row
row_of f length place =
    record {
      id = f.file;
      parent = f.parent;
      usn = f.usn;
      attributes = f.attributes;
      length = length;
      place = place;
    }

-- those of records whose names stand one behind the other, from a place on
unfoldable pub rows_of : ℕ → List Record → List Row
rows_of place [] = []
rows_of place (r ∷ rs) = row_of r.fields (length r.name) place ∷ rows_of (place + length r.name) rs

-- these names
unfoldable pub names_of : List Record → List ℕ
names_of [] = []
names_of (r ∷ rs) = r.name ++ names_of rs

-- ---- what becomes of a reply

-- behind one more row, with a name of so many bytes
abbrev pub behind : Extent → ℕ → Extent
behind e n = record { rows = e.rows + 56; names = e.names + n }

-- records, the first of which stands at a place of the reply, behind what is taken of a table and a pool of these lengths: one that cannot be a row,
-- one for which there is no room in the table, or in the pool, or all of them
unfoldable pub added_of : ℕ → ℕ → ℕ → Extent → List Record → Result Extent Unfit
added_of table pool at e [] = Ok e
added_of table pool at e (r ∷ rs) =
    let more = added_of table pool (at + length_of r) (behind e (length r.name)) rs in
    cond (eqb (id_number r.fields.file) (2 ^ 64 - 1)) (Err (BadAt at))
    (cond (leb 56 (table - e.rows)) (cond (leb (length r.name) (pool - e.names)) more (Err LongNames)) (Err ManyFiles))

-- a whole reply: its records, or where it is bad
abbrev pub reply_added : ℕ → ℕ → Extent → Records → Result Extent Unfit
reply_added table pool e (whole rs) = added_of table pool 8 e rs
reply_added table pool e (bad place) = Err (BadAt place)

-- where all of them are added, table and pool hold what was taken before, and behind it their rows and their names
abbrev pub Holds : List ℕ → List ℕ → Extent → List Record → List ℕ → List ℕ → Result Extent Unfit → Type 0
Holds table pool old rs after names (Ok e) =
    (rows (take e.rows after) ≡ rows (take old.rows table) ++ rows_of old.names rs) × (take e.names names ≡ take old.names pool ++ names_of rs)
Holds table pool old rs after names (Err why) = Unit {0}

-- ---- bounds

-- whole rows of a table, and names of a pool, of these lengths
abbrev pub Inside : ℕ → ℕ → ℕ → ℕ → Type 0
Inside table pool rows names = (rows ≤ table) × (names ≤ pool) × (rows % 56 ≡ 0)

-- what is taken once a reply was added lies inside
abbrev pub AddedInside : ℕ → ℕ → Result Extent Unfit → Type 0
AddedInside table pool (Ok e) = Inside table pool e.rows e.names
AddedInside table pool (Err why) = Unit {0}
