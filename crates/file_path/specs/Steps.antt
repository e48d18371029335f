-- A path as the code makes it: its length first, then its bytes.
use Rattle.std.specs.Prelude.{◌≡◌, Bool, true, false, cond, List, [], ◌++◌, ℕ, ◌≤◌, length, drop, Result, Ok, Err}
use Rattle.file_table.specs.Table.{Row, row_name}
use Rattle.status.specs.declared.Status.{Status}
use Rattle.file_path.specs.Path.{Way, reached, stopped, joined, separator}

-- ---- its length

-- how many bytes the path has, or why there is none
abbrev pub extent_of : Way → Result ℕ Status
extent_of (reached names) = Ok (length (joined names))
extent_of (stopped x) = Err x

-- ---- its bytes

abbrev pub is_reached : Way → Bool
is_reached (reached names) = true
is_reached (stopped x) = false

abbrev pub path_of : Way → List ℕ
path_of (reached names) = joined names
path_of (stopped x) = []

-- there is a path, and it fits
abbrev pub Fits : Way → ℕ → Type 0
Fits w room = (is_reached w ≡ true) × (length (path_of w) ≤ room)

-- what a file adds to its parent's path
abbrev pub part : Bool → List ℕ → Row → List ℕ
part first pool r = (cond first [] separator) ++ row_name pool r

-- what writing a run answers and makes of `out`
abbrev pub Writes : List ℕ → List ℕ → ℕ → List ℕ → Type 0
Writes run out count last = (count ≡ length run) × (last ≡ run ++ drop count out)
