-- A file's path: the names of the files on the way from a root down to it, from a table of the volume's files.
use Rattle.std.specs.Prelude.{cond, List, [], ◌∷◌, ◌++◌, ℕ, zero, suc, leb, eqb, length, Option, None, Some}
use Rattle.status.specs.declared.Status.{Status}
use Rattle.status.specs.declared.Status.TheVariants.{Success, BufferTooSmall, ObjectPathNotFound, FileCorruptError, NameTooLong}
use Rattle.status.specs.Check.{unless}
use Rattle.status.specs.Reply.{Reply, refuse, give, guard}
use Rattle.file_ids.specs.Ids.{id_number}
use Rattle.file_table.specs.Table.{Row, rows, row_name, right_table, find}

-- ---- the way up

-- what going up gives: the names on the way, the one nearest the root first, or the status that says why there are none
pub data Way : Type 0 where
  reached : List (List ℕ) → Way
  stopped : Status → Way

-- a file's own name is the last one
abbrev pub below : List ℕ → Way → Way
below name (reached names) = reached (names ++ (name ∷ []))
below name (stopped x) = stopped x

-- a step goes from the row of an id to its parent; where the table has no such row, there is no path
abbrev pub step : List ℕ → Option Row → (ℕ → Way) → Way
step pool None onward = stopped ObjectPathNotFound
step pool (Some r) onward = below (row_name pool r) (onward (id_number r.parent))

-- up from an id with so many steps left: it is the root; or no step is left; or a step is taken, and leaves one fewer
unfoldable pub upward : List ℕ → List Row → ℕ → ℕ → ℕ → Way
upward pool rs root zero id = cond (eqb id root) (reached []) (stopped NameTooLong)
upward pool rs root (suc left) id = cond (eqb id root) (reached []) (step pool (find id rs) (upward pool rs root left))

-- ---- the path

-- the code unit 0x5C
abbrev pub separator : List ℕ
separator = 0x5C ∷ 0 ∷ []

-- names with it between two of them
unfoldable pub joined : List (List ℕ) → List ℕ
joined [] = []
joined (name ∷ []) = name
joined (name ∷ next ∷ names) = name ++ (separator ++ joined (next ∷ names))

-- ---- the reply

-- the names joined, if that fits
abbrev pub way_reply : Way → ℕ → Reply
way_reply (reached names) room = guard (unless (leb (length (joined names)) room) BufferTooSmall) (give Success (joined names))
way_reply (stopped x) room = refuse x

-- the way from a file up to a root: 64 steps
abbrev pub way_of : List ℕ → List ℕ → List ℕ → List ℕ → Way
way_of table pool id root = upward pool (rows table) (id_number root) 64 (id_number id)

-- the reply of the whole call: the table is judged, all of it; then the way, then the room
unfoldable pub path_reply : List ℕ → List ℕ → List ℕ → List ℕ → ℕ → Reply
path_reply table pool id root room = guard (unless (right_table pool table) FileCorruptError) (way_reply (way_of table pool id root) room)
