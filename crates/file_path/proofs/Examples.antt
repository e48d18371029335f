-- A table of seven files, of which two are each other's parent: whole replies by their bytes, an instance of what the promise asks, and the 64 steps to the last one.
-- Assumes nothing.
use mathlib.Core.Path.{◌≡◌, refl}
use mathlib.Core.Bool.{true}
use mathlib.Core.List.{List, [], ◌∷◌, ◌++◌, map}
use Prim.Native.Nat.{ℕ, zero, suc}
use Rattle.le.specs.Numbers.{unle, number_at}
use Rattle.names.specs.Names.{good_unit, good_units, good_name, good_in}
use Rattle.status.specs.declared.Status.TheVariants.{Success, BufferTooSmall, ObjectPathNotFound, FileCorruptError, NameTooLong}
use Rattle.status.specs.Reply.{Reply, refuse, give}
use Rattle.file_table.specs.Table.{first_rows, rows, find, good_row, good_rows, has_id, distinct, right_table}
use Rattle.file_path.specs.Path.{upward, joined, path_reply}
use Rattle.file_path.specs.Chain.{Paths}
use Rattle.file_path.proofs.Chains.{answers}

-- ---- the table

-- the names a, b and c
abbrev pub pool : List ℕ
pool = 0x61 ∷ 0 ∷ 0x62 ∷ 0 ∷ 0x63 ∷ 0 ∷ []

-- file 9, parent 5, the name a
abbrev pub nine : List ℕ
nine =
    9 ∷ 0 ∷ 0 ∷ 0 ∷ 0 ∷ 0 ∷ 0 ∷ 0
    ∷ 0 ∷ 0 ∷ 0 ∷ 0 ∷ 0 ∷ 0 ∷ 0 ∷ 0
    ∷ 5 ∷ 0 ∷ 0 ∷ 0 ∷ 0 ∷ 0 ∷ 0 ∷ 0
    ∷ 0 ∷ 0 ∷ 0 ∷ 0 ∷ 0 ∷ 0 ∷ 0 ∷ 0
    ∷ 100 ∷ 0 ∷ 0 ∷ 0 ∷ 0 ∷ 0 ∷ 0 ∷ 0
    ∷ 16 ∷ 0 ∷ 0 ∷ 0 ∷ 2 ∷ 0 ∷ 0 ∷ 0
    ∷ 0 ∷ 0 ∷ 0 ∷ 0 ∷ 0 ∷ 0 ∷ 0 ∷ 0 ∷ []

-- file 7, parent 9, the name b
abbrev pub seven : List ℕ
seven =
    7 ∷ 0 ∷ 0 ∷ 0 ∷ 0 ∷ 0 ∷ 0 ∷ 0
    ∷ 0 ∷ 0 ∷ 0 ∷ 0 ∷ 0 ∷ 0 ∷ 0 ∷ 0
    ∷ 9 ∷ 0 ∷ 0 ∷ 0 ∷ 0 ∷ 0 ∷ 0 ∷ 0
    ∷ 0 ∷ 0 ∷ 0 ∷ 0 ∷ 0 ∷ 0 ∷ 0 ∷ 0
    ∷ 200 ∷ 0 ∷ 0 ∷ 0 ∷ 0 ∷ 0 ∷ 0 ∷ 0
    ∷ 32 ∷ 0 ∷ 0 ∷ 0 ∷ 2 ∷ 0 ∷ 0 ∷ 0
    ∷ 2 ∷ 0 ∷ 0 ∷ 0 ∷ 0 ∷ 0 ∷ 0 ∷ 0 ∷ []

-- file 8, parent 9, no name
abbrev pub eight : List ℕ
eight =
    8 ∷ 0 ∷ 0 ∷ 0 ∷ 0 ∷ 0 ∷ 0 ∷ 0
    ∷ 0 ∷ 0 ∷ 0 ∷ 0 ∷ 0 ∷ 0 ∷ 0 ∷ 0
    ∷ 9 ∷ 0 ∷ 0 ∷ 0 ∷ 0 ∷ 0 ∷ 0 ∷ 0
    ∷ 0 ∷ 0 ∷ 0 ∷ 0 ∷ 0 ∷ 0 ∷ 0 ∷ 0
    ∷ 44 ∷ 1 ∷ 0 ∷ 0 ∷ 0 ∷ 0 ∷ 0 ∷ 0
    ∷ 16 ∷ 0 ∷ 0 ∷ 0 ∷ 0 ∷ 0 ∷ 0 ∷ 0
    ∷ 6 ∷ 0 ∷ 0 ∷ 0 ∷ 0 ∷ 0 ∷ 0 ∷ 0 ∷ []

-- file 6, parent 8, the name bc
abbrev pub six : List ℕ
six =
    6 ∷ 0 ∷ 0 ∷ 0 ∷ 0 ∷ 0 ∷ 0 ∷ 0
    ∷ 0 ∷ 0 ∷ 0 ∷ 0 ∷ 0 ∷ 0 ∷ 0 ∷ 0
    ∷ 8 ∷ 0 ∷ 0 ∷ 0 ∷ 0 ∷ 0 ∷ 0 ∷ 0
    ∷ 0 ∷ 0 ∷ 0 ∷ 0 ∷ 0 ∷ 0 ∷ 0 ∷ 0
    ∷ 144 ∷ 1 ∷ 0 ∷ 0 ∷ 0 ∷ 0 ∷ 0 ∷ 0
    ∷ 32 ∷ 0 ∷ 0 ∷ 0 ∷ 4 ∷ 0 ∷ 0 ∷ 0
    ∷ 2 ∷ 0 ∷ 0 ∷ 0 ∷ 0 ∷ 0 ∷ 0 ∷ 0 ∷ []

-- file 11, parent 77, the name a
abbrev pub eleven : List ℕ
eleven =
    11 ∷ 0 ∷ 0 ∷ 0 ∷ 0 ∷ 0 ∷ 0 ∷ 0
    ∷ 0 ∷ 0 ∷ 0 ∷ 0 ∷ 0 ∷ 0 ∷ 0 ∷ 0
    ∷ 77 ∷ 0 ∷ 0 ∷ 0 ∷ 0 ∷ 0 ∷ 0 ∷ 0
    ∷ 0 ∷ 0 ∷ 0 ∷ 0 ∷ 0 ∷ 0 ∷ 0 ∷ 0
    ∷ 244 ∷ 1 ∷ 0 ∷ 0 ∷ 0 ∷ 0 ∷ 0 ∷ 0
    ∷ 32 ∷ 0 ∷ 0 ∷ 0 ∷ 2 ∷ 0 ∷ 0 ∷ 0
    ∷ 0 ∷ 0 ∷ 0 ∷ 0 ∷ 0 ∷ 0 ∷ 0 ∷ 0 ∷ []

-- file 12, parent 13, the name b
abbrev pub twelve : List ℕ
twelve =
    12 ∷ 0 ∷ 0 ∷ 0 ∷ 0 ∷ 0 ∷ 0 ∷ 0
    ∷ 0 ∷ 0 ∷ 0 ∷ 0 ∷ 0 ∷ 0 ∷ 0 ∷ 0
    ∷ 13 ∷ 0 ∷ 0 ∷ 0 ∷ 0 ∷ 0 ∷ 0 ∷ 0
    ∷ 0 ∷ 0 ∷ 0 ∷ 0 ∷ 0 ∷ 0 ∷ 0 ∷ 0
    ∷ 88 ∷ 2 ∷ 0 ∷ 0 ∷ 0 ∷ 0 ∷ 0 ∷ 0
    ∷ 16 ∷ 0 ∷ 0 ∷ 0 ∷ 2 ∷ 0 ∷ 0 ∷ 0
    ∷ 2 ∷ 0 ∷ 0 ∷ 0 ∷ 0 ∷ 0 ∷ 0 ∷ 0 ∷ []

-- file 13, parent 12, the name c
abbrev pub thirteen : List ℕ
thirteen =
    13 ∷ 0 ∷ 0 ∷ 0 ∷ 0 ∷ 0 ∷ 0 ∷ 0
    ∷ 0 ∷ 0 ∷ 0 ∷ 0 ∷ 0 ∷ 0 ∷ 0 ∷ 0
    ∷ 12 ∷ 0 ∷ 0 ∷ 0 ∷ 0 ∷ 0 ∷ 0 ∷ 0
    ∷ 0 ∷ 0 ∷ 0 ∷ 0 ∷ 0 ∷ 0 ∷ 0 ∷ 0
    ∷ 188 ∷ 2 ∷ 0 ∷ 0 ∷ 0 ∷ 0 ∷ 0 ∷ 0
    ∷ 16 ∷ 0 ∷ 0 ∷ 0 ∷ 2 ∷ 0 ∷ 0 ∷ 0
    ∷ 4 ∷ 0 ∷ 0 ∷ 0 ∷ 0 ∷ 0 ∷ 0 ∷ 0 ∷ []

abbrev pub files : List ℕ
files = seven ++ (nine ++ (eight ++ (six ++ (eleven ++ (twelve ++ thirteen)))))

-- ---- the replies

-- an id's lowest and its highest byte
abbrev pub id_of : ℕ → ℕ → List ℕ
id_of low high = low ∷ 0 ∷ 0 ∷ 0 ∷ 0 ∷ 0 ∷ 0 ∷ 0 ∷ 0 ∷ 0 ∷ 0 ∷ 0 ∷ 0 ∷ 0 ∷ 0 ∷ high ∷ []

pub record Example : Type 0 where
  pub table : List ℕ
  pub id : List ℕ
  pub root : List ℕ
  pub room : ℕ
  pub reply : Reply

abbrev pub examples : List Example
examples =
    -- the root, which is not in the table
    record { table = files; id = id_of 5 0; root = id_of 5 0; room = 0; reply = give Success [] }
    -- one step, and two
    ∷ record { table = files; id = id_of 9 0; root = id_of 5 0; room = 2; reply = give Success (0x61 ∷ 0 ∷ []) }
    ∷ record { table = files; id = id_of 7 0; root = id_of 5 0; room = 100; reply = give Success (0x61 ∷ 0 ∷ 0x5C ∷ 0 ∷ 0x62 ∷ 0 ∷ []) }
    -- just the room, and one byte short
    ∷ record { table = files; id = id_of 7 0; root = id_of 5 0; room = 6; reply = give Success (0x61 ∷ 0 ∷ 0x5C ∷ 0 ∷ 0x62 ∷ 0 ∷ []) }
    ∷ record { table = files; id = id_of 7 0; root = id_of 5 0; room = 5; reply = refuse BufferTooSmall }
    -- an empty name at the end, and in the middle
    ∷ record { table = files; id = id_of 8 0; root = id_of 5 0; room = 4; reply = give Success (0x61 ∷ 0 ∷ 0x5C ∷ 0 ∷ []) }
    ∷ record { table = files; id = id_of 6 0; root = id_of 5 0; room = 10; reply = give Success (0x61 ∷ 0 ∷ 0x5C ∷ 0 ∷ 0x5C ∷ 0 ∷ 0x62 ∷ 0 ∷ 0x63 ∷ 0 ∷ []) }
    -- a root that is in the table: its path is empty, and the others begin below it
    ∷ record { table = files; id = id_of 9 0; root = id_of 9 0; room = 0; reply = give Success [] }
    ∷ record { table = files; id = id_of 7 0; root = id_of 9 0; room = 2; reply = give Success (0x62 ∷ 0 ∷ []) }
    -- below an empty name at the root
    ∷ record { table = files; id = id_of 8 0; root = id_of 9 0; room = 0; reply = give Success [] }
    ∷ record { table = files; id = id_of 6 0; root = id_of 9 0; room = 6; reply = give Success (0x5C ∷ 0 ∷ 0x62 ∷ 0 ∷ 0x63 ∷ 0 ∷ []) }
    -- a file that is not in the table, and a parent that is not
    ∷ record { table = files; id = id_of 10 0; root = id_of 5 0; room = 100; reply = refuse ObjectPathNotFound }
    ∷ record { table = files; id = id_of 11 0; root = id_of 5 0; room = 100; reply = refuse ObjectPathNotFound }
    -- a root that is not above the file
    ∷ record { table = files; id = id_of 9 0; root = id_of 7 0; room = 100; reply = refuse ObjectPathNotFound }
    -- all sixteen bytes count: of the file's id, and of the root's
    ∷ record { table = files; id = id_of 9 1; root = id_of 5 0; room = 100; reply = refuse ObjectPathNotFound }
    ∷ record { table = files; id = id_of 9 0; root = id_of 5 1; room = 100; reply = refuse ObjectPathNotFound }
    -- two folders that are each other's parent; if one of them is the root, the other is below it
    ∷ record { table = files; id = id_of 12 0; root = id_of 5 0; room = 100; reply = refuse NameTooLong }
    ∷ record { table = files; id = id_of 13 0; root = id_of 5 0; room = 100; reply = refuse NameTooLong }
    ∷ record { table = files; id = id_of 12 0; root = id_of 13 0; room = 2; reply = give Success (0x62 ∷ 0 ∷ []) }
    -- an id twice, a row that is not whole: refused, for the root as well
    ∷ record { table = nine ++ (seven ++ nine); id = id_of 7 0; root = id_of 5 0; room = 100; reply = refuse FileCorruptError }
    ∷ record { table = nine ++ (seven ++ nine); id = id_of 5 0; root = id_of 5 0; room = 100; reply = refuse FileCorruptError }
    ∷ record { table = nine ++ (0 ∷ []); id = id_of 5 0; root = id_of 5 0; room = 100; reply = refuse FileCorruptError }
    -- no file at all
    ∷ record { table = []; id = id_of 5 0; root = id_of 5 0; room = 0; reply = give Success [] }
    ∷ record { table = []; id = id_of 9 0; root = id_of 5 0; room = 0; reply = refuse ObjectPathNotFound }
    ∷ []

pub examples-right : map (λ (e : Example). record { table = e.table; id = e.id; root = e.root; room = e.room; reply = path_reply e.table pool e.id e.root e.room }) examples ≡ examples
unfolding unle number_at good_unit good_units good_name good_in first_rows rows find good_row good_rows has_id distinct right_table upward joined path_reply
examples-right = refl

-- ---- the promise

-- the table is one of those that it speaks of
pub files-good : right_table pool files ≡ true
unfolding unle number_at good_unit good_units good_name good_in first_rows rows good_row good_rows has_id distinct right_table
files-good = refl

pub files-paths : Paths files pool
files-paths = answers.right files pool files-good

-- ---- the last step

-- file n without a name, and its parent
abbrev pub nameless : ℕ → ℕ → List ℕ
nameless n parent =
    n ∷ 0 ∷ 0 ∷ 0 ∷ 0 ∷ 0 ∷ 0 ∷ 0
    ∷ 0 ∷ 0 ∷ 0 ∷ 0 ∷ 0 ∷ 0 ∷ 0 ∷ 0
    ∷ parent ∷ 0 ∷ 0 ∷ 0 ∷ 0 ∷ 0 ∷ 0 ∷ 0
    ∷ 0 ∷ 0 ∷ 0 ∷ 0 ∷ 0 ∷ 0 ∷ 0 ∷ 0
    ∷ 0 ∷ 0 ∷ 0 ∷ 0 ∷ 0 ∷ 0 ∷ 0 ∷ 0
    ∷ 0 ∷ 0 ∷ 0 ∷ 0 ∷ 0 ∷ 0 ∷ 0 ∷ 0
    ∷ 0 ∷ 0 ∷ 0 ∷ 0 ∷ 0 ∷ 0 ∷ 0 ∷ 0 ∷ []

-- the files n, n - 1, .., 1, each below the next one, and the last below 0
abbrev pub line : ℕ → List ℕ
line zero = []
line (suc n) = nameless (suc n) n ++ line n

-- so many times the separator
abbrev pub between : ℕ → List ℕ
between zero = []
between (suc n) = 0x5C ∷ 0 ∷ between n

-- 64 steps lead to a path, 65 do not
pub deep : path_reply (line 65) [] (id_of 64 0) (id_of 0 0) 126 ≡ give Success (between 63)
unfolding unle number_at good_unit good_units good_name good_in first_rows rows find good_row good_rows has_id distinct right_table upward joined path_reply
deep = refl

pub too-deep : path_reply (line 65) [] (id_of 65 0) (id_of 0 0) 126 ≡ refuse NameTooLong
unfolding unle number_at good_unit good_units good_name good_in first_rows rows find good_row good_rows has_id distinct right_table upward joined path_reply
too-deep = refl
