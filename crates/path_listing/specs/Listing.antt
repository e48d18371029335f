-- The line of a file: its id, and its path below a root as text, or why it has none.
use Rattle.std.specs.Prelude.{cond, List, [], ◌∷◌, ◌++◌, ℕ, ◌/◌, ◌%◌, ◌^◌, eqb}
use Rattle.status.specs.declared.Status.{Status}
use Rattle.status.specs.declared.Status.TheVariants.{NameTooLong}
use Rattle.status.specs.Number.{number}
use Rattle.hex_text.specs.Hex.{hex_word}
use Rattle.file_ids.specs.Ids.{id_number}
use Rattle.file_table.specs.Table.{Row}
use Rattle.file_path.specs.Path.{Way, reached, stopped, joined, upward}
use Rattle.path_listing.specs.Text.{text}

-- an id of this number in 32 digits, the highest first
unfoldable pub id_text : ℕ → List ℕ
id_text n = hex_word (n / 2 ^ 96) ++ (hex_word (n / 2 ^ 64 % 2 ^ 32) ++ (hex_word (n / 2 ^ 32 % 2 ^ 32) ++ hex_word (n % 2 ^ 32)))

-- "<root>", "<more than 64 steps>" and "<no parent>": no text of a path has a '<' but in an escape, of four digits
abbrev pub root_text : List ℕ
root_text = 60 ∷ 114 ∷ 111 ∷ 111 ∷ 116 ∷ 62 ∷ []

abbrev pub far_text : List ℕ
far_text = 60 ∷ 109 ∷ 111 ∷ 114 ∷ 101 ∷ 32 ∷ 116 ∷ 104 ∷ 97 ∷ 110 ∷ 32 ∷ 54 ∷ 52 ∷ 32 ∷ 115 ∷ 116 ∷ 101 ∷ 112 ∷ 115 ∷ 62 ∷ []

abbrev pub lost_text : List ℕ
lost_text = 60 ∷ 110 ∷ 111 ∷ 32 ∷ 112 ∷ 97 ∷ 114 ∷ 101 ∷ 110 ∷ 116 ∷ 62 ∷ []

-- why a file has no path: the root is too far up, or else a parent is missing
abbrev pub stop_text : Status → List ℕ
stop_text x = cond (eqb (number x) (number NameTooLong)) far_text lost_text

-- what is shown of a file: its path, or why it has none
abbrev pub way_text : Way → List ℕ
way_text (reached []) = root_text
way_text (reached (name ∷ names)) = text (joined (name ∷ names))
way_text (stopped x) = stop_text x

-- the line of a row: id, space, path, LF
unfoldable pub path_line : List ℕ → List Row → ℕ → Row → List ℕ
path_line pool rs root r = id_text (id_number r.id) ++ (32 ∷ (way_text (upward pool rs root 64 (id_number r.id)) ++ (10 ∷ [])))
