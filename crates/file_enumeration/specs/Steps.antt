-- The enumeration as the code goes about it: from one file to the next.
use Rattle.std.specs.Prelude.{◌≡◌, true, cond, ℕ, suc, ◌+◌, ◌%◌, ◌≤◌, leb, ltb, length, drop, Result, Option, None, Some}
use mathlib.Core.List.{List, [], ◌∷◌, ◌++◌, Memᴰ}
use Rattle.status.specs.declared.Status.{Status}
use Rattle.status.specs.declared.Status.TheVariants.{BufferTooSmall}
use Rattle.status.specs.Check.{unless, granted}
use Rattle.usn_record.specs.declared.Version.{Version}
use Rattle.file_table.specs.Table.{Row, rows}
use Rattle.file_table.specs.Steps.{row_at, id_at}
use Rattle.file_enumeration.specs.declared.Query.{Query}
use Rattle.file_enumeration.specs.declared.Sent.{Sent}
use Rattle.file_enumeration.specs.Enumerate.{starting_at, selects, files_of, row_bytes, row_length, rows_bytes, Page}

-- the first file of a query stands at a place, and the others are those behind its id; or there is none
abbrev pub Leads : Query → List ℕ → Option ℕ → Type 0
Leads q table (Some at) =
    (files_of q table ≡ row_at table at ∷ files_of (starting_at q (suc (id_at table at))) table) × (at + 56 ≤ length table) × (at % 56 ≡ 0)
Leads q table None = files_of q table ≡ []

-- no file of a query stands before a place
abbrev pub Ahead : Query → List ℕ → ℕ → Type 0
Ahead q table at = (r : Row) → Memᴰ r (rows table) → selects q r ≡ true → Memᴰ r (rows (drop at table))

-- of the file at `best`, if one is there, and the row at `at`: where the file with the lower id stands
abbrev pub lower_of : Query → List ℕ → Option ℕ → ℕ → Option ℕ
lower_of q table None at = cond (selects q (row_at table at)) (Some at) None
lower_of q table (Some best) at = cond (selects q (row_at table at)) (cond (ltb (id_at table at) (id_at table best)) (Some at) (Some best)) (Some best)

-- what writing the record of a row answers and makes of `out`: the record, if it fits
abbrev pub given_bytes : Version → List ℕ → ℕ → Row → List ℕ
given_bytes v pool room r = cond (leb (row_length v pool r) room) (row_bytes v pool r) []

abbrev pub Gives : Version → List ℕ → Row → List ℕ → Result ℕ Status → List ℕ → Type 0
Gives v pool r out count last =
    let bytes = given_bytes v pool (length out) r in
    (count ≡ granted (unless (leb (row_length v pool r) (length out)) BufferTooSmall) (length bytes)) × (last ≡ bytes ++ drop (length bytes) out)

-- what writing a page answers and makes of `out`
abbrev pub Sends : Version → List ℕ → Page → List ℕ → Sent → List ℕ → Type 0
Sends v pool page out r last =
    (r ≡ record { next = page.next; count = length (rows_bytes v pool page.given) }) × (last ≡ rows_bytes v pool page.given ++ drop r.count out)
