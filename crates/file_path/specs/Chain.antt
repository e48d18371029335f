-- Which path a file has: the names of a chain of files from the root down to it, each the parent of the next.
use Rattle.std.specs.Prelude.{◌≡◌, ◌↔◌, ◌⊎◌, true, false, cond, ℕ, ◌≤◌, ◌<◌, eqb, length}
use mathlib.Core.List.{List, [], ◌∷◌, ◌++◌, map, Memᴰ}
use Rattle.status.specs.declared.Status.TheVariants.{Success, BufferTooSmall, ObjectPathNotFound, FileCorruptError, NameTooLong}
use Rattle.status.specs.Reply.{refuse, give}
use Rattle.file_ids.specs.Ids.{id_number}
use Rattle.file_table.specs.Table.{Row, rows, row_name, right_table, has_id}
use Rattle.file_path.specs.Path.{separator, joined, path_reply}

-- ---- chains

-- files lead from the id `top` down to the id `last`: `top` is the parent of the first, each is the parent of the next, and the last one's id
-- is `last`; each of them is in the table, and none is the root
abbrev pub Leads : List Row → ℕ → ℕ → List Row → ℕ → Type 0
Leads rs root top [] last = top ≡ last
Leads rs root top (r ∷ chain) last =
    Memᴰ r rs × (id_number r.parent ≡ top) × (id_number r.id ≡ root → ⊥) × Leads rs root (id_number r.id) chain last

-- their names, joined
abbrev pub chain_path : List ℕ → List Row → List ℕ
chain_path pool chain = joined (map (row_name pool) chain)

-- ---- what each answer means

module _ (table pool id root : List ℕ) where
  -- 64 files or fewer lead from the root down to the file, and these bytes are their names, joined
  pub record Found (bytes : List ℕ) : Type 0 where
    pub chain : List Row
    pub leads : Leads (rows table) (id_number root) (id_number root) chain (id_number id)
    pub steps : length chain ≤ 64
    pub names : bytes ≡ chain_path pool chain

  -- fewer than 64 lead down to it from an id that is neither the root nor in the table
  pub record Lost : Type 0 where
    pub top : ℕ
    pub chain : List Row
    pub leads : Leads (rows table) (id_number root) top chain (id_number id)
    pub steps : length chain < 64
    pub other : top ≡ id_number root → ⊥
    pub absent : has_id top (rows table) ≡ false

  -- 64 lead down to it from an id that is not the root
  pub record Far : Type 0 where
    pub top : ℕ
    pub chain : List Row
    pub leads : Leads (rows table) (id_number root) top chain (id_number id)
    pub steps : length chain ≡ 64
    pub other : top ≡ id_number root → ⊥

  -- one of the three
  abbrev pub Ends : Type 0
  Ends = ((bytes : List ℕ) × Found bytes) ⊎ (Lost ⊎ Far)

-- ---- the promise

-- a file's path from its parent's: below the root it is the file's name
abbrev pub extended : List ℕ → List ℕ → Row → List ℕ → List ℕ
extended pool root r parent = cond (eqb (id_number r.parent) (id_number root)) (row_name pool r) (parent ++ (separator ++ row_name pool r))

-- of a table that is right, whatever other files are in it
pub record Paths (table pool : List ℕ) : Type 0 where
  -- each answer is given exactly where it should be, and there is no other
  pub given : (id root : List ℕ) (room : ℕ) (bytes : List ℕ) → (path_reply table pool id root room ≡ give Success bytes) ↔ (Found table pool id root bytes × (length bytes ≤ room))
  pub small : (id root : List ℕ) (room : ℕ) → (path_reply table pool id root room ≡ refuse BufferTooSmall) ↔ ((bytes : List ℕ) × Found table pool id root bytes × (room < length bytes))
  pub lost : (id root : List ℕ) (room : ℕ) → (path_reply table pool id root room ≡ refuse ObjectPathNotFound) ↔ Lost table pool id root
  pub far : (id root : List ℕ) (room : ℕ) → (path_reply table pool id root room ≡ refuse NameTooLong) ↔ Far table pool id root
  pub ends : (id root : List ℕ) → Ends table pool id root
  -- the root's path is empty
  pub empty : (id root : List ℕ) (room : ℕ) → id_number id ≡ id_number root → path_reply table pool id root room ≡ give Success []
  -- a file's path is its parent's with its name behind it, unless that is a 65th step
  pub shorter : (r : Row) (root : List ℕ) (room : ℕ) (own : List ℕ) → Memᴰ r (rows table) → (id_number r.id ≡ id_number root → ⊥) → path_reply table pool r.id root room ≡ give Success own
      → (parent : List ℕ) × (path_reply table pool r.parent root room ≡ give Success parent) × (own ≡ extended pool root r parent)
  pub longer : (r : Row) (root : List ℕ) (room : ℕ) (parent : List ℕ) → Memᴰ r (rows table) → (id_number r.id ≡ id_number root → ⊥) → path_reply table pool r.parent root room ≡ give Success parent
      → (path_reply table pool r.id root room ≡ refuse NameTooLong → ⊥)
      → length (extended pool root r parent) ≤ room
      → path_reply table pool r.id root room ≡ give Success (extended pool root r parent)
  -- 32,766 bytes have room for any path
  pub roomy : (id root : List ℕ) (room : ℕ) → 32766 ≤ room → path_reply table pool id root room ≡ refuse BufferTooSmall → ⊥

pub record Answers : Type 0 where
  -- a table that is not right is refused, and no other
  pub refused : (table pool id root : List ℕ) (room : ℕ) → (path_reply table pool id root room ≡ refuse FileCorruptError) ↔ (right_table pool table ≡ false)
  pub right : (table pool : List ℕ) → right_table pool table ≡ true → Paths table pool
