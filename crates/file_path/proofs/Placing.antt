-- The way up over the places of a table, and how long its path is.
-- Assumes nothing.
use mathlib.Core.Path.{◌≡◌, refl, sym, ap, ◌∙◌, subst}
use mathlib.Core.Bool.{Bool, true, false, cond}
use mathlib.Core.List.{List, [], ◌∷◌, ◌++◌}
use Rattle.std.specs.Prelude.{Result, Ok, Err, Option, None, Some}
use Prim.Native.Nat.{ℕ, zero, suc, ◌+◌, ◌-◌, ◌*◌, ◌≤◌, ◌<◌, ◌%◌}
use native.Mathlib.Omega.{arith}
use lib.Arith.{lt_of_le-ne}
use lib.Dec.{eqb}
use lib.ListN.{length, take, drop, length-append, length-drop}
use lib.Seq.{length-take-le}
use Rattle.le.specs.Numbers.{number_at}
use Rattle.le.proofs.Runs.{and_left}
use Rattle.status.specs.declared.Status.{Status}
use Rattle.status.specs.declared.Status.TheVariants.{ObjectPathNotFound, NameTooLong}
use Rattle.names.specs.Names.{good_in}
use Rattle.names.proofs.Names.{short, in-fits, in-named}
use Rattle.file_ids.specs.Ids.{id_number}
use Rattle.file_table.specs.Table.{Row, rows, row_name, good_row, good_rows, right_table, find, Stands}
use Rattle.file_table.specs.Steps.{row_at}
use Rattle.file_table.proofs.Rows.{number-drop}
use Rattle.file_table.proofs.Places.{table-good, good-member, row-good, table-whole}
use Rattle.file_table.proofs.Finding.{found-row}
use Rattle.file_path.specs.Path.{Way, reached, stopped, below, upward, separator, joined}
use Rattle.file_path.specs.Steps.{extent_of, path_of}
use Rattle.file_path.proofs.Upward.{is_nil, joined-last, some-last, up_root, up-spent, up-lost, up_step, up-empty}

-- ---- a good row's name

row_named : (pool : List ℕ) (r : Row) → good_row pool r ≡ true → good_in pool r.place r.length ≡ true
unfolding good_row
row_named pool r g = and_left (good_in pool r.place r.length) _ g

module _ (pool : List ℕ) (r : Row) (g : good_row pool r ≡ true) where
  pub name-fits : r.place + r.length ≤ length pool
  name-fits = in-fits pool r.place r.length (row_named pool r g)

  pub name-length : length (row_name pool r) ≡ r.length
  name-length = length-take-le r.length (drop r.place pool) (omega (arith, length-drop r.place pool, name-fits))

  pub name-short : r.length ≤ 510
  name-short = omega (arith, name-length, short (row_name pool r) (in-named pool r.place r.length (row_named pool r g)))

-- the bytes of the pool that a row says are its name
module _ (pool table : List ℕ) (at : ℕ) (g : good_row pool (row_at table at) ≡ true) (from l : ℕ) (p : from ≡ number_at table (at + 48) 8) (q : l ≡ number_at table (at + 44) 4) where
  abbrev r : Row
  r = row_at table at

  from_is : from ≡ r.place
  from_is = p ∙ sym (number-drop table at 48 8)

  long-is : l ≡ r.length
  long-is = q ∙ sym (number-drop table at 44 4)

  pub run_fits : from + l ≤ length pool
  run_fits = omega (arith, from_is, long-is, name-fits pool r g)

  pub run-name : take (from + l - from) (drop from pool) ≡ row_name pool r
  run-name =
      let z : from + l - from ≡ r.length = omega (arith, long-is) in
      ap (λ (k : ℕ). take k (drop from pool)) z ∙ ap (λ (k : ℕ). take r.length (drop k pool)) from_is

  pub run_length : length (row_name pool r) ≡ l
  run_length = name-length pool r g ∙ sym long-is

-- ---- steps over places

module _ (pool table : List ℕ) (root : ℕ) where
  abbrev rs : List Row
  rs = rows table

  module _ (left id : ℕ) (e : eqb id root ≡ false) (n : left ≡ 0 → ⊥) where
    one_more : left ≡ suc (left - 1)
    one_more = let p : 0 < left = lt_of_le-ne (omega arith) (λ z. n (sym z)) in omega arith

    pub no_row : Stands id table None → upward pool rs root left id ≡ stopped ObjectPathNotFound
    no_row f = ap (λ (k : ℕ). upward pool rs root k id) one_more ∙ up-lost pool rs root id e (left - 1) f

    pub at_row : (at : ℕ) → Stands id table (Some at) → upward pool rs root left id ≡ below (row_name pool (row_at table at)) (upward pool rs root (left - 1) (id_number (row_at table at).parent))
    at_row at s = ap (λ (k : ℕ). upward pool rs root k id) one_more ∙ up_step pool rs root id e (left - 1) (row_at table at) s.0

-- a place of a table that is not its end is that of a good row
module _ (pool table : List ℕ) (g : right_table pool table ≡ true) (root at : ℕ) (h : at ≤ length table) (d : at % 56 ≡ 0) (o : at ≡ length table → ⊥) where
  pub there : at + 56 ≤ length table
  there = let l : at < length table = lt_of_le-ne h o in omega (arith, table-whole pool table g, d, l)

  pub there-good : good_row pool (row_at table at) ≡ true
  there-good = row-good table at d there pool (table-good pool table g)

-- where the row was found
pub stands : (table : List ℕ) (id : ℕ) (r : Option ℕ) (at : ℕ) → r ≡ Some at → Stands id table r → Stands id table (Some at)
stands table id r at e s = subst (Stands id table) e s

-- a row that was found is good
pub found-good : (pool table : List ℕ) → right_table pool table ≡ true → (id at : ℕ) → Stands id table (Some at) → good_row pool (row_at table at) ≡ true
found-good pool table g id at s = row-good table at s.2 s.1 pool (table-good pool table g)

-- ---- the length of a path

module _ (pool : List ℕ) (rs : List Row) (root : ℕ) where
  module _ (left id : ℕ) where
    pub extent-root : eqb id root ≡ true → Ok 0 ≡ extent_of (upward pool rs root left id)
    unfolding joined
    extent-root e = sym (ap extent_of (up_root pool rs root left id e))

    pub extent-spent : eqb id root ≡ false → left ≡ 0 → Err NameTooLong ≡ extent_of (upward pool rs root left id)
    extent-spent e z = sym (ap (λ (k : ℕ). extent_of (upward pool rs root k id)) z ∙ ap extent_of (up-spent pool rs root id e))

    -- the parent's extent is known
    module _ (x : Result ℕ Status) (k : x ≡ extent_of (upward pool rs root left id)) (name : List ℕ) where
      pub extent-refused : (s : Status) → x ≡ Err s → Err s ≡ extent_of (below name (upward pool rs root left id))
      extent-refused s e = by (upward pool rs root left id) (sym e ∙ k)
        where
          by : (w : Way) → Err s ≡ extent_of w → Err s ≡ extent_of (below name w)
          by (reached names) q = let z : ◌≡◌ {A = ℕ} 0 1 = cc in absurd (omega arith)
          by (stopped y) q = q

      module _ (n : ℕ) (e : x ≡ Ok n) where
        extent-is : (names : List (List ℕ)) → upward pool rs root left id ≡ reached names → n ≡ length (joined names)
        extent-is names q = let z : Ok n ≡ Ok (length (joined names)) = sym e ∙ k ∙ ap extent_of q in cc

        pub extent-below : (m : ℕ) → m ≡ n + length (cond (eqb id root) [] separator) + length name → Ok m ≡ extent_of (below name (upward pool rs root left id))
        extent-below m c = by (upward pool rs root left id) refl
          where
            by : (w : Way) → upward pool rs root left id ≡ w → Ok m ≡ extent_of (below name w)
            by (reached names) q =
                let b : Bool = eqb id root in
                let l : length (joined (names ++ (name ∷ []))) ≡ length (joined names) + (length (cond b [] separator) + length name) =
                ap length (joined-last names name ∙ ap (λ (b : Bool). joined names ++ (cond b [] separator ++ name)) (up-empty pool rs root left id names q))
                ∙ length-append (joined names) (cond b [] separator ++ name) ∙ ap (λ (j : ℕ). length (joined names) + j) (length-append (cond b [] separator) name) in
                ap Ok (omega (arith, c, l, extent-is names q))
            by (stopped y) q = let z : Ok n ≡ Err y = sym e ∙ k ∙ ap extent_of q in let o : ◌≡◌ {A = ℕ} 0 1 = cc in absurd (omega arith)

        pub extent-first : eqb id root ≡ true → Ok (length name) ≡ extent_of (below name (upward pool rs root left id))
        unfolding joined
        extent-first r =
            let z : n ≡ 0 = extent-is [] (up_root pool rs root left id r) in
            extent-below (length name) (omega (arith, z, ap (λ (b : Bool). length (cond b [] separator)) r))

        pub extent-more : eqb id root ≡ false → Ok (n + 2 + length name) ≡ extent_of (below name (upward pool rs root left id))
        extent-more r = extent-below (n + 2 + length name) (omega (arith, ap (λ (b : Bool). length (cond b [] separator)) r))

-- a path that is measured
pub extent-length : (pool : List ℕ) (rs : List Row) (root left id : ℕ) (x : Result ℕ Status) → x ≡ extent_of (upward pool rs root left id) → (n : ℕ) → x ≡ Ok n → n ≡ length (path_of (upward pool rs root left id))
extent-length pool rs root left id x k n e = by (upward pool rs root left id) (sym e ∙ k)
  where
    by : (w : Way) → Ok n ≡ extent_of w → n ≡ length (path_of w)
    by (reached names) q = cc
    by (stopped y) q = let o : ◌≡◌ {A = ℕ} 0 1 = cc in absurd (omega arith)

-- ---- its bound: names of at most 510 bytes, and two bytes between two

abbrev Room : ℕ → Way → Type 0
Room left (reached names) = length (joined names) + cond (is_nil names) 0 2 ≤ 512 * left
Room left (stopped x) = Unit {0}

length-gap : (b : Bool) → length (cond b [] separator) ≡ cond b 0 2
length-gap true = refl
length-gap false = refl

room-below : (left : ℕ) (name : List ℕ) → length name ≤ 510 → (w : Way) → Room left w → Room (suc left) (below name w)
room-below left name h (reached names) b =
    let l : length (joined (names ++ (name ∷ []))) ≡ length (joined names) + (length (cond (is_nil names) [] separator) + length name) =
    ap length (joined-last names name) ∙ length-append (joined names) (cond (is_nil names) [] separator ++ name)
    ∙ ap (λ (j : ℕ). length (joined names) + j) (length-append (cond (is_nil names) [] separator) name) in
    let m : ◌≡◌ {A = ℕ} (cond (is_nil (names ++ (name ∷ []))) 0 2) 2 = ap (λ (b : Bool). cond {A = ℕ} b 0 2) (some-last names name) in
    omega (arith, h, b, l, m, length-gap (is_nil names))
room-below left name h (stopped x) b = tt

module _ (pool : List ℕ) (rs : List Row) (root : ℕ) (g : good_rows pool rs ≡ true) where
  room-root : (left id : ℕ) → eqb id root ≡ true → Room left (upward pool rs root left id)
  unfolding joined is_nil
  room-root left id e = subst (Room left) (sym (up_root pool rs root left id e)) (omega arith)

  up_room : (left id : ℕ) → Room left (upward pool rs root left id)
  up_room zero id = by (eqb id root) refl
    where
      by : (b : Bool) → eqb id root ≡ b → Room 0 (upward pool rs root 0 id)
      by true e = room-root 0 id e
      by false e = subst (Room 0) (sym (up-spent pool rs root id e)) tt
  up_room (suc left) id = by (up_room left) (eqb id root) refl (find id rs) refl
    where
      by : ((id : ℕ) → Room left (upward pool rs root left id)) → (b : Bool) → eqb id root ≡ b → (o : Option Row) → find id rs ≡ o → Room (suc left) (upward pool rs root (suc left) id)
      by ih true e o f = room-root (suc left) id e
      by ih false e None f = subst (Room (suc left)) (sym (up-lost pool rs root id e left f)) tt
      by ih false e (Some r) f =
          let d = good-member pool rs g r (found-row id rs r f).0 in
          subst (Room (suc left)) (sym (up_step pool rs root id e left r f))
          (room-below left (row_name pool r) (omega (arith, name-length pool r d, name-short pool r d)) (upward pool rs root left (id_number r.parent)) (ih (id_number r.parent)))

  -- of 64 names
  pub path_room : (left id : ℕ) → length (path_of (upward pool rs root left id)) ≤ 512 * left - 2
  unfolding joined is_nil
  path_room left id = by (upward pool rs root left id) (up_room left id)
    where
      by : (w : Way) → Room left w → length (path_of w) ≤ 512 * left - 2
      by (stopped x) h = omega arith
      by (reached []) h = omega arith
      by (reached (n ∷ ns)) h = omega (arith, h)

-- ---- a step, once the parent's path is measured

module _ (pool table : List ℕ) (g : right_table pool table ≡ true) (root left id at : ℕ) (e : eqb id root ≡ false) (n : left ≡ 0 → ⊥) (s : Stands id table (Some at))
    (parent : ℕ) (p : parent ≡ id_number (row_at table at).parent) (x : Result ℕ Status) (k : x ≡ extent_of (upward pool (rows table) root (left - 1) parent)) where
  abbrev own : Row
  own = row_at table at

  good : good_row pool own ≡ true
  good = found-good pool table g id at s

  whole : upward pool (rows table) root left id ≡ below (row_name pool own) (upward pool (rows table) root (left - 1) parent)
  whole = at_row pool table root left id e n at s ∙ ap (λ (j : ℕ). below (row_name pool own) (upward pool (rows table) root (left - 1) j)) (sym p)

  pub measured-refused : (y : Status) → x ≡ Err y → Err y ≡ extent_of (upward pool (rows table) root left id)
  measured-refused y q = extent-refused pool (rows table) root (left - 1) parent x k (row_name pool own) y q ∙ ap extent_of (sym whole)

  module _ (m l : ℕ) (q : x ≡ Ok m) (z : l ≡ number_at table (at + 44) 4) where
    long : l ≡ length (row_name pool own)
    long = z ∙ sym (number-drop table at 44 4) ∙ sym (name-length pool own good)

    pub measured-first : eqb parent root ≡ true → Ok l ≡ extent_of (upward pool (rows table) root left id)
    measured-first r = ap Ok long ∙ extent-first pool (rows table) root (left - 1) parent x k (row_name pool own) m q r ∙ ap extent_of (sym whole)

    pub measured-more : eqb parent root ≡ false → Ok (m + 2 + l) ≡ extent_of (upward pool (rows table) root left id)
    measured-more r = ap (λ (j : ℕ). Ok (m + 2 + j)) long ∙ extent-more pool (rows table) root (left - 1) parent x k (row_name pool own) m q r ∙ ap extent_of (sym whole)

    pub measured-small : left ≤ 64 → m + 2 + l ≤ 33280
    measured-small h = omega (arith, h, long, name-length pool own good, name-short pool own good, extent-length pool (rows table) root (left - 1) parent x k m q, path_room pool (rows table) root (table-good pool table g) (left - 1) parent)
