-- Which reply a path is given: each answer against the chain of files that leads down to the file.
-- Assumes nothing.
use mathlib.Core.Path.{◌≡◌, refl, sym, ap, ◌∙◌, subst}
use mathlib.Core.Logic.{◌⊎◌, inl, inr}
use mathlib.Core.Bool.{Bool, true, false, cond}
use mathlib.Core.List.{List, [], ◌∷◌, ◌++◌, map, append-nil, append_assoc, Memᴰ}
use Rattle.std.specs.Prelude.{Option, None, Some}
use Prim.Native.Nat.{ℕ, zero, suc, ◌+◌, ◌-◌, ◌≤◌, ◌<◌}
use native.Mathlib.Omega.{arith}
use lib.Dec.{leb, eqb}
use lib.ListN.{length, length-append}
use borrow.Author.Tests.{leb-true, leb-false, le-leb, lt-leb, eqb-true, eqb-false, eq-eqb, ne_eqb}
use Rattle.status.specs.declared.Status.{Status}
use Rattle.status.specs.declared.Status.TheVariants.{Success, BufferTooSmall, ObjectPathNotFound, FileCorruptError, NameTooLong}
use Rattle.status.specs.Check.{unless}
use Rattle.status.specs.Reply.{Reply, refuse, give, guard}
use Rattle.file_ids.specs.Ids.{id_number}
use Rattle.file_table.specs.Table.{Row, rows, row_name, find, has_id, distinct, right_table}
use Rattle.file_table.proofs.Rising.{key, false-true, has-member, has-none}
use Rattle.file_table.proofs.Finding.{find_none, find-some, found-row}
use Rattle.file_table.proofs.Places.{table-good, table-distinct}
use Rattle.file_path.specs.Path.{Way, reached, stopped, below, upward, separator, joined, way_reply, way_of, path_reply}
use Rattle.file_path.specs.Chain.{Leads, chain_path, Found, Lost, Far, Ends, extended, Paths, Answers}
use Rattle.file_path.specs.Steps.{path_of}
use Rattle.file_path.proofs.Upward.{is_nil, joined-last, up_root, up-spent, up-lost, up_step, stopped-reached, up-empty}
use Rattle.file_path.proofs.Placing.{path_room}
use Rattle.file_path.proofs.Replying.{bad-reply, right-reply}

-- ---- joined names

-- of no names, nothing
no_names : [] ≡ joined []
unfolding joined
no_names = refl

-- a name behind others
joined-name : (names : List (List ℕ)) (name : List ℕ) → joined (names ++ (name ∷ [])) ≡ cond (is_nil names) name (joined names ++ (separator ++ name))
unfolding joined is_nil
joined-name [] name = refl
joined-name (x ∷ xs) name = joined-last (x ∷ xs) name

-- it takes no bytes away
joined-grows : (names : List (List ℕ)) (name : List ℕ) → length (joined names) ≤ length (joined (names ++ (name ∷ [])))
joined-grows names name =
    let more : List ℕ = cond (is_nil names) [] separator ++ name in
    let e : length (joined (names ++ (name ∷ []))) ≡ length (joined names) + length more = ap (λ (s : List ℕ). length s) (joined-last names name) ∙ length-append (joined names) more in
    omega arith

-- ---- rows by id

none-some : {A : Type 0} (r : Row) → None ≡ Some r → A
none-some r e = let z : ◌≡◌ {A = ℕ} 0 1 = cc in absurd (omega arith)

module _ (rs : List Row) (d : distinct rs ≡ true) (n : ℕ) where
  -- none is found: no row has the id
  lacks : find n rs ≡ None → has_id n rs ≡ false
  lacks e = has-none n rs (λ x m q. none-some x (sym e ∙ find-some n rs d x m q))

  -- no row has the id: none is found
  unfound : has_id n rs ≡ false → find n rs ≡ None
  unfound e = find_none n rs (λ x m q. false-true (sym e ∙ has-member n x rs m q))

-- ---- down a chain

-- the way to a chain's last file, from the way to the id above its first
abbrev under : List ℕ → List Row → Way → Way
under pool [] w = w
under pool (r ∷ chain) w = under pool chain (below (row_name pool r) w)

-- names there are, and the chain's behind them
under-reached : (pool : List ℕ) (chain : List Row) (names : List (List ℕ)) → under pool chain (reached names) ≡ reached (names ++ map (row_name pool) chain)
under-reached pool [] names = ap reached (sym (append-nil names))
under-reached pool (r ∷ chain) names =
    under-reached pool chain (names ++ (row_name pool r ∷ []))
    ∙ ap reached (append_assoc names (row_name pool r ∷ []) (map (row_name pool) chain))

-- no names there, and none here
under-stopped : (pool : List ℕ) (chain : List Row) (x : Status) → under pool chain (stopped x) ≡ stopped x
under-stopped pool [] x = refl
under-stopped pool (r ∷ chain) x = under-stopped pool chain x

module _ (pool : List ℕ) (rs : List Row) (d : distinct rs ≡ true) (root : ℕ) where
  -- up from the last file of a chain: a step for each file, and then on from the id above the first
  up-chain : (chain : List Row) (top last : ℕ) → Leads rs root top chain last → (n left : ℕ) → n ≡ length chain + left
      → upward pool rs root n last ≡ under pool chain (upward pool rs root left top)
  up-chain [] top last l n left e =
      let k : n ≡ left = omega arith in
      ap (λ (j : ℕ). upward pool rs root j last) k ∙ ap (upward pool rs root left) (sym l)
  up-chain (r ∷ chain) top last l n left e =
      let o : eqb (key r) root ≡ false = ne_eqb (key r) root l.2 in
      let f : find (key r) rs ≡ Some r = find-some (key r) rs d r l.0 refl in
      up-chain chain (key r) last l.3 n (suc left) (omega arith)
      ∙ ap (under pool chain) (up_step pool rs root (key r) o left r f ∙ ap (λ (j : ℕ). below (row_name pool r) (upward pool rs root left j)) l.1)

  module _ (chain : List Row) (top last n : ℕ) (l : Leads rs root top chain last) where
    -- from the root: the names of the chain
    up-reached : top ≡ root → length chain ≤ n → upward pool rs root n last ≡ reached (map (row_name pool) chain)
    up-reached e h =
        let left : ℕ = n - length chain in
        up-chain chain top last l n left (omega arith)
        ∙ ap (under pool chain) (up_root pool rs root left top (eq-eqb top root e))
        ∙ under-reached pool chain []

    -- from an id that is not in the table
    up-absent : (top ≡ root → ⊥) → has_id top rs ≡ false → length chain < n → upward pool rs root n last ≡ stopped ObjectPathNotFound
    up-absent o a h =
        let left : ℕ = n - suc (length chain) in
        up-chain chain top last l n (suc left) (omega arith)
        ∙ ap (under pool chain) (up-lost pool rs root top (ne_eqb top root o) left (unfound rs d top a))
        ∙ under-stopped pool chain ObjectPathNotFound

    -- as many files as there are steps
    up-far : (top ≡ root → ⊥) → length chain ≡ n → upward pool rs root n last ≡ stopped NameTooLong
    up-far o h =
        up-chain chain top last l n 0 (omega arith)
        ∙ ap (under pool chain) (up-spent pool rs root top (ne_eqb top root o))
        ∙ under-stopped pool chain NameTooLong

-- ---- one more step

-- a step more changes nothing, or the steps were spent
abbrev Settled : Way → Way → Type 0
Settled more w = (more ≡ w) ⊎ (w ≡ stopped NameTooLong)

-- of a file, as of its parent
settled-below : (name : List ℕ) (more w : Way) → Settled more w → Settled (below name more) (below name w)
settled-below name more w (inl e) = inl (ap (below name) e)
settled-below name more w (inr e) = inr (ap (below name) e)

module _ (pool : List ℕ) (rs : List Row) (root : ℕ) where
  -- of every id, so many steps left
  up_more : (left id : ℕ) → Settled (upward pool rs root (suc left) id) (upward pool rs root left id)
  up_more zero id = go (eqb id root) refl
    where
      go : (b : Bool) → eqb id root ≡ b → Settled (upward pool rs root 1 id) (upward pool rs root 0 id)
      go true e = inl (up_root pool rs root 1 id e ∙ sym (up_root pool rs root 0 id e))
      go false e = inr (up-spent pool rs root id e)
  up_more (suc left) id = go (eqb id root) (find id rs) refl refl (up_more left)
    where
      go : (b : Bool) (f : Option Row) → eqb id root ≡ b → find id rs ≡ f → ((i : ℕ) → Settled (upward pool rs root (suc left) i) (upward pool rs root left i))
          → Settled (upward pool rs root (suc (suc left)) id) (upward pool rs root (suc left) id)
      go true f e q ih = inl (up_root pool rs root (suc (suc left)) id e ∙ sym (up_root pool rs root (suc left) id e))
      go false None e q ih = inl (up-lost pool rs root id e (suc left) q ∙ sym (up-lost pool rs root id e left q))
      go false (Some r) e q ih =
          rw (up_step pool rs root id e (suc left) r q, up_step pool rs root id e left r q)
          (settled-below (row_name pool r) _ _ (ih (id_number r.parent)))

-- ---- every way has an end

module _ (table pool id root : List ℕ) where
  -- a chain leads from the id `top` down to the file
  abbrev Down : ℕ → List Row → Type 0
  Down top chain = Leads (rows table) (id_number root) top chain (id_number id)

  -- it ends at the root
  ends_found : (top : ℕ) (chain : List Row) → Down top chain → top ≡ id_number root → length chain ≤ 64 → Ends table pool id root
  ends_found top chain l e h = inl (chain_path pool chain, record { chain = chain; leads = subst (λ (t : ℕ). Down t chain) e l; steps = h; names = refl })

  -- a chain grows upward
  longer-chain : (top : ℕ) (chain : List Row) (r : Row) → Down top chain → (top ≡ id_number root → ⊥) → find top (rows table) ≡ Some r → Down (id_number r.parent) (r ∷ chain)
  longer-chain top chain r l o f =
      let t = found-row top (rows table) r f in
      (t.0, refl, (λ q. o (sym t.1 ∙ q)), subst (λ (n : ℕ). Down n chain) (sym t.1) l)

  module _ (d : distinct (rows table) ≡ true) where
    -- up from the top of a chain, with so many steps left
    climb : (left top : ℕ) (chain : List Row) → Down top chain → length chain + left ≡ 64 → Ends table pool id root
    climb zero top chain l n = go (eqb top (id_number root)) refl
      where
        go : (b : Bool) → eqb top (id_number root) ≡ b → Ends table pool id root
        go true e = ends_found top chain l (eqb-true top (id_number root) e) (omega arith)
        go false e = inr (inr (record { top = top; chain = chain; leads = l; steps = omega arith; other = eqb-false top (id_number root) e }))
    climb (suc left) top chain l n = go (eqb top (id_number root)) (find top (rows table)) refl refl (climb left)
      where
        go : (b : Bool) (f : Option Row) → eqb top (id_number root) ≡ b → find top (rows table) ≡ f
            → ((above : ℕ) (more : List Row) → Down above more → length more + left ≡ 64 → Ends table pool id root) → Ends table pool id root
        go true f e q ih = ends_found top chain l (eqb-true top (id_number root) e) (omega arith)
        go false None e q ih =
            inr (inl (record { top = top; chain = chain; leads = l; steps = omega arith; other = eqb-false top (id_number root) e; absent = lacks (rows table) d top q }))
        go false (Some r) e q ih = ih (id_number r.parent) (r ∷ chain) (longer-chain top chain r l (eqb-false top (id_number root) e) q) (omega arith)

    -- up from the file itself
    ends : Ends table pool id root
    ends = climb 64 (id_number id) [] refl (omega arith)

-- ---- the reply of a path

-- it fits, or it does not
abbrev fitted : List ℕ → ℕ → Reply
fitted path room = guard (unless (leb (length path) room) BufferTooSmall) (give Success path)

-- replies that are not one
give-refuse : {A : Type 0} (x y : Status) (bytes : List ℕ) → refuse x ≡ give y bytes → A
give-refuse x y bytes e = let z : ◌≡◌ {A = ℕ} 0 1 = cc in absurd (omega arith)

one-status : (x y : Status) → refuse x ≡ refuse y → x ≡ y
one-status x y e = cc

lost-small : {A : Type 0} → ObjectPathNotFound ≡ BufferTooSmall → A
lost-small e = let z : ◌≡◌ {A = ℕ} 0 1 = cc in absurd (omega arith)

far-small : {A : Type 0} → NameTooLong ≡ BufferTooSmall → A
far-small e = let z : ◌≡◌ {A = ℕ} 0 1 = cc in absurd (omega arith)

far-lost : {A : Type 0} → NameTooLong ≡ ObjectPathNotFound → A
far-lost e = let z : ◌≡◌ {A = ℕ} 0 1 = cc in absurd (omega arith)

module _ (path : List ℕ) (room : ℕ) where
  fits : length path ≤ room → fitted path room ≡ give Success path
  fits h = rw (le-leb (length path) room h)

  fits_not : room < length path → fitted path room ≡ refuse BufferTooSmall
  fits_not h = rw (lt-leb (length path) room h)

  -- what the reply tells
  was-given : (bytes : List ℕ) → fitted path room ≡ give Success bytes → (path ≡ bytes) × (length path ≤ room)
  was-given bytes e = go (leb (length path) room) refl e
    where
      go : (b : Bool) → leb (length path) room ≡ b → guard (unless b BufferTooSmall) (give Success path) ≡ give Success bytes → (path ≡ bytes) × (length path ≤ room)
      go true q e = (cc, leb-true (length path) room q)
      go false q e = give-refuse BufferTooSmall Success bytes e

  was-refused : (x : Status) → fitted path room ≡ refuse x → (x ≡ BufferTooSmall) × (room < length path)
  was-refused x e = go (leb (length path) room) refl e
    where
      go : (b : Bool) → leb (length path) room ≡ b → guard (unless b BufferTooSmall) (give Success path) ≡ refuse x → (x ≡ BufferTooSmall) × (room < length path)
      go true q e = give-refuse x Success path (sym e)
      go false q e = (cc, leb-false (length path) room q)

-- ---- each answer

module _ (table pool : List ℕ) (g : right_table pool table ≡ true) where
  module _ (id root : List ℕ) (room : ℕ) where
    -- the reply from each end
    found-reply : (bytes : List ℕ) → Found table pool id root bytes → path_reply table pool id root room ≡ fitted bytes room
    found-reply bytes f =
        right-reply table pool id root room g
        ∙ ap (λ (w : Way). way_reply w room) (up-reached pool (rows table) (table-distinct pool table g) (id_number root) f.chain (id_number root) (id_number id) 64 f.leads refl f.steps)
        ∙ ap (λ (s : List ℕ). fitted s room) (sym f.names)

    lost-reply : Lost table pool id root → path_reply table pool id root room ≡ refuse ObjectPathNotFound
    lost-reply f =
        right-reply table pool id root room g
        ∙ ap (λ (w : Way). way_reply w room)
        (up-absent pool (rows table) (table-distinct pool table g) (id_number root) f.chain f.top (id_number id) 64 f.leads f.other f.absent f.steps)

    far-reply : Far table pool id root → path_reply table pool id root room ≡ refuse NameTooLong
    far-reply f =
        right-reply table pool id root room g
        ∙ ap (λ (w : Way). way_reply w room) (up-far pool (rows table) (table-distinct pool table g) (id_number root) f.chain f.top (id_number id) 64 f.leads f.other f.steps)

    -- what each reply tells
    told-given : (bytes : List ℕ) → Ends table pool id root → path_reply table pool id root room ≡ give Success bytes → Found table pool id root bytes × (length bytes ≤ room)
    told-given bytes (inl f) e =
        let t = was-given f.0 room bytes (sym (found-reply f.0 f.1) ∙ e) in
        subst (λ (s : List ℕ). Found table pool id root s × (length s ≤ room)) t.0 (f.1, t.1)
    told-given bytes (inr (inl f)) e = give-refuse ObjectPathNotFound Success bytes (sym (lost-reply f) ∙ e)
    told-given bytes (inr (inr f)) e = give-refuse NameTooLong Success bytes (sym (far-reply f) ∙ e)

    told-small : Ends table pool id root → path_reply table pool id root room ≡ refuse BufferTooSmall → (bytes : List ℕ) × Found table pool id root bytes × (room < length bytes)
    told-small (inl f) e = (f.0, f.1, (was-refused f.0 room BufferTooSmall (sym (found-reply f.0 f.1) ∙ e)).1)
    told-small (inr (inl f)) e = lost-small (one-status ObjectPathNotFound BufferTooSmall (sym (lost-reply f) ∙ e))
    told-small (inr (inr f)) e = far-small (one-status NameTooLong BufferTooSmall (sym (far-reply f) ∙ e))

    told-lost : Ends table pool id root → path_reply table pool id root room ≡ refuse ObjectPathNotFound → Lost table pool id root
    told-lost (inl f) e = lost-small (was-refused f.0 room ObjectPathNotFound (sym (found-reply f.0 f.1) ∙ e)).0
    told-lost (inr (inl f)) e = f
    told-lost (inr (inr f)) e = far-lost (one-status NameTooLong ObjectPathNotFound (sym (far-reply f) ∙ e))

    told-far : Ends table pool id root → path_reply table pool id root room ≡ refuse NameTooLong → Far table pool id root
    told-far (inl f) e = far-small (was-refused f.0 room NameTooLong (sym (found-reply f.0 f.1) ∙ e)).0
    told-far (inr (inl f)) e = far-lost (one-status NameTooLong ObjectPathNotFound (sym e ∙ lost-reply f))
    told-far (inr (inr f)) e = f

  -- ---- a file and its parent

  module _ (r : Row) (root : List ℕ) (room : ℕ) (m : Memᴰ r (rows table)) (o : id_number r.id ≡ id_number root → ⊥) where
    -- the parent's way with one step fewer
    abbrev above_way : Way
    above_way = upward pool (rows table) (id_number root) 63 (id_number r.parent)

    -- the parent's own has one more
    parent-way : Settled (way_of table pool r.parent root) above_way
    parent-way = up_more pool (rows table) (id_number root) 63 (id_number r.parent)

    -- the file's way is a step and that
    own-way : way_of table pool r.id root ≡ below (row_name pool r) above_way
    own-way =
        up_step pool (rows table) (id_number root) (key r) (ne_eqb (key r) (id_number root) o) 63 r
        (find-some (key r) (rows table) (table-distinct pool table g) r m refl)

    own-reply : (w : Way) → above_way ≡ w → path_reply table pool r.id root room ≡ way_reply (below (row_name pool r) w) room
    own-reply w e = right-reply table pool r.id root room g ∙ ap (λ (v : Way). way_reply v room) (own-way ∙ ap (below (row_name pool r)) e)

    -- where the parent's way has names, they are its path's
    parent-reply : (names : List (List ℕ)) → above_way ≡ reached names → path_reply table pool r.parent root room ≡ fitted (joined names) room
    parent-reply names e = right-reply table pool r.parent root room g ∙ ap (λ (v : Way). way_reply v room) (go parent-way)
      where
        go : Settled (way_of table pool r.parent root) above_way → way_of table pool r.parent root ≡ reached names
        go (inl q) = q ∙ e
        go (inr q) = stopped-reached NameTooLong names (sym q ∙ e)

    -- the file's path from its parent's
    extends : (names : List (List ℕ)) → above_way ≡ reached names → joined (names ++ (row_name pool r ∷ [])) ≡ extended pool root r (joined names)
    extends names e =
        joined-name names (row_name pool r)
        ∙ ap (λ (b : Bool). cond b (row_name pool r) (joined names ++ (separator ++ row_name pool r))) (up-empty pool (rows table) (id_number root) 63 (id_number r.parent) names e)

    -- from the file's reply to its parent's
    told-shorter : (own : List ℕ) (w : Way) → above_way ≡ w → path_reply table pool r.id root room ≡ give Success own
        → (parent : List ℕ) × (path_reply table pool r.parent root room ≡ give Success parent) × (own ≡ extended pool root r parent)
    told-shorter own (reached names) e q =
        let name : List ℕ = row_name pool r in
        let t = was-given (joined (names ++ (name ∷ []))) room own (sym (own-reply (reached names) e) ∙ q) in
        let h : length (joined names) ≤ length (joined (names ++ (name ∷ []))) = joined-grows names name in
        (joined names, parent-reply names e ∙ fits (joined names) room (omega (arith, h, t.1)), sym t.0 ∙ extends names e)
    told-shorter own (stopped x) e q = give-refuse x Success own (sym (own-reply (stopped x) e) ∙ q)

    -- from the parent's reply to the file's
    told-longer : (parent : List ℕ) (w : Way) → above_way ≡ w → path_reply table pool r.parent root room ≡ give Success parent
        → (path_reply table pool r.id root room ≡ refuse NameTooLong → ⊥)
        → length (extended pool root r parent) ≤ room
        → path_reply table pool r.id root room ≡ give Success (extended pool root r parent)
    told-longer parent (reached names) e q n h =
        let t = was-given (joined names) room parent (sym (parent-reply names e) ∙ q) in
        let x : joined (names ++ (row_name pool r ∷ [])) ≡ extended pool root r parent = extends names e ∙ ap (extended pool root r) t.0 in
        own-reply (reached names) e ∙ ap (λ (s : List ℕ). fitted s room) x ∙ fits (extended pool root r parent) room h
    told-longer parent (stopped x) e q n h = go parent-way
      where
        go : Settled (way_of table pool r.parent root) above_way → path_reply table pool r.id root room ≡ give Success (extended pool root r parent)
        go (inl p) = give-refuse x Success parent (sym (right-reply table pool r.parent root room g ∙ ap (λ (v : Way). way_reply v room) (p ∙ e)) ∙ q)
        go (inr p) = absurd (n (own-reply (stopped NameTooLong) p))

  -- ---- room for any path

  -- so no path is longer than 64 names and 63 separators
  small-none : (id root : List ℕ) (room : ℕ) → 32766 ≤ room → ((bytes : List ℕ) × Found table pool id root bytes × (room < length bytes)) → ⊥
  small-none id root room h t =
      let f : Found table pool id root t.0 = t.1 in
      let w : way_of table pool id root ≡ reached (map (row_name pool) f.chain) =
      up-reached pool (rows table) (table-distinct pool table g) (id_number root) f.chain (id_number root) (id_number id) 64 f.leads refl f.steps in
      let e : length t.0 ≡ length (path_of (way_of table pool id root)) = ap (λ (s : List ℕ). length s) f.names ∙ sym (ap (λ (w : Way). length (path_of w)) w) in
      omega (arith, h, t.2, e, path_room pool (rows table) (id_number root) (table-good pool table g) 64 (id_number id))

-- ---- the promise

-- no way ends in FILE_CORRUPT_ERROR
uncorrupt : (table pool id root : List ℕ) (room : ℕ) (g : right_table pool table ≡ true) → Ends table pool id root → path_reply table pool id root room ≡ refuse FileCorruptError → ⊥
uncorrupt table pool id root room g (inl f) e = let z = (was-refused f.0 room FileCorruptError (sym (found-reply table pool g id root room f.0 f.1) ∙ e)).0 in let o : ◌≡◌ {A = ℕ} 0 1 = cc in omega arith
uncorrupt table pool id root room g (inr (inl f)) e = let z = one-status ObjectPathNotFound FileCorruptError (sym (lost-reply table pool g id root room f) ∙ e) in let o : ◌≡◌ {A = ℕ} 0 1 = cc in omega arith
uncorrupt table pool id root room g (inr (inr f)) e = let z = one-status NameTooLong FileCorruptError (sym (far-reply table pool g id root room f) ∙ e) in let o : ◌≡◌ {A = ℕ} 0 1 = cc in omega arith

paths : (table pool : List ℕ) → right_table pool table ≡ true → Paths table pool
paths table pool g =
    record {
      given = λ id root room bytes. (told-given table pool g id root room bytes (all id root), λ t. found-reply table pool g id root room bytes t.0 ∙ fits bytes room t.1);
      small = λ id root room. (told-small table pool g id root room (all id root), λ t. found-reply table pool g id root room t.0 t.1 ∙ fits_not t.0 room t.2);
      lost = λ id root room. (told-lost table pool g id root room (all id root), lost-reply table pool g id root room);
      far = λ id root room. (told-far table pool g id root room (all id root), far-reply table pool g id root room);
      ends = all;
      empty = λ id root room e. found-reply table pool g id root room [] (record { chain = []; leads = sym e; steps = omega arith; names = no_names }) ∙ fits [] room (omega arith);
      shorter = λ r root room own m o. told-shorter table pool g r root room m o own (above_way table pool g r root room m o) refl;
      longer = λ r root room parent m o. told-longer table pool g r root room m o parent (above_way table pool g r root room m o) refl;
      roomy = λ id root room h e. small-none table pool g id root room h (told-small table pool g id root room (all id root) e);
    }
  where
    all : (id root : List ℕ) → Ends table pool id root
    all id root = ends table pool id root (table-distinct pool table g)

pub answers : Answers
answers = record { refused = λ table pool id root room. (told table pool id root room (right_table pool table) refl, bad-reply table pool id root room); right = paths }
  where
    told : (table pool id root : List ℕ) (room : ℕ) (b : Bool) → right_table pool table ≡ b → path_reply table pool id root room ≡ refuse FileCorruptError → b ≡ false
    told table pool id root room true g e = absurd (uncorrupt table pool id root room g (ends table pool id root (table-distinct pool table g)) e)
    told table pool id root room false g e = refl
