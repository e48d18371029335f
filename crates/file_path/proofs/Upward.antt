-- The way up, step by step, and what a step adds to the path.
-- Assumes nothing.
use mathlib.Core.Path.{◌≡◌, refl, sym, ap, ◌∙◌}
use mathlib.Core.Bool.{Bool, true, false, cond}
use mathlib.Core.List.{List, [], ◌∷◌, ◌++◌, append_assoc}
use Rattle.std.specs.Prelude.{Option, None, Some}
use Prim.Native.Nat.{ℕ, zero, suc}
use native.Mathlib.Omega.{arith}
use lib.Dec.{eqb}
use Rattle.status.specs.declared.Status.{Status}
use Rattle.status.specs.declared.Status.TheVariants.{ObjectPathNotFound, NameTooLong}
use Rattle.file_ids.specs.Ids.{id_number}
use Rattle.file_table.specs.Table.{Row, row_name, find}
use Rattle.file_path.specs.Path.{Way, reached, stopped, below, upward, separator, joined}
use Rattle.file_path.specs.Steps.{is_reached, path_of}

-- ---- joined names

-- a name behind others
unfoldable pub is_nil : List (List ℕ) → Bool
is_nil [] = true
is_nil (name ∷ names) = false

pub joined-last : (names : List (List ℕ)) (name : List ℕ) → joined (names ++ (name ∷ [])) ≡ joined names ++ (cond (is_nil names) [] separator ++ name)
unfolding joined is_nil
joined-last [] name = refl
joined-last (x ∷ []) name = refl
joined-last (x ∷ y ∷ ys) name =
    let r : List ℕ = joined (y ∷ ys) in
    ap (λ (l : List ℕ). x ++ (separator ++ l)) (joined-last (y ∷ ys) name)
    ∙ ap (λ (l : List ℕ). x ++ l) (sym (append_assoc separator r (separator ++ name)))
    ∙ sym (append_assoc x (separator ++ r) (separator ++ name))

-- ---- one step

module _ (pool : List ℕ) (rs : List Row) (root : ℕ) where
  pub up_root : (left id : ℕ) → eqb id root ≡ true → upward pool rs root left id ≡ reached []
  unfolding upward
  up_root zero id e = rw e
  up_root (suc left) id e = rw e

  module _ (id : ℕ) (e : eqb id root ≡ false) where
    pub up-spent : upward pool rs root 0 id ≡ stopped NameTooLong
    unfolding upward
    up-spent = rw e

    module _ (left : ℕ) where
      pub up-lost : find id rs ≡ None → upward pool rs root (suc left) id ≡ stopped ObjectPathNotFound
      unfolding upward
      up-lost f = rw (e, f)

      pub up_step : (r : Row) → find id rs ≡ Some r → upward pool rs root (suc left) id ≡ below (row_name pool r) (upward pool rs root left (id_number r.parent))
      unfolding upward
      up_step r f = rw (e, f)

-- ---- the names on the way

same_names : {xs ys : List (List ℕ)} → reached xs ≡ reached ys → xs ≡ ys
same_names e = cc

pub stopped-reached : {A : Type 0} (x : Status) (names : List (List ℕ)) → stopped x ≡ reached names → A
stopped-reached x names e = let z : ◌≡◌ {A = ℕ} 0 1 = cc in absurd (omega arith)

pub some-last : (names : List (List ℕ)) (name : List ℕ) → is_nil (names ++ (name ∷ [])) ≡ false
unfolding is_nil
some-last [] name = refl
some-last (x ∷ xs) name = refl

-- a file has one at least
below-some : (name : List ℕ) (w : Way) (names : List (List ℕ)) → below name w ≡ reached names → is_nil names ≡ false
below-some name (reached ns) names e = ap is_nil (sym (same_names e)) ∙ some-last ns name
below-some name (stopped x) names e = stopped-reached x names e

module _ (pool : List ℕ) (rs : List Row) (root : ℕ) where
  -- there are none at the root, and only there
  pub up-empty : (left id : ℕ) (names : List (List ℕ)) → upward pool rs root left id ≡ reached names → is_nil names ≡ eqb id root
  unfolding is_nil
  up-empty left id names e = at-root (eqb id root) refl left e
    where
      from : (left : ℕ) → eqb id root ≡ false → (o : Option Row) → find id rs ≡ o → upward pool rs root (suc left) id ≡ reached names → is_nil names ≡ false
      from left b None f e = stopped-reached ObjectPathNotFound names (sym (up-lost pool rs root id b left f) ∙ e)
      from left b (Some r) f e = below-some (row_name pool r) (upward pool rs root left (id_number r.parent)) names (sym (up_step pool rs root id b left r f) ∙ e)

      at-root : (b : Bool) → eqb id root ≡ b → (left : ℕ) → upward pool rs root left id ≡ reached names → is_nil names ≡ b
      at-root true b left e = ap is_nil (sym (same_names (sym (up_root pool rs root left id b) ∙ e)))
      at-root false b zero e = stopped-reached NameTooLong names (sym (up-spent pool rs root id b) ∙ e)
      at-root false b (suc left) e = from left b (find id rs) refl e

  -- what a name adds to its parent's path, if that has one
  module _ (left id : ℕ) (name : List ℕ) where
    abbrev w : Way
    w = upward pool rs root left id

    pub below-path : is_reached w ≡ true → path_of (below name w) ≡ path_of w ++ (cond (eqb id root) [] separator ++ name)
    below-path h = by w refl h
      where
        by : (v : Way) → w ≡ v → is_reached v ≡ true → path_of (below name v) ≡ path_of v ++ (cond (eqb id root) [] separator ++ name)
        by (reached names) e h = joined-last names name ∙ ap (λ (b : Bool). joined names ++ (cond b [] separator ++ name)) (up-empty left id names e)
        by (stopped x) e h = let z : ◌≡◌ {A = ℕ} 0 1 = cc in absurd (omega arith)

    pub below-reached : is_reached (below name w) ≡ is_reached w
    below-reached = by w
      where
        by : (v : Way) → is_reached (below name v) ≡ is_reached v
        by (reached names) = refl
        by (stopped x) = refl
