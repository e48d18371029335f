-- The first file of a query: where it stands in a table.
-- Assumes nothing.
use mathlib.Core.Path.{◌≡◌, refl, sym, ap, ◌∙◌, subst}
use mathlib.Core.Logic.{◌⊎◌, inl, inr}
use mathlib.Core.Bool.{Bool, true, false, cond}
use mathlib.Core.List.Memᴰ
use mathlib.Core.List.{List, [], ◌∷◌, ◌++◌, Memᴰ}
use Rattle.std.specs.Prelude.{Option, None, Some, IfSome}
use Prim.Native.Nat.{ℕ, suc, ◌+◌, ◌%◌, ◌≤◌, ◌<◌}
use native.Mathlib.Omega.{arith}
use lib.Dec.{ltb}
use lib.ListN.{length, drop}
use borrow.Author.Tests.{ltb-true, ltb-false}
use Rattle.file_ids.specs.Ids.{id_number}
use Rattle.file_table.specs.Table.{Row, rows, distinct, rising}
use Rattle.file_table.specs.Steps.{row_at, id_at}
use Rattle.file_table.proofs.Rows.{rows_end, rows_next}
use Rattle.file_table.proofs.Rising.{false-true, rising-rest, rising-below, rising-distinct}
use Rattle.file_table.proofs.Places.{row-split, row-member}
use Rattle.file_enumeration.specs.declared.Query.{Query}
use Rattle.file_enumeration.specs.Enumerate.{selects, starting_at}
use Rattle.file_enumeration.specs.Steps.{Leads, Ahead, lower_of}
use Rattle.file_enumeration.proofs.Ordering.{selects-start, least_first, none_first}

-- ---- by what is found

module _ (q : Query) (table : List ℕ) where
  -- nothing is selected
  pub leads-none : ((r : Row) → Memᴰ r (rows table) → selects q r ≡ true → ⊥) → Leads q table None
  leads-none n = none_first q (rows table) n

  -- the row at a place is selected, and no selected row is below it
  pub leads-at : (at : ℕ) → distinct (rows table) ≡ true → at + 56 ≤ length table → at % 56 ≡ 0 → selects q (row_at table at) ≡ true
      → ((r : Row) → Memᴰ r (rows table) → selects q r ≡ true → id_at table at ≤ id_number r.id) → Leads q table (Some at)
  leads-at at d h m s l = (least_first q (rows table) (row_at table at) d (row-member table at m h) s l, h, m)

-- ---- a table in rising order

rising_part : (before rs : List Row) → rising (before ++ rs) ≡ true → rising rs ≡ true
rising_part [] rs e = e
rising_part (x ∷ before) rs e = rising_part before rs (rising-rest x (before ++ rs) e)

-- a row with a higher id than one stands behind that
higher-behind : (before : List Row) (y : Row) (rs : List Row) (x : Row) → rising (before ++ y ∷ rs) ≡ true → Memᴰ x (before ++ y ∷ rs) → id_number y.id < id_number x.id → Memᴰ x rs
higher-behind [] y rs x e m h = go (Memᴰ.cases_cons m)
  where
    go : (x ≡ y) ⊎ Memᴰ x rs → Memᴰ x rs
    go (inl p) = let k : id_number x.id ≡ id_number y.id = ap (λ (r : Row). id_number r.id) p in absurd (omega (arith, k, h))
    go (inr p) = p
higher-behind (z ∷ before) y rs x e m h = go (Memᴰ.cases_cons m) (higher-behind before y rs x (rising-rest z (before ++ y ∷ rs) e))
  where
    within : (l : List Row) → Memᴰ y (l ++ y ∷ rs)
    within [] = Memᴰ.head refl
    within (w ∷ l) = Memᴰ.tail (within l)

    go : (x ≡ z) ⊎ Memᴰ x (before ++ y ∷ rs) → (Memᴰ x (before ++ y ∷ rs) → id_number y.id < id_number x.id → Memᴰ x rs) → Memᴰ x rs
    go (inl p) ih =
        let k : id_number x.id ≡ id_number z.id = ap (λ (r : Row). id_number r.id) p in
        absurd (omega (arith, k, h, rising-below z (before ++ y ∷ rs) e y (within before)))
    go (inr p) ih = ih p h

module _ (q : Query) (table : List ℕ) (w : length table % 56 ≡ 0) (o : rising (rows table) ≡ true) (at : ℕ) (m : at % 56 ≡ 0) where
  -- past the last row
  pub next-none : length table ≤ at → Ahead q table at → Leads q table None
  next-none h n = leads-none q table (λ r i s. Memᴰ.not-nil (subst (λ (l : List Row). Memᴰ r l) (rows_end table at (omega arith)) (n r i s)))

  module _ (h : at < length table) where
    inside : at + 56 ≤ length table
    inside = omega arith

    from-here : rows (drop at table) ≡ row_at table at ∷ rows (drop (at + 56) table)
    from-here = rows_next table at inside

    parts : (before : List Row) × (rows table ≡ before ++ row_at table at ∷ rows (drop (at + 56) table))
    parts = let t = row-split table at m (omega arith) in (t.0, t.1 ∙ ap (λ (l : List Row). t.0 ++ l) from-here)

    rise : rising (parts.0 ++ row_at table at ∷ rows (drop (at + 56) table)) ≡ true
    rise = sym (ap rising parts.1) ∙ o

    -- the first that is selected
    pub next-at : selects q (row_at table at) ≡ true → Ahead q table at → Leads q table (Some at)
    next-at s n =
        leads-at q table at (rising-distinct (rows table) o) inside m s
        (λ r i k. least r (Memᴰ.cases_cons (subst (λ (l : List Row). Memᴰ r l) from-here (n r i k))))
      where
        least : (r : Row) → (r ≡ row_at table at) ⊎ Memᴰ r (rows (drop (at + 56) table)) → id_at table at ≤ id_number r.id
        least r (inl p) = let k : id_number r.id ≡ id_at table at = ap (λ (x : Row). id_number x.id) p in omega (arith, k)
        least r (inr p) =
            let k = rising-below (row_at table at) (rows (drop (at + 56) table)) (rising_part parts.0 (row_at table at ∷ rows (drop (at + 56) table)) rise) r p in
            omega (arith, k)

    -- one that is not is passed over
    pub next_more : selects q (row_at table at) ≡ false → Ahead q table at → Ahead q table (at + 56)
    next_more s n r i k = go (Memᴰ.cases_cons (subst (λ (l : List Row). Memᴰ r l) from-here (n r i k)))
      where
        go : (r ≡ row_at table at) ⊎ Memᴰ r (rows (drop (at + 56) table)) → Memᴰ r (rows (drop (at + 56) table))
        go (inl p) = let z : ◌≡◌ {A = Bool} false true = sym s ∙ ap (selects q) (sym p) ∙ k in false-true z
        go (inr p) = p

    -- from the successor of its id on, the files stand behind it
    pub ahead-next : Ahead (starting_at q (suc (id_at table at))) table (at + 56)
    ahead-next r i k =
        higher-behind parts.0 (row_at table at) (rows (drop (at + 56) table)) r rise (subst (λ (l : List Row). Memᴰ r l) parts.1 i)
        (omega (arith, selects-start (starting_at q (suc (id_at table at))) r k))

-- ---- a table in any order

module _ (q : Query) (table : List ℕ) where
  -- a selected row stands at a place, if it is one
  abbrev Chosen : Option ℕ → Type 0
  Chosen (Some best) = (best + 56 ≤ length table) × (best % 56 ≡ 0) × (selects q (row_at table best) ≡ true)
  Chosen None = Unit {0}

  -- and no row that has a lower id than it
  abbrev Under : Option ℕ → Row → Type 0
  Under (Some best) r = id_at table best ≤ id_number r.id
  Under None r = ⊥

  -- of the rows before `at`: `best` is where the selected one with the lowest id stands, if there is one
  pub record Best (best : Option ℕ) (at : ℕ) : Type 0 where
    pub reached : at ≤ length table
    pub aligned : at % 56 ≡ 0
    pub chosen : Chosen best
    pub lowest : (r : Row) → Memᴰ r (rows table) → selects q r ≡ true → Memᴰ r (rows (drop at table)) ⊎ Under best r

  pub best-start : Best None 0
  best-start = record { reached = omega arith; aligned = refl; chosen = tt; lowest = λ r i k. inl i }

  pub best-inside : (best : Option ℕ) (at : ℕ) → Best best at → IfSome best (λ b. b + 56 ≤ length table)
  best-inside (Some best) at b = b.chosen.0
  best-inside None at b = tt

  pub best-end : (best : Option ℕ) (at : ℕ) → Best best at → distinct (rows table) ≡ true → length table ≤ at → Leads q table best
  best-end best at b d h = by best b
    where
      last : {A : Type 0} (r : Row) → Memᴰ r (rows (drop at table)) ⊎ A → A
      last r (inl m) = absurd (Memᴰ.not-nil (subst (λ (l : List Row). Memᴰ r l) (rows_end table at (omega arith)) m))
      last r (inr k) = k

      by : (c : Option ℕ) → Best c at → Leads q table c
      by (Some c) x = leads-at q table c d x.chosen.0 x.chosen.1 x.chosen.2 (λ r i s. last r (x.lowest r i s))
      by None x = leads-none q table (λ r i s. last r (x.lowest r i s))

  module _ (w : length table % 56 ≡ 0) (at : ℕ) (h : at < length table) where
    pub best-here : (best : Option ℕ) → Best best at → at + 56 ≤ length table
    best-here best b = let e = b.aligned in omega (arith, e)

    -- the row at `at` instead, or not
    kept : (best c : Option ℕ) → Best best at → Chosen c → (selects q (row_at table at) ≡ true → Under c (row_at table at))
        → ((r : Row) → Under best r → Under c r)
        → Best c (at + 56)
    kept best c b s n o =
        record { reached = best-here best b; aligned = omega (arith, b.aligned); chosen = s; lowest = λ r m k. go r k (b.lowest r m k) }
      where
        here : rows (drop at table) ≡ row_at table at ∷ rows (drop (at + 56) table)
        here = rows_next table at (best-here best b)

        at_here : (r : Row) → selects q r ≡ true → (r ≡ row_at table at) ⊎ Memᴰ r (rows (drop (at + 56) table))
            → Memᴰ r (rows (drop (at + 56) table)) ⊎ Under c r
        at_here r k (inl p) = inr (subst (Under c) (sym p) (n (ap (selects q) (sym p) ∙ k)))
        at_here r k (inr p) = inl p

        go : (r : Row) → selects q r ≡ true → Memᴰ r (rows (drop at table)) ⊎ Under best r → Memᴰ r (rows (drop (at + 56) table)) ⊎ Under c r
        go r k (inl m) = at_here r k (Memᴰ.cases_cons (subst (λ (l : List Row). Memᴰ r l) here m))
        go r k (inr t) = inr (o r t)

    pub best-next : (best : Option ℕ) → Best best at → Best (lower_of q table best at) (at + 56)
    best-next None b = by (selects q (row_at table at)) refl
      where
        by : (x : Bool) → selects q (row_at table at) ≡ x → Best (cond x (Some at) None) (at + 56)
        by true s = kept None (Some at) b (best-here None b, b.aligned, s) (λ k. omega arith) (λ r t. absurd t)
        by false s = kept None None b tt (λ k. false-true (sym s ∙ k)) (λ r t. t)
    best-next (Some best) b = by (selects q (row_at table at)) refl (ltb (id_at table at) (id_at table best)) refl
      where
        by : (x : Bool) → selects q (row_at table at) ≡ x → (v : Bool) → ltb (id_at table at) (id_at table best) ≡ v
            → Best (cond x (cond v (Some at) (Some best)) (Some best)) (at + 56)
        by true s true z =
            kept (Some best) (Some at) b (best-here (Some best) b, b.aligned, s) (λ k. omega arith)
            (λ r t. omega (arith, ltb-true (id_at table at) (id_at table best) z, t))
        by true s false z = kept (Some best) (Some best) b b.chosen (λ k. ltb-false (id_at table at) (id_at table best) z) (λ r t. t)
        by false s v z = kept (Some best) (Some best) b b.chosen (λ k. false-true (sym s ∙ k)) (λ r t. t)
