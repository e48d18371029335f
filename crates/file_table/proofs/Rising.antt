-- Rows whose ids stand once, and rows by rising id.
-- Assumes nothing.
use mathlib.Core.Path.{◌≡◌, refl, sym, ap, ◌∙◌}
use mathlib.Core.Logic.{◌⊎◌, inl, inr}
use mathlib.Core.Bool.{Bool, true, false, not, ◌&&◌, ◌||◌}
use mathlib.Core.List.Memᴰ
use mathlib.Core.List.{List, [], ◌∷◌, Memᴰ}
use Prim.Native.Nat.{ℕ, ◌<◌}
use native.Mathlib.Omega.{arith}
use lib.Dec.{eqb}
use borrow.Author.Tests.{ltb-true, eqb-false, not-true, lt-ltb, ne_eqb}
use Rattle.le.proofs.Runs.{and_left, and_right}
use Rattle.file_ids.specs.Ids.{id_number}
use Rattle.file_table.specs.Table.{Row, has_id, distinct, above, rising}

-- the number of a row's id
abbrev pub key : Row → ℕ
key r = id_number r.id

pub false-true : {A : Type 0} → false ≡ true → A
false-true e = let z : ◌≡◌ {A = ℕ} 0 1 = cc in absurd (omega arith)

pub both_true : (a b : Bool) → a ≡ true → b ≡ true → a && b ≡ true
both_true true b e h = h
both_true false b e h = e

-- ---- ids that stand once

-- a row's id is found
pub has-member : (n : ℕ) (x : Row) (rs : List Row) → Memᴰ x rs → key x ≡ n → has_id n rs ≡ true
unfolding has_id
has-member n x [] m e = absurd (Memᴰ.not-nil m)
has-member n x (y ∷ ys) m e = go (Memᴰ.cases_cons m) (has-member n x ys) (eqb (key y) n) refl
  where
    go : (x ≡ y) ⊎ Memᴰ x ys → (Memᴰ x ys → key x ≡ n → has_id n ys ≡ true) → (b : Bool) → eqb (key y) n ≡ b → b || has_id n ys ≡ true
    go p ih true q = refl
    go (inl p) ih false q = absurd (eqb-false (key y) n q (ap key (sym p) ∙ e))
    go (inr p) ih false q = ih p e

-- an id that no row has is not found
pub has-none : (n : ℕ) (rs : List Row) → ((x : Row) → Memᴰ x rs → key x ≡ n → ⊥) → has_id n rs ≡ false
unfolding has_id
has-none n [] h = refl
has-none n (y ∷ ys) h = rw (ne_eqb (key y) n (h y (Memᴰ.head refl))) (has-none n ys (λ x m. h x (Memᴰ.tail m)))

-- behind a row, no other has its id
pub first-once : (r : Row) (rs : List Row) → distinct (r ∷ rs) ≡ true → (x : Row) → Memᴰ x rs → key x ≡ key r → ⊥
unfolding distinct
first-once r rs d x m e =
    let n : has_id (key r) rs ≡ false = not-true (has_id (key r) rs) (and_left (not (has_id (key r) rs)) (distinct rs) d) in
    false-true (sym n ∙ has-member (key r) x rs m e)

pub distinct-rest : (r : Row) (rs : List Row) → distinct (r ∷ rs) ≡ true → distinct rs ≡ true
unfolding distinct
distinct-rest r rs d = and_right (not (has_id (key r) rs)) (distinct rs) d

-- rows with one id are one row
pub same_row : (rs : List Row) → distinct rs ≡ true → (x y : Row) → Memᴰ x rs → Memᴰ y rs → key x ≡ key y → x ≡ y
same_row [] d x y m n e = absurd (Memᴰ.not-nil m)
same_row (r ∷ rs) d x y m n e = go (Memᴰ.cases_cons m) (Memᴰ.cases_cons n) (same_row rs (distinct-rest r rs d) x y)
  where
    go : (x ≡ r) ⊎ Memᴰ x rs → (y ≡ r) ⊎ Memᴰ y rs → (Memᴰ x rs → Memᴰ y rs → key x ≡ key y → x ≡ y) → x ≡ y
    go (inl p) (inl q) ih = p ∙ sym q
    go (inl p) (inr q) ih = absurd (first-once r rs d y q (sym e ∙ ap key p))
    go (inr p) (inl q) ih = absurd (first-once r rs d x p (e ∙ ap key q))
    go (inr p) (inr q) ih = ih p q e

-- ---- rising rows

pub rising-rest : (r : Row) (rs : List Row) → rising (r ∷ rs) ≡ true → rising rs ≡ true
unfolding rising
rising-rest r rs e = and_right (above (key r) rs) (rising rs) e

pub rising-first : (r : Row) (rs : List Row) → rising (r ∷ rs) ≡ true → above (key r) rs ≡ true
unfolding rising
rising-first r rs e = and_left (above (key r) rs) (rising rs) e

pub rising-made : (r : Row) (rs : List Row) → above (key r) rs ≡ true → rising rs ≡ true → rising (r ∷ rs) ≡ true
unfolding rising
rising-made r rs a e = both_true (above (key r) rs) (rising rs) a e

-- every row behind the first has a higher id
pub rising-below : (r : Row) (rs : List Row) → rising (r ∷ rs) ≡ true → (x : Row) → Memᴰ x rs → id_number r.id < id_number x.id
rising-below r [] e x m = absurd (Memᴰ.not-nil m)
rising-below r (y ∷ ys) e x m = go (Memᴰ.cases_cons m) (rising-below y ys (rising-rest r (y ∷ ys) e) x)
  where
    low : key r < key y
    low = ltb-true (key r) (key y) (rising-first r (y ∷ ys) e)

    go : (x ≡ y) ⊎ Memᴰ x ys → (Memᴰ x ys → key y < key x) → key r < key x
    go (inl p) ih = let k : key x ≡ key y = ap key p in omega (arith, low, k)
    go (inr p) ih = omega (arith, low, ih p)

-- so no id stands twice
pub rising-distinct : (rs : List Row) → rising rs ≡ true → distinct rs ≡ true
unfolding distinct
rising-distinct [] e = refl
rising-distinct (r ∷ rs) e =
    rw (has-none (key r) rs (λ x m q. omega (arith, rising-below r rs e x m, q))) (rising-distinct rs (rising-rest r rs e))

pub above-all : (n : ℕ) (rs : List Row) → ((x : Row) → Memᴰ x rs → n < key x) → above n rs ≡ true
above-all n [] h = refl
above-all n (y ∷ ys) h = lt-ltb n (key y) (h y (Memᴰ.head refl))

-- rising rows with the same members are the same
pub same-rising : (xs ys : List Row) → rising xs ≡ true → rising ys ≡ true → ((z : Row) → Memᴰ z xs → Memᴰ z ys) → ((z : Row) → Memᴰ z ys → Memᴰ z xs) → xs ≡ ys
same-rising [] [] a b f g = refl
same-rising [] (y ∷ ys) a b f g = absurd (Memᴰ.not-nil (g y (Memᴰ.head refl)))
same-rising (x ∷ xs) [] a b f g = absurd (Memᴰ.not-nil (f x (Memᴰ.head refl)))
same-rising (x ∷ xs) (y ∷ ys) a b f g =
    let p : x ≡ y = first (Memᴰ.cases_cons (f x (Memᴰ.head refl))) (Memᴰ.cases_cons (g y (Memᴰ.head refl))) in
    ap (λ (r : Row). r ∷ xs) p
    ∙ ap (λ (l : List Row). y ∷ l)
    (same-rising xs ys (rising-rest x xs a) (rising-rest y ys b)
    (λ z m. onward z m (Memᴰ.cases_cons (f z (Memᴰ.tail m))) p)
    (λ z m. backward z m (Memᴰ.cases_cons (g z (Memᴰ.tail m))) p))
  where
    first : (x ≡ y) ⊎ Memᴰ x ys → (y ≡ x) ⊎ Memᴰ y xs → x ≡ y
    first (inl p) q = p
    first (inr p) (inl q) = sym q
    first (inr p) (inr q) = absurd (omega (arith, rising-below y ys b x p, rising-below x xs a y q))

    onward : (z : Row) → Memᴰ z xs → (z ≡ y) ⊎ Memᴰ z ys → x ≡ y → Memᴰ z ys
    onward z m (inl q) p = let k : key z ≡ key x = ap key (q ∙ sym p) in absurd (omega (arith, k, rising-below x xs a z m))
    onward z m (inr q) p = q

    backward : (z : Row) → Memᴰ z ys → (z ≡ x) ⊎ Memᴰ z xs → x ≡ y → Memᴰ z xs
    backward z m (inl q) p = let k : key z ≡ key y = ap key (q ∙ p) in absurd (omega (arith, k, rising-below y ys b z m))
    backward z m (inr q) p = q
