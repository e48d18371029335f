-- The files of a query: which rows they are, in what order, and what comes first.
-- Assumes nothing.
use mathlib.Core.Path.{◌≡◌, refl, sym, ap, ◌∙◌, subst}
use mathlib.Core.Logic.{◌⊎◌, inl, inr}
use mathlib.Core.Bool.{Bool, true, false, not, cond, ◌&&◌}
use mathlib.Core.List.Memᴰ
use mathlib.Core.List.{List, [], ◌∷◌, Memᴰ}
use Prim.Native.Nat.{ℕ, suc, ◌≤◌, ◌<◌}
use native.Mathlib.Omega.{arith}
use lib.Dec.{leb, ltb, eqb}
use borrow.Author.Tests.{ltb-false, leb-true, eqb-true, eqb-false, lt-ltb, le-leb}
use Rattle.le.proofs.Runs.{and_left, and_right}
use Rattle.file_ids.specs.Ids.{wide, id_number}
use Rattle.file_table.specs.Table.{Row, rows, distinct, right_table, above, rising}
use Rattle.file_table.proofs.Rising.{key, false-true, both_true, first-once, distinct-rest, same_row, rising-rest, rising-first, rising-made, rising-below, above-all, same-rising}
use Rattle.file_table.proofs.Places.{table-distinct}
use Rattle.file_enumeration.specs.declared.Query.{Query}
use Rattle.file_enumeration.specs.Enumerate.{from_low, to_high, selects, selected, insert, by_id, starting_at}
use Rattle.file_enumeration.specs.Follow.{Listed}

-- ---- what a query selects

-- nothing below its start
pub selects-start : (q : Query) (r : Row) → selects q r ≡ true → q.start ≤ id_number r.id
unfolding selects
selects-start q r e =
    let narrow : Bool = not (wide r.id) && not (wide r.parent) in
    let usn : Bool = from_low q.low r.usn && to_high q.high r.usn in
    leb-true q.start (key r) (and_left (leb q.start (key r)) usn (and_right narrow (leb q.start (key r) && usn) e))

-- from another start up to which its id is, the same
pub selects_at : (q : Query) (n : ℕ) (r : Row) → selects q r ≡ true → n ≤ id_number r.id → selects (starting_at q n) r ≡ true
unfolding selects
selects_at q n r e h =
    let narrow : Bool = not (wide r.id) && not (wide r.parent) in
    let usn : Bool = from_low q.low r.usn && to_high q.high r.usn in
    let k : leb q.start (key r) && usn ≡ true = and_right narrow (leb q.start (key r) && usn) e in
    both_true narrow (leb n (key r) && usn) (and_left narrow (leb q.start (key r) && usn) e)
    (both_true (leb n (key r)) usn (le-leb n (key r) h) (and_right (leb q.start (key r)) usn k))

-- back to the query's own start
pub selects-own : (q : Query) (n : ℕ) (r : Row) → selects (starting_at q n) r ≡ true → q.start ≤ id_number r.id → selects q r ≡ true
selects-own q n r e h = selects_at (starting_at q n) q.start r e h

-- ---- members

selected-in : (q : Query) (rs : List Row) (r : Row) → Memᴰ r rs → selects q r ≡ true → Memᴰ r (selected q rs)
unfolding selected
selected-in q [] r m e = m
selected-in q (x ∷ xs) r m e = go (selects q x) refl (Memᴰ.cases_cons m) (selected-in q xs r)
  where
    go : (b : Bool) → selects q x ≡ b → (r ≡ x) ⊎ Memᴰ r xs → (Memᴰ r xs → selects q r ≡ true → Memᴰ r (selected q xs))
        → Memᴰ r (cond b (x ∷ selected q xs) (selected q xs))
    go true s (inl p) ih = Memᴰ.head p
    go true s (inr p) ih = Memᴰ.tail (ih p e)
    go false s (inl p) ih = false-true (sym s ∙ ap (selects q) (sym p) ∙ e)
    go false s (inr p) ih = ih p e

selected-out : (q : Query) (rs : List Row) (r : Row) → Memᴰ r (selected q rs) → Memᴰ r rs × (selects q r ≡ true)
unfolding selected
selected-out q [] r m = absurd (Memᴰ.not-nil m)
selected-out q (x ∷ xs) r m = go (selects q x) refl m (selected-out q xs r)
  where
    behind : Memᴰ r xs × (selects q r ≡ true) → Memᴰ r (x ∷ xs) × (selects q r ≡ true)
    behind k = (Memᴰ.tail k.0, k.1)

    here : selects q x ≡ true → (r ≡ x) ⊎ Memᴰ r (selected q xs) → (Memᴰ r (selected q xs) → Memᴰ r xs × (selects q r ≡ true))
        → Memᴰ r (x ∷ xs) × (selects q r ≡ true)
    here s (inl p) ih = (Memᴰ.head p, ap (selects q) p ∙ s)
    here s (inr p) ih = behind (ih p)

    go : (b : Bool) → selects q x ≡ b → Memᴰ r (cond b (x ∷ selected q xs) (selected q xs)) → (Memᴰ r (selected q xs) → Memᴰ r xs × (selects q r ≡ true))
        → Memᴰ r (x ∷ xs) × (selects q r ≡ true)
    go true s m ih = here s (Memᴰ.cases_cons m) ih
    go false s m ih = behind (ih m)

insert-in : (r : Row) (xs : List Row) (z : Row) → (z ≡ r) ⊎ Memᴰ z xs → Memᴰ z (insert r xs)
unfolding insert
insert-in r [] z (inl p) = Memᴰ.head p
insert-in r [] z (inr p) = absurd (Memᴰ.not-nil p)
insert-in r (x ∷ xs) z (inl p) = go (ltb (key r) (key x)) (insert-in r xs z (inl p))
  where
    go : (b : Bool) → Memᴰ z (insert r xs) → Memᴰ z (cond b (r ∷ x ∷ xs) (x ∷ insert r xs))
    go true ih = Memᴰ.head p
    go false ih = Memᴰ.tail ih
insert-in r (x ∷ xs) z (inr p) = go (ltb (key r) (key x)) (Memᴰ.cases_cons p) (λ (m : Memᴰ z xs). insert-in r xs z (inr m))
  where
    go : (b : Bool) → (z ≡ x) ⊎ Memᴰ z xs → (Memᴰ z xs → Memᴰ z (insert r xs)) → Memᴰ z (cond b (r ∷ x ∷ xs) (x ∷ insert r xs))
    go true q ih = Memᴰ.tail p
    go false (inl q) ih = Memᴰ.head q
    go false (inr q) ih = Memᴰ.tail (ih q)

insert-out : (r : Row) (xs : List Row) (z : Row) → Memᴰ z (insert r xs) → (z ≡ r) ⊎ Memᴰ z xs
unfolding insert
insert-out r [] z m = Memᴰ.cases_cons m
insert-out r (x ∷ xs) z m = go (ltb (key r) (key x)) m (insert-out r xs z)
  where
    behind : (z ≡ r) ⊎ Memᴰ z xs → (z ≡ r) ⊎ Memᴰ z (x ∷ xs)
    behind (inl p) = inl p
    behind (inr p) = inr (Memᴰ.tail p)

    here : (z ≡ x) ⊎ Memᴰ z (insert r xs) → (Memᴰ z (insert r xs) → (z ≡ r) ⊎ Memᴰ z xs) → (z ≡ r) ⊎ Memᴰ z (x ∷ xs)
    here (inl p) ih = inr (Memᴰ.head p)
    here (inr p) ih = behind (ih p)

    go : (b : Bool) → Memᴰ z (cond b (r ∷ x ∷ xs) (x ∷ insert r xs)) → (Memᴰ z (insert r xs) → (z ≡ r) ⊎ Memᴰ z xs) → (z ≡ r) ⊎ Memᴰ z (x ∷ xs)
    go true m ih = Memᴰ.cases_cons m
    go false m ih = here (Memᴰ.cases_cons m) ih

sorted-in : (rs : List Row) (z : Row) → Memᴰ z rs → Memᴰ z (by_id rs)
unfolding by_id
sorted-in [] z m = m
sorted-in (r ∷ rs) z m = insert-in r (by_id rs) z (go (Memᴰ.cases_cons m) (sorted-in rs z))
  where
    go : (z ≡ r) ⊎ Memᴰ z rs → (Memᴰ z rs → Memᴰ z (by_id rs)) → (z ≡ r) ⊎ Memᴰ z (by_id rs)
    go (inl p) ih = inl p
    go (inr p) ih = inr (ih p)

sorted-out : (rs : List Row) (z : Row) → Memᴰ z (by_id rs) → Memᴰ z rs
unfolding by_id
sorted-out [] z m = m
sorted-out (r ∷ rs) z m = go (insert-out r (by_id rs) z m) (sorted-out rs z)
  where
    go : (z ≡ r) ⊎ Memᴰ z (by_id rs) → (Memᴰ z (by_id rs) → Memᴰ z rs) → Memᴰ z (r ∷ rs)
    go (inl p) ih = Memᴰ.head p
    go (inr p) ih = Memᴰ.tail (ih p)

-- the files of a query are the rows that it selects
pub files-in : (q : Query) (rs : List Row) (r : Row) → Memᴰ r rs → selects q r ≡ true → Memᴰ r (by_id (selected q rs))
files-in q rs r m e = sorted-in (selected q rs) r (selected-in q rs r m e)

pub files-out : (q : Query) (rs : List Row) (r : Row) → Memᴰ r (by_id (selected q rs)) → Memᴰ r rs × (selects q r ≡ true)
files-out q rs r m = selected-out q rs r (sorted-out (selected q rs) r m)

-- ---- order

above-insert : (n : ℕ) (r : Row) (xs : List Row) → n < key r → above n xs ≡ true → above n (insert r xs) ≡ true
unfolding insert
above-insert n r [] h e = lt-ltb n (key r) h
above-insert n r (x ∷ xs) h e = go (ltb (key r) (key x))
  where
    go : (b : Bool) → above n (cond b (r ∷ x ∷ xs) (x ∷ insert r xs)) ≡ true
    go true = lt-ltb n (key r) h
    go false = e

-- a row with an id of its own among rising rows
rising-insert : (r : Row) (xs : List Row) → rising xs ≡ true → ((x : Row) → Memᴰ x xs → key x ≡ key r → ⊥) → rising (insert r xs) ≡ true
unfolding insert
rising-insert r [] e h = rising-made r [] refl e
rising-insert r (x ∷ xs) e h = go (ltb (key r) (key x)) refl (rising-insert r xs (rising-rest x xs e) (λ z m. h z (Memᴰ.tail m)))
  where
    go : (b : Bool) → ltb (key r) (key x) ≡ b → rising (insert r xs) ≡ true → rising (cond b (r ∷ x ∷ xs) (x ∷ insert r xs)) ≡ true
    go true s ih = rising-made r (x ∷ xs) s e
    go false s ih =
        let ne : key x ≡ key r → ⊥ = h x (Memᴰ.head refl) in
        let k : key x ≤ key r = ltb-false (key r) (key x) s in
        rising-made x (insert r xs) (above-insert (key x) r xs (omega (arith, ne, k)) (rising-first x xs e)) ih

pub files-rise : (q : Query) (rs : List Row) → distinct rs ≡ true → rising (by_id (selected q rs)) ≡ true
unfolding selected by_id rising
files-rise q [] d = refl
files-rise q (x ∷ xs) d = go (selects q x) (files-rise q xs (distinct-rest x xs d))
  where
    go : (b : Bool) → rising (by_id (selected q xs)) ≡ true → rising (by_id (cond b (x ∷ selected q xs) (selected q xs))) ≡ true
    go true ih = rising-insert x (by_id (selected q xs)) ih (λ z m. first-once x xs d z (files-out q xs z m).0)
    go false ih = ih

-- of a table that is right: the selected rows, by rising id
pub listed : (q : Query) (pool table : List ℕ) → right_table pool table ≡ true → Listed q table
listed q pool table g =
    record {
      members = λ r. (files-out q (rows table) r, λ k. files-in q (rows table) r k.0 k.1);
      order = files-rise q (rows table) (table-distinct pool table g);
    }

-- ---- what comes first

-- the selected row of the least id, and behind it the rows from its successor on
pub least_first : (q : Query) (rs : List Row) (r : Row) → distinct rs ≡ true → Memᴰ r rs → selects q r ≡ true
    → ((x : Row) → Memᴰ x rs → selects q x ≡ true → id_number r.id ≤ id_number x.id)
    → by_id (selected q rs) ≡ r ∷ by_id (selected (starting_at q (suc (id_number r.id))) rs)
least_first q rs r d m e h =
    same-rising (by_id (selected q rs)) (r ∷ more) (files-rise q rs d) (rising-made r more (above-all (key r) more later) (files-rise next rs d)) into from
  where
    next : Query
    next = starting_at q (suc (key r))

    more : List Row
    more = by_id (selected next rs)

    later : (x : Row) → Memᴰ x more → key r < key x
    later x n = selects-start next x (files-out next rs x n).1

    behind : (z : Row) → Memᴰ z rs × (selects q z ≡ true) → (b : Bool) → eqb (key z) (key r) ≡ b → Memᴰ z (r ∷ more)
    behind z k true s = Memᴰ.head (same_row rs d z r k.0 m (eqb-true (key z) (key r) s))
    behind z k false s =
        let ne : key z ≡ key r → ⊥ = eqb-false (key z) (key r) s in
        let l : key r ≤ key z = h z k.0 k.1 in
        Memᴰ.tail (files-in next rs z k.0 (selects_at q (suc (key r)) z k.1 (omega (arith, ne, l))))

    into : (z : Row) → Memᴰ z (by_id (selected q rs)) → Memᴰ z (r ∷ more)
    into z n = behind z (files-out q rs z n) (eqb (key z) (key r)) refl

    back : (z : Row) → (z ≡ r) ⊎ Memᴰ z more → Memᴰ z (by_id (selected q rs))
    back z (inl p) = Memᴰ.cast p (files-in q rs r m e)
    back z (inr p) =
        let k = files-out next rs z p in
        files-in q rs z k.0 (selects-own q (suc (key r)) z k.1 (omega (arith, selects-start q r e, selects-start next z k.1)))

    from : (z : Row) → Memᴰ z (r ∷ more) → Memᴰ z (by_id (selected q rs))
    from z n = back z (Memᴰ.cases_cons n)

-- no row is selected
pub none_first : (q : Query) (rs : List Row) → ((x : Row) → Memᴰ x rs → selects q x ≡ true → ⊥) → by_id (selected q rs) ≡ []
unfolding selected by_id
none_first q [] h = refl
none_first q (x ∷ xs) h = go (selects q x) refl (none_first q xs (λ z m. h z (Memᴰ.tail m)))
  where
    go : (b : Bool) → selects q x ≡ b → by_id (selected q xs) ≡ [] → by_id (cond b (x ∷ selected q xs) (selected q xs)) ≡ []
    go true s ih = absurd (h x (Memᴰ.head refl) s)
    go false s ih = ih

-- from the first row's id on there are the same rows
pub start-raised : (q : Query) (rs : List Row) (r : Row) (more : List Row) → distinct rs ≡ true → by_id (selected q rs) ≡ r ∷ more
    → by_id (selected (starting_at q (id_number r.id)) rs) ≡ r ∷ more
start-raised q rs r more d e = same-rising (by_id (selected next rs)) (by_id (selected q rs)) (files-rise next rs d) (files-rise q rs d) into from ∙ e
  where
    next : Query
    next = starting_at q (key r)

    rise : rising (r ∷ more) ≡ true
    rise = sym (ap rising e) ∙ files-rise q rs d

    first : selects q r ≡ true
    first = (files-out q rs r (subst (Memᴰ r) (sym e) (Memᴰ.head refl))).1

    least : (x : Row) → (x ≡ r) ⊎ Memᴰ x more → key r ≤ key x
    least x (inl p) = let k : key x ≡ key r = ap key p in omega (arith, k)
    least x (inr p) = omega (arith, rising-below r more rise x p)

    into : (z : Row) → Memᴰ z (by_id (selected next rs)) → Memᴰ z (by_id (selected q rs))
    into z n =
        let k = files-out next rs z n in
        files-in q rs z k.0 (selects-own q (key r) z k.1 (omega (arith, selects-start q r first, selects-start next z k.1)))

    from : (z : Row) → Memᴰ z (by_id (selected q rs)) → Memᴰ z (by_id (selected next rs))
    from z n =
        let k = files-out q rs z n in
        files-in next rs z k.0 (selects_at q (key r) z k.1 (least z (Memᴰ.cases_cons (subst (Memᴰ z) e n))))
