-- The row of an id: in rows whose ids stand once, from a place on, and among rows by rising id.
-- Assumes nothing.
use mathlib.Core.Path.{◌≡◌, refl, sym, ap, ◌∙◌, subst}
use mathlib.Core.Logic.{◌⊎◌, inl, inr}
use mathlib.Core.Bool.{Bool, true, false, cond}
use mathlib.Core.List.{List, [], ◌∷◌, ◌++◌, Memᴰ}
use Rattle.std.specs.Prelude.{None, Some}
use Prim.Native.Nat.{ℕ, zero, suc, ◌+◌, ◌-◌, ◌*◌, ◌/◌, ◌%◌, ◌≤◌, ◌<◌}
use native.Mathlib.Omega.{arith}
use lib.Dec.{ltb, eqb}
use lib.ListN.{length, drop, length-drop}
use lib.Seq.{drop-drop}
use borrow.Author.Tests.{eq-eqb, ne_eqb, eqb-true, ltb-true, ltb-false}
use Rattle.file_table.specs.Table.{Row, row_in, first_rows, rows, find, distinct, rising, Stands}
use Rattle.file_table.specs.Steps.{row_at, id_at, Parts}
use Rattle.file_table.proofs.Rows.{rows_end, rows_next}
use Rattle.file_table.proofs.Rising.{key, first-once, distinct-rest, rising-rest, rising-below, rising-distinct}
use Rattle.file_table.proofs.Places.{row-split, row-member}

-- ---- among rows

-- no row has the id
pub find_none : (n : ℕ) (rs : List Row) → ((x : Row) → Memᴰ x rs → key x ≡ n → ⊥) → find n rs ≡ None
unfolding find
find_none n [] h = refl
find_none n (y ∷ ys) h = rw (ne_eqb (key y) n (h y (mathlib.Core.List.Memᴰ.head refl))) (find_none n ys (λ x m. h x (mathlib.Core.List.Memᴰ.tail m)))

-- a row has it
pub find-some : (n : ℕ) (rs : List Row) → distinct rs ≡ true → (x : Row) → Memᴰ x rs → key x ≡ n → find n rs ≡ Some x
unfolding find
find-some n [] d x m e = absurd (mathlib.Core.List.Memᴰ.not-nil m)
find-some n (y ∷ ys) d x m e = go (mathlib.Core.List.Memᴰ.cases_cons m) (find-some n ys (distinct-rest y ys d) x)
  where
    go : (x ≡ y) ⊎ Memᴰ x ys → (Memᴰ x ys → key x ≡ n → find n ys ≡ Some x) → cond (eqb (key y) n) (Some y) (find n ys) ≡ Some x
    go (inl p) ih = rw (eq-eqb (key y) n (ap key (sym p) ∙ e)) (ap Some (sym p))
    go (inr p) ih = rw (ne_eqb (key y) n (λ q. first-once y ys d x p (e ∙ sym q))) (ih p e)

-- what is found is a row with the id
pub found-row : (n : ℕ) (rs : List Row) (x : Row) → find n rs ≡ Some x → Memᴰ x rs × (key x ≡ n)
unfolding find
found-row n [] x e = absurd (none-some e)
  where
    none-some : {A : Type 0} {a : A} → None ≡ Some a → ⊥
    none-some q = let z : ◌≡◌ {A = ℕ} 0 1 = cc in omega arith
found-row n (y ∷ ys) x e = go (eqb (key y) n) refl (found-row n ys x) e
  where
    go : (b : Bool) → eqb (key y) n ≡ b → (find n ys ≡ Some x → Memᴰ x ys × (key x ≡ n)) → cond b (Some y) (find n ys) ≡ Some x → Memᴰ x (y ∷ ys) × (key x ≡ n)
    go true q ih e = let p : y ≡ x = cc in (mathlib.Core.List.Memᴰ.head (sym p), ap key (sym p) ∙ eqb-true (key y) n q)
    go false q ih e = (mathlib.Core.List.Memᴰ.tail (ih e).0, (ih e).1)

-- ---- from a place on

module _ (n : ℕ) (s : List ℕ) (at : ℕ) where
  pub find-end : length s ≤ at → find n (rows (drop at s)) ≡ None
  unfolding find
  find-end h = ap (find n) (rows_end s at (omega arith))

  pub find-next : at + 56 ≤ length s → find n (rows (drop at s)) ≡ cond (eqb (id_at s at) n) (Some (row_at s at)) (find n (rows (drop (at + 56) s)))
  unfolding find
  find-next h = ap (find n) (rows_next s at h)

-- ---- among rows by rising id

-- the place of a row
member-in : (k : ℕ) (s : List ℕ) (x : Row) → 56 * k ≤ length s → Memᴰ x (first_rows k s) → (i : ℕ) × (i % 56 ≡ 0) × (i + 56 ≤ length s) × (x ≡ row_at s i)
unfolding first_rows
member-in zero s x h m = absurd (mathlib.Core.List.Memᴰ.not-nil m)
member-in (suc k) s x h m = go (mathlib.Core.List.Memᴰ.cases_cons m) (member-in k (drop 56 s) x (omega (arith, length-drop 56 s)))
  where
    go : (x ≡ row_in s) ⊎ Memᴰ x (first_rows k (drop 56 s)) → (Memᴰ x (first_rows k (drop 56 s)) → (i : ℕ) × (i % 56 ≡ 0) × (i + 56 ≤ length (drop 56 s)) × (x ≡ row_at (drop 56 s) i))
        → (i : ℕ) × (i % 56 ≡ 0) × (i + 56 ≤ length s) × (x ≡ row_at s i)
    go (inl p) ih = (0, omega arith, omega arith, p)
    go (inr p) ih =
        let t = ih p in
        let w : t.0 % 56 ≡ 0 = t.1 in
        (56 + t.0, omega arith, omega (arith, t.2, length-drop 56 s), t.3 ∙ ap row_in (drop-drop t.0 56 s))

row-place : (s : List ℕ) (x : Row) → Memᴰ x (rows s) → (i : ℕ) × (i % 56 ≡ 0) × (i + 56 ≤ length s) × (x ≡ row_at s i)
unfolding rows
row-place s x m = member-in (length s / 56) s x (omega arith) m

rising-behind : (xs ys : List Row) → rising (xs ++ ys) ≡ true → rising ys ≡ true
rising-behind [] ys e = e
rising-behind (x ∷ xs) ys e = rising-behind xs ys (rising-rest x (xs ++ ys) e)

module _ (s : List ℕ) (g : rising (rows s) ≡ true) where
  -- a row behind another has a higher id
  rising-at : (i j : ℕ) → i % 56 ≡ 0 → j % 56 ≡ 0 → i < j → j + 56 ≤ length s → id_at s i < id_at s j
  rising-at i j w v h k =
      let q : i + 56 ≤ j = omega arith in
      let t = row-split s i w (omega arith) in
      let r : rising (row_at s i ∷ rows (drop (i + 56) s)) ≡ true = ap rising (sym (rows_next s i (omega arith))) ∙ rising-behind t.0 (rows (drop i s)) (ap rising (sym t.1) ∙ g) in
      let d : List ℕ = drop (i + 56) s in
      let n : length d ≡ length s - (i + 56) = length-drop (i + 56) s in
      let z : (i + 56) + (j - (i + 56)) ≡ j = omega arith in
      let e : row_at d (j - (i + 56)) ≡ row_at s j = ap row_in (drop-drop (j - (i + 56)) (i + 56) s ∙ ap (λ (l : ℕ). drop l s) z) in
      let m : Memᴰ (row_at s j) (rows d) = subst (λ (x : Row). Memᴰ x (rows d)) e (row-member d (j - (i + 56)) (omega arith) (omega (arith, n))) in
      rising-below (row_at s i) (rows d) r (row_at s j) m

  module _ (n at : ℕ) (p : Parts n s at) where
    -- the row at the place has the id
    pub parts-found : at + 56 ≤ length s → id_at s at ≡ n → Stands n s (Some at)
    parts-found h e = (find-some n (rows s) (rising-distinct (rows s) g) (row_at s at) (row-member s at p.whole h) e, h, p.whole)

    -- it has not, or there is none
    pub parts_none : (at < length s → id_at s at ≡ n → ⊥) → Stands n s None
    parts_none o = find_none n (rows s) other
      where
        at_place : (i : ℕ) → i % 56 ≡ 0 → i + 56 ≤ length s → id_at s i ≡ n → (b c : Bool) → ltb i at ≡ b → ltb at i ≡ c → ⊥
        at_place i v h e true c q r = omega (arith, p.before i v (ltb-true i at q), e)
        at_place i v h e false true q r =
            let l : at < i = ltb-true at i r in
            omega (arith, p.behind at p.whole (omega arith) (omega (arith, l, h)), rising-at at i p.whole v l h, e)
        at_place i v h e false false q r =
            let z : i ≡ at = omega (arith, ltb-false i at q, ltb-false at i r) in
            o (omega (arith, z, h)) (ap (id_at s) (sym z) ∙ e)

        other : (x : Row) → Memᴰ x (rows s) → key x ≡ n → ⊥
        other x m e =
            let t = row-place s x m in
            at_place t.0 t.1 t.2 (sym (ap key t.3) ∙ e) _ _ refl refl

-- ---- halving

-- the place lies between two rows
pub record Between (n : ℕ) (s : List ℕ) (low high : ℕ) : Type 0 where
  pub order : low ≤ high
  pub inside : 56 * high ≤ length s
  pub before : (i : ℕ) → i % 56 ≡ 0 → i < 56 * low → id_at s i < n
  pub behind : (i : ℕ) → i % 56 ≡ 0 → 56 * high ≤ i → i < length s → n ≤ id_at s i

module _ (n : ℕ) (s : List ℕ) where
  pub between-all : length s % 56 ≡ 0 → Between n s 0 (length s / 56)
  between-all w = record { order = omega arith; inside = omega arith; before = λ i v h. absurd (omega arith); behind = λ i v h k. absurd (omega (arith, w, h, k)) }

  pub between_none : (low high : ℕ) → Between n s low high → high ≤ low → Parts n s (low * 56)
  between_none low high b h =
      let z : high ≡ low = omega (arith, b.order, h) in
      record {
        inside = omega (arith, b.inside, z);
        whole = omega arith;
        before = λ i v k. b.before i v (omega (arith, k));
        behind = λ i v k l. b.behind i v (omega (arith, k, z)) l;
      }

  module _ (g : rising (rows s) ≡ true) (low high m : ℕ) (b : Between n s low high) (l : low ≤ m) (h : m < high) where
    -- the row in the middle has a lower id
    pub between-upper : id_at s (m * 56) < n → Between n s (m + 1) high
    between-upper e =
        record {
          order = omega arith;
          inside = b.inside;
          before = λ i v k. up i v k _ refl;
          behind = b.behind;
        }
      where
        up : (i : ℕ) → i % 56 ≡ 0 → i < 56 * (m + 1) → (t : Bool) → ltb i (m * 56) ≡ t → id_at s i < n
        up i v k true t = omega (arith, rising-at s g i (m * 56) v (omega arith) (ltb-true i (m * 56) t) (omega (arith, b.inside, h)), e)
        up i v k false t =
            let z : m * 56 ≡ i = omega (arith, ltb-false i (m * 56) t, k, v) in
            subst (λ (j : ℕ). id_at s j < n) z e

    -- it has not
    pub between_lower : length s % 56 ≡ 0 → n ≤ id_at s (m * 56) → Between n s low m
    between_lower w e =
        record {
          order = l;
          inside = omega (arith, b.inside, h);
          before = b.before;
          behind = λ i v k o. down i v k o _ refl;
        }
      where
        down : (i : ℕ) → i % 56 ≡ 0 → 56 * m ≤ i → i < length s → (t : Bool) → ltb (m * 56) i ≡ t → n ≤ id_at s i
        down i v k o true t =
            let q : i + 56 ≤ length s = omega (arith, w, v, o) in
            omega (arith, rising-at s g (m * 56) i (omega arith) v (ltb-true (m * 56) i t) q, e)
        down i v k o false t =
            let z : m * 56 ≡ i = omega (arith, ltb-false (m * 56) i t, k) in
            subst (λ (j : ℕ). n ≤ id_at s j) z e
