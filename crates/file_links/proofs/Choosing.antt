-- The link whose name stands for a file: it is a good one, and which one it is by the index of the first number that is not 0.
-- Assumes nothing.
use mathlib.Core.Path.{◌≡◌, refl, sym, ap, ◌∙◌}
use mathlib.Core.Bool.{Bool, true, false, not, cond}
use mathlib.Core.List.{List, [], ◌∷◌, map}
use Prim.Native.Nat.{ℕ, zero, suc, ◌+◌, ◌≤◌, ◌<◌}
use native.Mathlib.Omega.{arith}
use native.Mathlib.Numerals.{add-one}
use lib.Dec.{eqb}
use lib.ListN.{length, drop, get_or, drop_of_length-le, get_or-eq_default}
use lib.Seq.{drop-cons}
use borrow.Author.Tests.{eq-eqb, ne_eqb, le-leb}
use Rattle.le.proofs.Runs.{and_left, and_right}
use Rattle.names.specs.Names.{good_units, good_name, good_in}
use Rattle.file_links.specs.declared.Link.{Link}
use Rattle.file_links.specs.Links.{links_of, good_link, good_links, has_short, has_name, first_of, no_link, chosen_link}
use Rattle.file_links.specs.Steps.{has, first_nonzero}
use Rattle.file_links.proofs.Tables.{link_at}

-- ---- the chosen link is a good one

either-good : (pool : List ℕ) (b : Bool) (l m : Link) → good_link pool l ≡ true → good_link pool m ≡ true → good_link pool (cond b l m) ≡ true
either-good pool true l m g h = g
either-good pool false l m g h = h

pub first_good : (pool : List ℕ) (wanted : Link → Bool) (ls : List Link) (other : Link) → good_links pool ls ≡ true → good_link pool other ≡ true
    → good_link pool (first_of wanted ls other) ≡ true
unfolding good_links first_of
first_good pool wanted [] other g h = h
first_good pool wanted (l ∷ ls) other g h =
    either-good pool (wanted l) l (first_of wanted ls other) (and_left _ _ g) (first_good pool wanted ls other (and_right (good_link pool l) _ g) h)

pub no-link-good : (pool : List ℕ) → good_link pool no_link ≡ true
unfolding good_link good_in good_name good_units
no-link-good pool = rw (le-leb 0 (length pool) (omega arith))

pub chosen-good : (pool : List ℕ) (ls : List Link) → good_links pool ls ≡ true → good_link pool (chosen_link ls) ≡ true
chosen-good pool ls g = first_good pool has_short ls (first_of has_name ls no_link) g (first_good pool has_name ls no_link g (no-link-good pool))

-- ---- the first number that is not 0, from index i on

module _ (s : List ℕ) (i : ℕ) where
  pub first_more : i < length s → get_or s i 0 ≡ 0 → i + first_nonzero (drop i s) ≡ i + 1 + first_nonzero (drop (i + 1) s)
  unfolding first_nonzero
  first_more h e = rw (add-one, drop-cons s i 0 h, eq-eqb _ _ e) (omega arith)

  pub first-here : i < length s → (get_or s i 0 ≡ 0 → ⊥) → i + first_nonzero (drop i s) ≡ i
  unfolding first_nonzero
  first-here h e = rw (drop-cons s i 0 h, ne_eqb _ _ e) (omega arith)

  pub first-end : length s ≤ i → i + first_nonzero (drop i s) ≡ i
  unfolding first_nonzero
  first-end h = rw (drop_of_length-le s h) (omega arith)

-- ---- the first link of a kind

-- the number that is 0 where a link has none
abbrev asked : Bool → Link → ℕ
asked true l = l.short
asked false l = l.length

pub has-asked : (short b : Bool) (l : Link) → short ≡ b → not (eqb (asked b l) 0) ≡ has short l
unfolding has
has-asked short true l e = ap (λ (x : Bool). has x l) (sym e)
has-asked short false l e = ap (λ (x : Bool). has x l) (sym e)

first_step : (b : Bool) (l : Link) (ls : List Link) (other found : Link) (n : ℕ) → found ≡ get_or ls n other → cond (not b) l found ≡ get_or (l ∷ ls) (cond b (suc n) 0) other
first_step true l ls other found n e = e
first_step false l ls other found n e = refl

-- it is the one at the first number that is not 0
first_found : (short : Bool) (ls : List Link) (other : Link) → first_of (has short) ls other ≡ get_or ls (first_nonzero (map (asked short) ls)) other
unfolding first_of first_nonzero
first_found short [] other = refl
first_found short (l ∷ ls) other =
    ap (λ (b : Bool). cond b l (first_of (has short) ls other)) (sym (has-asked short short l refl))
    ∙ first_step (eqb (asked short l) 0) l ls other (first_of (has short) ls other) (first_nonzero (map (asked short) ls)) (first_found short ls other)

-- ---- a table that is lent as three runs of numbers

-- its links give the runs back
lent : (places lengths shorts : List ℕ) → length lengths ≡ length places → length shorts ≡ length places
    → (map (asked true) (links_of places lengths shorts) ≡ shorts) × (map (asked false) (links_of places lengths shorts) ≡ lengths) × (length (links_of places lengths shorts) ≡ length places)
unfolding links_of
lent [] [] [] a b = (refl, refl, refl)
lent [] [] (s ∷ shorts) a b = absurd (omega arith)
lent [] (n ∷ lengths) shorts a b = absurd (omega arith)
lent (p ∷ places) [] shorts a b = absurd (omega arith)
lent (p ∷ places) (n ∷ lengths) [] a b = absurd (omega arith)
lent (p ∷ places) (n ∷ lengths) (s ∷ shorts) a b =
    let t = lent places lengths shorts (omega arith) (omega arith) in
    (ap (λ (l : List ℕ). s ∷ l) t.0, ap (λ (l : List ℕ). n ∷ l) t.1, ap suc t.2)

-- the link at an index
lent_at : (places lengths shorts : List ℕ) (i : ℕ) (other : Link) → length lengths ≡ length places → length shorts ≡ length places → i < length places
    → get_or (links_of places lengths shorts) i other ≡ link_at places lengths shorts i
unfolding links_of
lent_at [] lengths shorts i other a b h = absurd (omega arith)
lent_at (p ∷ places) [] shorts i other a b h = absurd (omega arith)
lent_at (p ∷ places) (n ∷ lengths) [] i other a b h = absurd (omega arith)
lent_at (p ∷ places) (n ∷ lengths) (s ∷ shorts) zero other a b h = refl
lent_at (p ∷ places) (n ∷ lengths) (s ∷ shorts) (suc i) other a b h = lent_at places lengths shorts i other (omega arith) (omega arith) (omega arith)

module _ (places lengths shorts : List ℕ) (a : length lengths ≡ length places) (b : length shorts ≡ length places) where
  abbrev links : List Link
  links = links_of places lengths shorts

  -- the chosen link is the one at i; with i past the table, none
  abbrev pub Picked : ℕ → Type 0
  Picked i = get_or links i no_link ≡ chosen_link links

  first-at : (short : Bool) (run : List ℕ) (other : Link) → map (asked short) links ≡ run → get_or links (first_nonzero run) other ≡ first_of (has short) links other
  first-at short run other e = ap (λ (l : List ℕ). get_or links (first_nonzero l) other) (sym e) ∙ sym (first_found short links other)

  past : (i : ℕ) (other : Link) → length places ≤ i → get_or links i other ≡ other
  past i other h = let t : length links ≡ length places = (lent places lengths shorts a b).2 in get_or-eq_default links other (omega (arith, t, h))

  pub pick-short : (i short : ℕ) → short ≡ first_nonzero shorts → short < length places → i ≡ short → Picked i
  unfolding has
  pick-short i short e h q =
      let other = first_of has_name links no_link in
      let k : i ≡ first_nonzero shorts = q ∙ e in
      let j : i < length places = omega arith in
      lent_at places lengths shorts i no_link a b j ∙ sym (lent_at places lengths shorts i other a b j) ∙ ap (λ (x : ℕ). get_or links x other) k
      ∙ first-at true shorts other (lent places lengths shorts a b).0

  pub pick-named : (i short named : ℕ) → short ≡ first_nonzero shorts → named ≡ first_nonzero lengths → length places ≤ short → i ≡ named → Picked i
  unfolding has
  pick-named i short named e d h q =
      let t = lent places lengths shorts a b in
      let other = first_of has_name links no_link in
      ap (λ (x : ℕ). get_or links x no_link) (q ∙ d) ∙ first-at false lengths no_link t.1 ∙ sym (past short other h) ∙ ap (λ (x : ℕ). get_or links x other) e
      ∙ first-at true shorts other t.0

  pub chosen_none : (i : ℕ) (r : Link) → Picked i → length places ≤ i → r ≡ no_link → r ≡ chosen_link links
  chosen_none i r p h e = e ∙ sym (past i no_link h) ∙ p

  pub chosen_at : (i : ℕ) → Picked i → i < length places → link_at places lengths shorts i ≡ chosen_link links
  chosen_at i p h = sym (lent_at places lengths shorts i no_link a b h) ∙ p
