-- Laws of the rule for a name, whole or in two parts.
-- Assumes nothing.
use mathlib.Core.Path.{◌≡◌, refl, sym, ◌∙◌}
use mathlib.Core.List.{List, ◌++◌}
use mathlib.Core.Bool.{Bool, true, false, not, ◌&&◌}
use Prim.Native.Nat.{ℕ, ◌+◌, ◌%◌, ◌≤◌, ◌<◌}
use native.Mathlib.Omega.{arith}
use lib.Dec.{leb, eqb}
use lib.ListN.{length, take, drop, length-append}
use borrow.Author.Tests.{leb-true, leb-false, not-true, not-false, eq-eqb, ne_eqb, le-leb, lt-leb}
use Rattle.le.proofs.Runs.{and_left, and_right}
use Rattle.names.specs.Names.{good_units, good_name, name_in, good_in}
use Rattle.names.proofs.Units.{units-append}

-- what a good name says of its length
pub short : (name : List ℕ) → good_name name ≡ true → length name ≤ 510
unfolding good_name
short name e = leb-true _ _ (and_left (leb (length name) 510) _ e)

-- ---- whole

module _ (name : List ℕ) where
  pub long-name : 510 < length name → false ≡ good_name name
  unfolding good_name
  long-name h = rw (lt-leb _ _ h)

  pub odd-name : length name ≤ 510 → (length name % 2 ≡ 0 → ⊥) → false ≡ good_name name
  unfolding good_name
  odd-name h n = rw (le-leb _ _ h, ne_eqb _ _ n)

  pub even-name : length name ≤ 510 → length name % 2 ≡ 0 → good_units name ≡ good_name name
  unfolding good_name
  even-name h e = rw (le-leb _ _ h, eq-eqb _ _ e)

-- ---- in two parts, the first of which has whole code units

and-false : (a b : Bool) → a && (b && false) ≡ false
and-false true true = refl
and-false true false = refl
and-false false b = refl

regroup : (e a b : Bool) → e && (a && b) ≡ a && ((e && b) && true)
regroup true true true = refl
regroup true true false = refl
regroup true false b = refl
regroup false true b = refl
regroup false false b = refl

module _ (head tail : List ℕ) (even : length head % 2 ≡ 0) where
  parts-short : length head + length tail ≤ 510 → good_name (head ++ tail) ≡ good_name head && (good_name tail && true)
  unfolding good_name
  parts-short h =
      let e : (length head + length tail) % 2 ≡ length tail % 2 = omega arith in
      rw (length-append, le-leb (length head + length tail) 510 h, le-leb (length head) 510 (omega arith), le-leb (length tail) 510 (omega arith), e, eq-eqb (length head % 2) 0 even, units-append head tail even)
      (regroup (eqb (length tail % 2) 0) (good_units head) (good_units tail))

  parts : (b : Bool) → leb (length head + length tail) 510 ≡ b → good_name (head ++ tail) ≡ good_name head && (good_name tail && b)
  parts true e = parts-short (leb-true _ _ e)
  parts false e =
      sym (long-name (head ++ tail) (omega (arith, leb-false (length head + length tail) 510 e, length-append head tail)))
      ∙ sym (and-false (good_name head) (good_name tail))

  -- g and h are what `good_name` returned of the parts
  module _ (g : Bool) (p : g ≡ good_name head) where
    pub head-bad : not g ≡ true → false ≡ good_name (head ++ tail)
    head-bad n = rw (parts (leb (length head + length tail) 510) refl, ← p, not-true g n)

    module _ (h : Bool) (q : h ≡ good_name tail) (m : not g ≡ false) where
      pub tail-bad : not h ≡ true → false ≡ good_name (head ++ tail)
      tail-bad n = rw (parts (leb (length head + length tail) 510) refl, ← p, ← q, not-false g m, not-true h n)

      pub both-good : not h ≡ false → leb (length head + length tail) 510 ≡ good_name (head ++ tail)
      both-good n = rw (parts (leb (length head + length tail) 510) refl, ← p, ← q, not-false g m, not-false h n)

-- ---- in a pool

module _ (pool : List ℕ) (place n : ℕ) where
  -- it ends past the pool
  pub past-pool : length pool < place + n → false ≡ good_in pool place n
  unfolding good_in
  past-pool h = rw (lt-leb _ _ h)

  -- it does not
  pub inside-pool : (k : ℕ) (r : Bool) → place + n ≤ length pool → k ≡ n → r ≡ good_name (take k (drop place pool)) → r ≡ good_in pool place n
  unfolding good_in
  inside-pool k r h e g = g ∙ rw (e, le-leb _ _ h)

  -- what a good one tells
  module _ (e : good_in pool place n ≡ true) where
    pub in-fits : place + n ≤ length pool
    unfolding good_in
    in-fits = leb-true _ _ (and_left _ _ e)

    pub in-named : good_name (name_in pool place n) ≡ true
    unfolding good_in
    in-named = and_right (leb (place + n) (length pool)) _ e
