-- A table of links by its indices, and the judgement of it from an index on.
-- Assumes nothing.
use mathlib.Core.Path.{◌≡◌, sym, ap, ◌∙◌}
use mathlib.Core.Bool.{Bool, true, false, not, ◌&&◌}
use mathlib.Core.List.{List}
use Prim.Native.Nat.{ℕ, ◌+◌, ◌≤◌, ◌<◌}
use native.Mathlib.Omega.{arith}
use native.Mathlib.Numerals.{add-one}
use lib.Dec.{eqb}
use lib.ListN.{length, drop, get_or, drop_of_length-le}
use lib.Seq.{drop-cons}
use borrow.Author.Tests.{eqb-true, not-true, not-false}
use Rattle.le.proofs.Runs.{and_left, and_right}
use Rattle.names.specs.Names.{good_name}
use Rattle.names.proofs.Names.{in-fits, in-named}
use Rattle.file_links.specs.declared.Link.{Link}
use Rattle.file_links.specs.Links.{links_of, name_at, good_link, good_links, good_table}

-- ---- what a good link tells

pub link_fits : (pool : List ℕ) (l : Link) → good_link pool l ≡ true → l.place + l.length ≤ length pool
unfolding good_link
link_fits pool l e = in-fits pool l.place l.length e

pub link-named : (pool : List ℕ) (l : Link) → good_link pool l ≡ true → good_name (name_at pool l) ≡ true
unfolding good_link
link-named pool l e = in-named pool l.place l.length e

-- ---- the table

-- the link at an index
abbrev pub link_at : List ℕ → List ℕ → List ℕ → ℕ → Link
link_at places lengths shorts i = record { place = get_or places i 0; length = get_or lengths i 0; short = get_or shorts i 0 }

module _ (pool places lengths shorts : List ℕ) where
  -- the judgement of the links from index i on
  abbrev pub good_from : ℕ → Bool
  good_from i = good_links pool (links_of (drop i places) (drop i lengths) (drop i shorts))

  module _ (a : length lengths ≡ length places) (b : length shorts ≡ length places) where
    module _ (i : ℕ) (h : i < length places) (r : Bool) (e : r ≡ good_link pool (link_at places lengths shorts i)) where
      opened : good_from i ≡ r && good_from (i + 1)
      unfolding good_links links_of good_link
      opened = rw (add-one, e, drop-cons places i 0 h, drop-cons lengths i 0 (omega (arith, a)), drop-cons shorts i 0 (omega (arith, b)))

      pub good-from-good : not r ≡ false → good_from i ≡ good_table pool places lengths shorts → good_from (i + 1) ≡ good_table pool places lengths shorts
      good-from-good t v = let k : r ≡ true = not-false r t in sym (opened ∙ ap (λ (x : Bool). x && good_from (i + 1)) k) ∙ v

      pub good-from-bad : not r ≡ true → good_from i ≡ good_table pool places lengths shorts → false ≡ good_table pool places lengths shorts
      good-from-bad t v = let k : r ≡ false = not-true r t in sym (opened ∙ ap (λ (x : Bool). x && good_from (i + 1)) k) ∙ v

  pub good-from-end : (i : ℕ) → length places ≤ i → good_from i ≡ good_table pool places lengths shorts → true ≡ good_table pool places lengths shorts
  unfolding good_links links_of
  good-from-end i h v = sym (ap (λ (x : List ℕ). good_links pool (links_of x (drop i lengths) (drop i shorts))) (drop_of_length-le places h)) ∙ v

  -- what a good table tells
  pub table-told : good_table pool places lengths shorts ≡ true
      → (length lengths ≡ length places) × (length shorts ≡ length places) × (good_links pool (links_of places lengths shorts) ≡ true)
  unfolding good_table
  table-told g =
      let k = and_right (eqb (length lengths) (length places)) _ g in (
        eqb-true _ _ (and_left _ _ g),
        eqb-true _ _ (and_left (eqb (length shorts) (length places)) _ k),
        and_right (eqb (length shorts) (length places)) _ k,
      )
