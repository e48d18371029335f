-- The judgement of a table of links, and the search through one, from an index on: what the rest from there says is what the whole says.
-- Assumes nothing.
use mathlib.Core.Path.{◌≡◌, sym, ap, ◌∙◌}
use mathlib.Core.Bool.{Bool, true, false, cond, ◌&&◌}
use mathlib.Core.List.{List, [], ◌∷◌}
use Prim.Native.Nat.{ℕ, ◌+◌, ◌≤◌, ◌<◌}
use native.Mathlib.Numerals.{add-one}
use native.Mathlib.Omega.{arith}
use lib.ListN.{length, drop, get_or, drop_of_length-le}
use lib.Seq.{drop-cons}
use Rattle.file_links.specs.declared.Link.{Link}
use Rattle.file_links.specs.Links.{no_link, first_of, chosen_link, good_link, good_links}
use Rattle.file_links.specs.Steps.{has}

-- the link at an index
abbrev pub link_at : List Link → ℕ → Link
link_at ls i = get_or ls i no_link

module _ {X : Type 0} (f : List Link → X) (ls : List Link) (i : ℕ) where
  -- the links from index i on say what all of them say
  abbrev pub Rest : Type 0
  Rest = f (drop i ls) ≡ f ls

  module _ (p : Rest) where
    rest-none : length ls ≤ i → f [] ≡ f ls
    rest-none h = sym (ap f (drop_of_length-le ls h)) ∙ p

    rest_some : i < length ls → f (link_at ls i ∷ drop (i + 1) ls) ≡ f ls
    rest_some h = rw add-one (sym (ap f (drop-cons ls i no_link h)) ∙ p)

-- ---- the search

module _ (short : Bool) (ls : List Link) (other : Link) where
  abbrev pub search : List Link → Link
  search part = first_of (has short) part other

  -- the search may stop at i
  abbrev pub Stops : ℕ → Type 0
  Stops i = (length ls ≤ i → other ≡ search ls) × (i < length ls → link_at ls i ≡ search ls)

  module _ (i : ℕ) (p : Rest search ls i) where
    pub stops-past : length ls ≤ i → Stops i
    unfolding first_of
    stops-past h = ((λ _. rest-none search ls i p h), λ k. absurd (omega arith))

    module _ (h : i < length ls) where
      one : (t : Bool) → has short (link_at ls i) ≡ t → search (link_at ls i ∷ drop (i + 1) ls) ≡ cond t (link_at ls i) (search (drop (i + 1) ls))
      unfolding first_of
      one t k = ap (λ (x : Bool). cond x (link_at ls i) (search (drop (i + 1) ls))) k

      pub stops-here : has short (link_at ls i) ≡ true → Stops i
      stops-here y = ((λ k. absurd (omega arith)), λ _. sym (one true y) ∙ rest_some search ls i p h)

      pub goes_on : has short (link_at ls i) ≡ false → Rest search ls (i + 1)
      goes_on y = sym (one false y) ∙ rest_some search ls i p h

-- the search for a short name, where no name was found before but an empty one
pub chosen : (ls : List Link) (a b r : Link) → a ≡ no_link → b ≡ first_of (has false) ls a → r ≡ first_of (has true) ls b → r ≡ chosen_link ls
unfolding has
chosen ls a b r e f g = g ∙ ap (λ (l : Link). first_of (has true) ls l) (f ∙ ap (λ (l : Link). first_of (has false) ls l) e)

-- ---- the judgement

module _ (pool : List ℕ) (ls : List Link) (i : ℕ) (p : Rest (good_links pool) ls i) where
  pub all-good : length ls ≤ i → true ≡ good_links pool ls
  unfolding good_links
  all-good h = rest-none (good_links pool) ls i p h

  module _ (h : i < length ls) where
    one-judged : (t : Bool) → good_link pool (link_at ls i) ≡ t → good_links pool (link_at ls i ∷ drop (i + 1) ls) ≡ t && good_links pool (drop (i + 1) ls)
    unfolding good_links
    one-judged t k = ap (λ (x : Bool). x && good_links pool (drop (i + 1) ls)) k

    pub one-bad : good_link pool (link_at ls i) ≡ false → false ≡ good_links pool ls
    one-bad y = sym (one-judged false y) ∙ rest_some (good_links pool) ls i p h

    pub good-on : good_link pool (link_at ls i) ≡ true → Rest (good_links pool) ls (i + 1)
    good-on y = sym (one-judged true y) ∙ rest_some (good_links pool) ls i p h
