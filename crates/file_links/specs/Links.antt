-- A file's links: when their table is right, and whose name stands for the file.
use Rattle.std.specs.Prelude.{Bool, true, not, cond, ◌&&◌, List, [], ◌∷◌, ℕ, eqb, length}
use Rattle.names.specs.Names.{name_in, good_in}
use Rattle.file_links.specs.declared.Link.{Link}

-- the name of a link
abbrev pub name_at : List ℕ → Link → List ℕ
name_at pool l = name_in pool l.place l.length

-- ---- the table

-- a name that lies inside the pool and may be one
unfoldable pub good_link : List ℕ → Link → Bool
good_link pool l = good_in pool l.place l.length

unfoldable pub good_links : List ℕ → List Link → Bool
good_links pool [] = true
good_links pool (l ∷ ls) = good_link pool l && good_links pool ls

-- ---- the name

abbrev pub has_short : Link → Bool
has_short l = not (eqb l.short 0)

abbrev pub has_name : Link → Bool
has_name l = not (eqb l.length 0)

-- the first link that is wanted, or another link
unfoldable pub first_of : (Link → Bool) → List Link → Link → Link
first_of wanted [] other = other
first_of wanted (l ∷ ls) other = cond (wanted l) l (first_of wanted ls other)

-- a link with an empty name
abbrev pub no_link : Link
no_link = record { place = 0; length = 0; short = 0 }

-- the first link with a short name; with no such link, the first whose name is not empty; else one with an empty name
abbrev pub chosen_link : List Link → Link
chosen_link ls = first_of has_short ls (first_of has_name ls no_link)

-- ---- a table that is lent as three runs of numbers

-- its links
unfoldable pub links_of : List ℕ → List ℕ → List ℕ → List Link
links_of [] lengths shorts = []
links_of (p ∷ places) [] shorts = []
links_of (p ∷ places) (n ∷ lengths) [] = []
links_of (p ∷ places) (n ∷ lengths) (s ∷ shorts) = record { place = p; length = n; short = s } ∷ links_of places lengths shorts

-- the three runs are equally long, and every link of theirs is good
unfoldable pub good_table : List ℕ → List ℕ → List ℕ → List ℕ → Bool
good_table pool places lengths shorts =
    eqb (length lengths) (length places)
    && (eqb (length shorts) (length places) && good_links pool (links_of places lengths shorts))
