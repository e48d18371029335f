-- What the steps of the searches answer.
use Rattle.std.specs.Prelude.{Bool, true, false, cond, List, [], ◌∷◌, ℕ, suc, eqb}
use Rattle.file_links.specs.declared.Link.{Link}
use Rattle.file_links.specs.Links.{has_short, has_name}

-- a link has a short name, or, where that is not asked for, a name
unfoldable pub has : Bool → Link → Bool
has true l = has_short l
has false l = has_name l

-- the index of the first number that is not 0, or how many numbers there are
unfoldable pub first_nonzero : List ℕ → ℕ
first_nonzero [] = 0
first_nonzero (x ∷ xs) = cond (eqb x 0) (suc (first_nonzero xs)) 0
