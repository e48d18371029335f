-- What an array by value tells: how many elements it has, and that each is a byte. `start.good` is such a fact of each parameter.
-- Assumes nothing.
use mathlib.Core.Path.{◌≡◌, refl, ap, subst}
use mathlib.Core.List.{List, [], ◌∷◌, map}
use Prim.Native.Nat.{ℕ, zero, suc}
use native.Mathlib.Omega.{arith}
use lib.Dec.{lit<}
use mir.Syntax.{w8}
use mir.Val.{Val}
use denote.Laws.{Is}
use denote.Shadow.{shadow}
use denote.Array.{Array, each}
use denote.Struct.Field.{u8-field}
use borrow.Kind.Array.{e_int, good_length}
use Rattle.le.specs.Bytes.{Bytes}
use Rattle.file_ids.specs.Ids.{Id}

each-byte : (xs : List ℕ) (us : List Val) → shadow (each ℕ (e_int w8).ty.own_val xs us) → Bytes xs
each-byte [] us p i = lit< tt
each-byte (x ∷ xs) [] p i = absurd p
each-byte (x ∷ xs) (u ∷ us) p zero = omega (arith, p.0.1)
each-byte (x ∷ xs) (u ∷ us) p (suc i) = each-byte xs us p.1 i

pub array-id : (xs : List ℕ) (vs : List Val) → Is (Array (e_int w8).ty 16) xs vs → Id xs
array-id xs vs p = record { size = good_length (e_int w8) 16 xs vs p; bytes = each-byte xs p.0 p.1.1 }

-- the same of a struct's field, which `good` has as a list that each element was put into
same_map : (xs : List ℕ) → map u8-field.into xs ≡ xs
same_map [] = refl
same_map (x ∷ xs) = ap (λ (l : List ℕ). x ∷ l) (same_map xs)

pub field-id : (xs : List ℕ) (vs : List Val) → Is (Array (e_int w8).ty 16) (map u8-field.into xs) vs → Id xs
field-id xs vs p = subst Id (same_map xs) (array-id (map u8-field.into xs) vs p)
