-- An input that is judged test by test, and GUIDs compared by their halves.
-- Assumes nothing.
use mathlib.Core.Path.{◌≡◌, refl, sym}
use mathlib.Core.Bool.{Bool, true, false}
use mathlib.Core.List.{List}
use Prim.Native.Nat.{ℕ, ◌+◌, ◌^◌, ◌≤◌, ◌<◌}
use native.Mathlib.Omega.{arith}
use lib.Dec.{eqb}
use lib.ListN.{length}
use borrow.Author.Tests.{le-leb, lt-leb, eqb-true, eqb-false, eq-eqb, ne_eqb}
use Rattle.le.specs.Numbers.{unle, number_at}
use Rattle.le.proofs.Places.{number_lt}
use Rattle.file_ids.specs.Ids.{Id}
use Rattle.file_ids.proofs.Ids.{id-halves}
use Rattle.reparse_point.specs.Reparse.{header_length}
use Rattle.reparse_point.proofs.Writing.{header-least}
use Rattle.reparse_update.specs.Update.{given_tag, given_length, given_reserved, is_laid_out}

-- ---- judging one, test by test

pub none-short : (input : List ℕ) → length input < 8 → is_laid_out input ≡ false
unfolding is_laid_out
none-short input h =
    let l : length input < header_length (given_tag input) = omega (arith, h, header-least (given_tag input)) in
    rw (lt-leb _ _ l)

pub none-cut : (input : List ℕ) (head : ℕ) → head ≡ header_length (given_tag input) → length input < head → is_laid_out input ≡ false
unfolding is_laid_out
none-cut input head a h = rw (← a, lt-leb _ _ h)

module _ (input : List ℕ) (head n : ℕ) (a : head ≡ header_length (given_tag input)) (b : n ≡ given_length input) where
  pub none_other : head ≤ length input → (head + n ≡ length input → ⊥) → is_laid_out input ≡ false
  unfolding is_laid_out
  none_other h w = rw (← a, ← b, le-leb _ _ h, ne_eqb _ _ w)

  module _ (h : head ≤ length input) (w : head + n ≡ length input) where
    pub none-long : 16384 < length input → is_laid_out input ≡ false
    unfolding is_laid_out
    none-long l = rw (← a, ← b, le-leb _ _ h, eq-eqb _ _ w, lt-leb _ _ l)

    pub by-reserved : length input ≤ 16384 → is_laid_out input ≡ eqb (given_reserved input) 0
    unfolding is_laid_out
    by-reserved l = rw (← a, ← b, le-leb _ _ h, eq-eqb _ _ w, le-leb _ _ l)

-- ---- GUIDs by their halves

module _ (a b : List ℕ) (i : Id a) (j : Id b) where
  pub low-differs : (number_at a 0 8 ≡ number_at b 0 8 → ⊥) → eqb (unle a) (unle b) ≡ false
  low-differs n =
      ne_eqb (unle a) (unle b) (λ e.
      let x : number_at a 0 8 < 2 ^ 64 = number_lt a 0 8 i.bytes in
      let y : number_at b 0 8 < 2 ^ 64 = number_lt b 0 8 j.bytes in
      n (omega (arith, e, id-halves a i, id-halves b j, x, y)))

  pub low_same : number_at a 0 8 ≡ number_at b 0 8 → eqb (number_at a 8 8) (number_at b 8 8) ≡ eqb (unle a) (unle b)
  low_same e = go (eqb (number_at a 8 8) (number_at b 8 8)) refl
    where
      go : (t : Bool) → eqb (number_at a 8 8) (number_at b 8 8) ≡ t → t ≡ eqb (unle a) (unle b)
      go true q = let h : number_at a 8 8 ≡ number_at b 8 8 = eqb-true _ _ q in sym (eq-eqb (unle a) (unle b) (omega (arith, e, h, id-halves a i, id-halves b j)))
      go false q =
          sym (ne_eqb (unle a) (unle b) (λ w. let h : number_at a 8 8 ≡ number_at b 8 8 = omega (arith, e, w, id-halves a i, id-halves b j) in eqb-false _ _ q h))
