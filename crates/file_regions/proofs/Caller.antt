-- What a caller writes is read as it is, and what it reads is what was written.
-- Assumes nothing.
use mathlib.Core.Path.{◌≡◌, refl, sym, ap, ap₂, ◌∙◌}
use mathlib.Core.Bool.{Bool, true, false, ◌||◌}
use mathlib.Core.List.{List, [], ◌∷◌, ◌++◌}
use Prim.Native.Nat.{ℕ, ◌+◌, ◌*◌, ◌^◌, ◌<◌}
use native.Mathlib.Omega.{arith}
use lib.Dec.{eqb}
use lib.ListN.{length, drop, length-append}
use lib.Seq.{drop_at, drop-drop}
use borrow.Author.Tests.{eq-eqb}
use Rattle.le.specs.Numbers.{le, number_at, encode}
use Rattle.le.proofs.Numbers.{unle-le}
use Rattle.file_regions.specs.declared.Asked.{Asked}
use Rattle.file_regions.specs.declared.Region.{Region}
use Rattle.file_regions.specs.Regions.{asked_of, regions_header, region_bytes, list_bytes, regions_bytes}
use Rattle.file_regions.specs.Caller.{input_for, region_at, regions_from, entries_in, regions_in, is_whole}
use Rattle.file_regions.proofs.Writing.{length-header, length-region}

-- what is asked for
pub asked-back : (a : Asked) → a.offset < 2 ^ 64 → a.length < 2 ^ 64 → a.usage < 2 ^ 32 → asked_of (input_for a) ≡ a
unfolding asked_of number_at encode le
asked-back a h k l = rw (unle-le 8 a.offset h, unle-le 8 a.length k, unle-le 4 a.usage l)

-- a region whose numbers fit their bytes
pub record Narrow (r : Region) : Type 0 where
  pub offset : r.offset < 2 ^ 64
  pub length : r.length < 2 ^ 64
  pub usage : r.usage < 2 ^ 32

abbrev pub AllNarrow : List Region → Type 0
AllNarrow [] = Unit {0}
AllNarrow (r ∷ rs) = Narrow r × AllNarrow rs

-- the first of a run of bytes
first_back : (r : Region) (t : List ℕ) → Narrow r → region_at (region_bytes r ++ t) 0 ≡ r
unfolding number_at encode le
first_back r t p = rw (unle-le 8 r.offset p.offset, unle-le 8 r.length p.length, unle-le 4 r.usage p.usage)

region-drop : (s : List ℕ) (at : ℕ) → region_at (drop at s) 0 ≡ region_at s at
unfolding number_at
region-drop s at = rw (drop-drop 8 at s, drop-drop 16 at s)

-- regions at a place
regions-back : (rs : List Region) (s : List ℕ) (at : ℕ) → drop at s ≡ list_bytes rs → AllNarrow rs → regions_from s at (length rs) ≡ rs
unfolding regions_from list_bytes
regions-back [] s at e p = refl
regions-back (r ∷ rs) s at e p =
    let head : region_at s at ≡ r = sym (region-drop s at) ∙ ap (λ (l : List ℕ). region_at l 0) e ∙ first_back r (list_bytes rs) p.0 in
    let next : drop (at + 24) s ≡ list_bytes rs =
    sym (drop-drop 24 at s) ∙ ap (λ (l : List ℕ). drop 24 l) e ∙ drop_at (region_bytes r) (list_bytes rs) 24 (length-region r) in
    ap₂ (λ (q : Region) (qs : List Region). q ∷ qs) head (regions-back rs s (at + 24) next p.1)

-- what stands behind the header of a reply
pub list_back : (total given : ℕ) (rs : List Region) → drop 16 (regions_header total given ++ list_bytes rs) ≡ list_bytes rs
list_back total given rs = drop_at (regions_header total given) (list_bytes rs) 16 (length-header total given)

-- the regions of a reply
count-back : (n : ℕ) (rs : List Region) → length rs < 2 ^ 32 → entries_in (regions_bytes n rs) ≡ length rs
unfolding number_at encode le
count-back n rs h = unle-le 4 (length rs) h

pub in-back : (n : ℕ) (rs : List Region) → length rs < 2 ^ 32 → AllNarrow rs → regions_in (regions_bytes n rs) ≡ rs
in-back n rs h p = ap (regions_from (regions_bytes n rs) 16) (count-back n rs h) ∙ regions-back rs (regions_bytes n rs) 16 (list_back n (length rs) rs) p

-- which fill it
length-list : (rs : List Region) → length (list_bytes rs) ≡ 24 * length rs
unfolding list_bytes
length-list [] = refl
length-list (r ∷ rs) = omega (arith, length-append (region_bytes r) (list_bytes rs), length-region r, length-list rs)

pub whole_back : (n : ℕ) (rs : List Region) → length rs < 2 ^ 32 → is_whole (regions_bytes n rs) ≡ true
unfolding is_whole
whole_back n rs h =
    let s = regions_bytes n rs in
    let e : length s ≡ 16 + 24 * entries_in s =
    omega (arith, count-back n rs h, length-append (regions_header n (length rs)) (list_bytes rs), length-header n (length rs), length-list rs) in
    by (eqb (length s) 0) (eq-eqb (length s) (16 + 24 * entries_in s) e)
  where
    by : (t : Bool) {u : Bool} → u ≡ true → t || u ≡ true
    by true e = refl
    by false e = e

-- the first alone
pub at_back : (n : ℕ) (r : Region) (rs : List Region) → Narrow r → region_at (regions_bytes n (r ∷ rs)) 16 ≡ r
unfolding list_bytes
at_back n r rs p =
    sym (region-drop (regions_bytes n (r ∷ rs)) 16) ∙ ap (λ (l : List ℕ). region_at l 0) (list_back n (length (r ∷ rs)) (r ∷ rs)) ∙ first_back r (list_bytes rs) p
