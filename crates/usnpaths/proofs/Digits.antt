-- An id read from digits: each digit's value, the number digit by digit, and where the digits start.
-- Assumes nothing.
use mathlib.Core.Path.{◌≡◌, refl, sym, ap, ◌∙◌}
use mathlib.Core.Bool.{Bool, true, false, cond, ◌&&◌}
use mathlib.Core.List.{List, [], ◌∷◌}
use Rattle.std.specs.Prelude.{Option, None, Some}
use Prim.Native.Nat.{ℕ, ◌+◌, ◌-◌, ◌*◌, ◌^◌, ◌≤◌, ◌<◌, ◌/◌, ◌%◌}
use native.Mathlib.Nat.{pow-suc, pow-le-pow_right}
use native.Mathlib.Numerals.{add-one}
use native.Mathlib.Omega.{arith}
use lib.Dec.{leb, eqb, lit<}
use lib.ListN.{length, take, drop, get_or, length-drop, drop_of_length-le}
use lib.Seq.{drop-cons, take_all}
use borrow.Author.Tests.{le-leb, lt-leb, leb-true, eq-eqb, ne_eqb}
use Rattle.le.proofs.Runs.{and_left, and_right}
use Rattle.le.specs.Bytes.{begins}
use Rattle.path_listing.specs.Text.{within}
use Rattle.usnpaths.specs.Root.{digit_of, digits_from, start_of, digits_of, id_of}

-- ---- a digit

below : (a c b : ℕ) → b < a → within a c b ≡ false
below a c b h = rw (lt-leb a b h)

above : (a c b : ℕ) → c < b → within a c b ≡ false
above a c b h = go (leb a b)
  where
    go : (t : Bool) → t && leb b c ≡ false
    go true = lt-leb b c h
    go false = refl

inside : (a c b : ℕ) → a ≤ b → b ≤ c → within a c b ≡ true
inside a c b h k = rw (le-leb a b h, le-leb b c k)

within-both : (a c b : ℕ) → within a c b ≡ true → (a ≤ b) × (b ≤ c)
within-both a c b e = (leb-true a b (and_left (leb a b) (leb b c) e), leb-true b c (and_right (leb a b) (leb b c) e))

pub digit-small : (b d : ℕ) → digit_of b ≡ Some d → d < 16
unfolding digit_of
digit-small b d e = by (within 48 57 b) (within 65 70 b) (within 97 102 b) refl refl refl e
  where
    by : (t u v : Bool) → within 48 57 b ≡ t → within 65 70 b ≡ u → within 97 102 b ≡ v
        → cond t (Some (b - 48)) (cond u (Some (b - 55)) (cond v (Some (b - 87)) None)) ≡ Some d
        → d < 16
    by true u v p q r e = let z : b - 48 ≡ d = cc in omega (arith, z, within-both 48 57 b p)
    by false true v p q r e = let z : b - 55 ≡ d = cc in omega (arith, z, within-both 65 70 b q)
    by false false true p q r e = let z : b - 87 ≡ d = cc in omega (arith, z, within-both 97 102 b r)
    by false false false p q r e = let z : ◌≡◌ {A = ℕ} 0 1 = cc in absurd (omega arith)

-- ---- digits

-- a number of at most 31 digits has a digit's room left
pub has_room : (n i : ℕ) → n < 16 ^ i → i ≤ 31 → n < 2 ^ 124
has_room n i h k =
    let m : 16 ^ i ≤ 16 ^ 31 = pow-le-pow_right {n = 16} (lit< tt) {j = 31} k in
    omega arith

-- the same of a number by halves of 64 bits: a digit more
pub shift-number : (low high d : ℕ) → (low % 2 ^ 60 * 16 + d) + 2 ^ 64 * (high * 16 + low / 2 ^ 60) ≡ 16 * (low + 2 ^ 64 * high) + d
shift-number low high d = omega arith

-- and the upper half of one of at most 31 digits has a digit's room left
pub high_small : (low high i : ℕ) → low + 2 ^ 64 * high < 16 ^ i → i ≤ 31 → high < 2 ^ 60
high_small low high i h k =
    let m : 16 ^ i ≤ 16 ^ 31 = pow-le-pow_right {n = 16} (lit< tt) {j = 31} k in
    omega arith

-- the digits of s before i make n
pub record Read (s : List ℕ) (i n : ℕ) : Type 0 where
  pub inside : i ≤ length s
  pub fits : n < 16 ^ i
  pub onward : digits_from n (drop i s) ≡ digits_from 0 s

module _ (s : List ℕ) where
  pub read-start : Read s 0 0
  read-start = record { inside = omega arith; fits = omega arith; onward = refl }

  module _ (i n : ℕ) (u : Read s i n) (h : i < length s) where
    pub read_more : (d : ℕ) → digit_of (get_or s i 0) ≡ Some d → Read s (i + 1) (16 * n + d)
    unfolding digits_from
    read_more d e =
        let k : d < 16 = digit-small (get_or s i 0) d e in
        record {
          inside = omega arith;
          fits = rw (add-one, pow-suc) (omega (arith, u.fits, k));
          onward = rw add-one (sym (ap (digits_from n) (drop-cons s i 0 h) ∙ rw e) ∙ u.onward);
        }

    pub read-bad : digit_of (get_or s i 0) ≡ None → None ≡ digits_from 0 s
    unfolding digits_from
    read-bad e = sym (sym u.onward ∙ ap (digits_from n) (drop-cons s i 0 h) ∙ rw e)

  pub read-end : (i n : ℕ) → Read s i n → length s ≤ i → Some n ≡ digits_from 0 s
  unfolding digits_from
  read-end i n u h = sym (ap (digits_from n) (drop_of_length-le s {i = i} h)) ∙ u.onward

-- ---- a word

pub start-short : (word : List ℕ) → length word < 2 → 0 ≡ start_of word
unfolding begins
start-short [] h = refl
start-short (a ∷ []) h = go (eqb 48 a)
  where
    go : (t : Bool) → ◌≡◌ {A = ℕ} 0 (cond (t && false) 2 0)
    go true = refl
    go false = refl
start-short (a ∷ b ∷ word) h = absurd (omega arith)

pub start-other : (word : List ℕ) → 2 ≤ length word → (get_or word 0 0 ≡ 48 → ⊥) → 0 ≡ start_of word
unfolding begins
start-other [] h e = absurd (omega arith)
start-other (a ∷ word) h e = rw (ne_eqb 48 a (λ q. e (sym q)))

pub start-zero : (word : List ℕ) → 2 ≤ length word → get_or word 0 0 ≡ 48 → (get_or word 1 0 ≡ 120 → ⊥) → 0 ≡ start_of word
unfolding begins
start-zero [] h e f = absurd (omega arith)
start-zero (a ∷ []) h e f = absurd (omega arith)
start-zero (a ∷ b ∷ word) h e f = rw (eq-eqb 48 a (sym e), ne_eqb 120 b (λ q. f (sym q)))

pub start-both : (word : List ℕ) → 2 ≤ length word → get_or word 0 0 ≡ 48 → get_or word 1 0 ≡ 120 → 2 ≡ start_of word
unfolding begins
start-both [] h e f = absurd (omega arith)
start-both (a ∷ []) h e f = absurd (omega arith)
start-both (a ∷ b ∷ word) h e f = rw (eq-eqb 48 a (sym e), eq-eqb 120 b (sym f))

digits-at : (word : List ℕ) (r : ℕ) → r ≡ start_of word → digits_of word ≡ drop r word
digits-at word r e = ap (λ (n : ℕ). drop n word) (sym e)

-- the digits from r on
module _ (word : List ℕ) (r : ℕ) (e : r ≡ start_of word) where
  size : length (digits_of word) ≡ length word - r
  size = ap length (digits-at word r e) ∙ length-drop r word

  pub root_none : length word - r < 1 → None ≡ id_of word
  unfolding id_of
  root_none h = rw (below 1 32 (length (digits_of word)) (omega (arith, size)))

  pub root-long : 32 < length word - r → None ≡ id_of word
  unfolding id_of
  root-long h = rw (above 1 32 (length (digits_of word)) (omega (arith, size)))

  pub root-some : (x : Option ℕ) → 1 ≤ length word - r → length word - r ≤ 32 → x ≡ digits_from 0 (take (length word - r) (drop r word)) → x ≡ id_of word
  unfolding id_of
  root-some x h k q =
      let t : take (length word - r) (drop r word) ≡ digits_of word = take_all (length word - r) (drop r word) (omega (arith, length-drop r word)) ∙ sym (digits-at word r e) in
      rw (inside 1 32 (length (digits_of word)) (omega (arith, size)) (omega (arith, size))) (q ∙ ap (digits_from 0) t)
