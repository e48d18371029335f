-- A path as text: which characters are shown, what the writers leave, and the run of characters, turn by turn.
-- Assumes nothing.
use mathlib.Core.Path.{◌≡◌, refl, sym, ap, ◌∙◌}
use mathlib.Core.Bool.{true, false, not}
use mathlib.Core.List.{List, [], ◌∷◌, ◌++◌, append_assoc, append-nil}
use Prim.Native.Nat.{ℕ, ◌+◌, ◌-◌, ◌*◌, ◌/◌, ◌%◌, ◌≤◌, ◌<◌}
use native.Mathlib.Nat.{not-suc-le-zero, le_of_suc-le-suc}
use native.Mathlib.Omega.{arith}
use lib.Dec.{leb, eqb}
use lib.ListN.{length, take, drop, set, length-take, length-drop}
use lib.Seq.{take_at, drop-drop, length-take-le}
use borrow.Author.Tests.{lt-ltb, le-ltb, le-leb, lt-leb, leb-true}
use Rattle.le.specs.Numbers.{unle, number_at}
use Rattle.le.proofs.Runs.{and_left, and_right}
use Rattle.le.proofs.Tail.{Put, put_first, put_next, put_byte, lent, back}
use Rattle.hex_text.specs.Hex.{hex_byte, hex_bytes}
use Rattle.usn_listing.proofs.Writing.{same_back, Written, put_written}
use Rattle.path_listing.specs.Text.{within, is_pair, pair_of, is_control, is_shown, utf8, escape, unit_text, pair_text, text}

-- ---- characters

-- a control character, test by test
module _ (c : ℕ) where
  pub control-low : c < 0x20 → true ≡ is_control c
  unfolding is_control
  control-low h = rw (lt-ltb c 0x20 h)

  module _ (h : 0x20 ≤ c) where
    pub control-high : within 0x7F 0x9F c ≡ true → true ≡ is_control c
    unfolding is_control
    control-high e = rw (le-ltb c 0x20 h, e)

    module _ (d : within 0x7F 0x9F c ≡ false) where
      pub control-line : within 0x2028 0x202E c ≡ true → true ≡ is_control c
      unfolding is_control
      control-line e = rw (le-ltb c 0x20 h, d, e)

      pub control-other : within 0x2028 0x202E c ≡ false → within 0x2066 0x2069 c ≡ is_control c
      unfolding is_control
      control-other e = rw (le-ltb c 0x20 h, d, e)

-- a character that is not shown, test by test, and what the last test finds of any other
module _ (c : ℕ) where
  pub shown-control : is_control c ≡ true → false ≡ is_shown c
  unfolding is_shown
  shown-control e = rw e

  module _ (d : is_control c ≡ false) where
    pub shown-half : within 0xD800 0xDFFF c ≡ true → false ≡ is_shown c
    unfolding is_shown
    shown-half e = rw (d, e)

    module _ (f : within 0xD800 0xDFFF c ≡ false) where
      pub shown-none : within 0xFDD0 0xFDEF c ≡ true → false ≡ is_shown c
      unfolding is_shown
      shown-none e = rw (d, f, e)

      module _ (g : within 0xFDD0 0xFDEF c ≡ false) where
        pub shown-last : 0xFFFE ≤ c % 0x10000 → false ≡ is_shown c
        unfolding is_shown
        shown-last e = rw (d, f, g, le-leb 0xFFFE (c % 0x10000) e)

        pub shown-other : c % 0x10000 < 0xFFFE → not (eqb c 0x3C) ≡ is_shown c
        unfolding is_shown
        shown-other e = rw (d, f, g, lt-leb 0xFFFE (c % 0x10000) e)

-- what a pair's code units are
pub is_within : (a b n : ℕ) → within a b n ≡ true → (a ≤ n) × (n ≤ b)
is_within a b n e = (leb-true a n (and_left (leb a n) (leb n b) e), leb-true n b (and_right (leb a n) (leb n b) e))

pub halves : (u v : ℕ) → is_pair u v ≡ true → (0xD800 ≤ u) × (u ≤ 0xDBFF) × (0xDC00 ≤ v) × (v ≤ 0xDFFF)
halves u v e =
    let p = is_within 0xD800 0xDBFF u (and_left (within 0xD800 0xDBFF u) (within 0xDC00 0xDFFF v) e) in
    let q = is_within 0xDC00 0xDFFF v (and_right (within 0xD800 0xDBFF u) (within 0xDC00 0xDFFF v) e) in
    (p.0, p.1, q.0, q.1)

-- ---- how they are shown

-- the first, second, third and fourth byte of a slice stored
abbrev one : ℕ → List ℕ → List ℕ
one a o = set o 0 a

abbrev two : ℕ → ℕ → List ℕ → List ℕ
two a b o = set (one a o) 1 b

abbrev three : ℕ → ℕ → ℕ → List ℕ → List ℕ
three a b c o = set (two a b o) 2 c

module _ (o : List ℕ) (h : 4 ≤ length o) where
  put_one : (a : ℕ) → Put o 1 (a ∷ []) (one a o)
  put_one a = put_byte (put_first 0 [] o o refl refl) a (omega arith)

  put_two : (a b : ℕ) → Put o 2 (a ∷ b ∷ []) (two a b o)
  put_two a b = put_byte (put_one a) b (omega arith)

  put_three : (a b c : ℕ) → Put o 3 (a ∷ b ∷ c ∷ []) (three a b c o)
  put_three a b c = put_byte (put_two a b) c (omega arith)

  put_four : (a b c d : ℕ) → Put o 4 (a ∷ b ∷ c ∷ d ∷ []) (set (three a b c o) 3 d)
  put_four a b c d = put_byte (put_three a b c) d (omega arith)

  pub utf8-one : (c : ℕ) → c < 0x80 → Written o 1 4 (utf8 c) (one c o)
  unfolding utf8
  utf8-one c k = put_written (put_one c) 4 (utf8 c) (rw (lt-ltb c 0x80 k)) (omega arith)

  pub utf8-two : (c : ℕ) → 0x80 ≤ c → c < 0x800 → Written o 2 4 (utf8 c) (two (0xC0 + c / 0x40) (0x80 + c % 0x40) o)
  unfolding utf8
  utf8-two c j k = put_written (put_two (0xC0 + c / 0x40) (0x80 + c % 0x40)) 4 (utf8 c) (rw (le-ltb c 0x80 j, lt-ltb c 0x800 k)) (omega arith)

  pub utf8-three : (c : ℕ) → 0x80 ≤ c → 0x800 ≤ c → c < 0x10000 → Written o 3 4 (utf8 c) (three (0xE0 + c / 0x1000) (0x80 + c / 0x40 % 0x40) (0x80 + c % 0x40) o)
  unfolding utf8
  utf8-three c i j k =
      put_written (put_three (0xE0 + c / 0x1000) (0x80 + c / 0x40 % 0x40) (0x80 + c % 0x40)) 4 (utf8 c)
      (rw (le-ltb c 0x80 i, le-ltb c 0x800 j, lt-ltb c 0x10000 k)) (omega arith)

  pub utf8-four : (c : ℕ) → 0x80 ≤ c → 0x800 ≤ c → 0x10000 ≤ c
      → Written o 4 4 (utf8 c) (set (three (0xF0 + c / 0x40000) (0x80 + c / 0x1000 % 0x40) (0x80 + c / 0x40 % 0x40) o) 3 (0x80 + c % 0x40))
  unfolding utf8
  utf8-four c i j k =
      put_written (put_four (0xF0 + c / 0x40000) (0x80 + c / 0x1000 % 0x40) (0x80 + c / 0x40 % 0x40) (0x80 + c % 0x40)) 4 (utf8 c)
      (rw (le-ltb c 0x80 i, le-ltb c 0x800 j, le-ltb c 0x10000 k)) (omega arith)

-- an escape: '<', two bytes in hex, and '>'
pub escape-out : (u : ℕ) (o last : List ℕ) → 6 ≤ length o
    → last ≡ hex_bytes (u / 256 ∷ u % 256 ∷ []) ++ drop 4 (lent 1 (set o 0 60))
    → set (back 1 (set o 0 60) last) 5 62 ≡ escape u ++ drop 6 o
unfolding hex_bytes hex_byte
escape-out u o last h q =
    let p = put_byte (put_first 0 [] o o refl refl) 60 (omega arith) in
    (put_byte (put_next p 4 (hex_bytes (u / 256 ∷ u % 256 ∷ [])) last refl (omega arith) q) 62 (omega arith)).whole

pub length-escape : (u : ℕ) → length (escape u) ≡ 6
unfolding hex_byte
length-escape u = refl

-- a code unit: as it is, or as an escape
module _ (u : ℕ) (o out : List ℕ) where
  pub unit-shown : (r : ℕ) → is_shown u ≡ true → Written o r 4 (utf8 u) out → Written o r 6 (unit_text u) out
  unit-shown r e w = rw e (w.0, omega arith, w.2)

  pub unit-escaped : is_shown u ≡ false → out ≡ escape u ++ drop 6 o → Written o 6 6 (unit_text u) out
  unit-escaped e q = rw e (sym (length-escape u), omega arith, q)

-- a pair: as it is, or as two escapes
module _ (u v : ℕ) (o out : List ℕ) where
  pub pair-shown : (r : ℕ) → is_shown (pair_of u v) ≡ true → Written o r 4 (utf8 (pair_of u v)) out → Written o r 12 (pair_text u v) out
  pair-shown r e w = rw e (w.0, omega arith, w.2)

  pub pair-escaped : (last : List ℕ) → 12 ≤ length o → is_shown (pair_of u v) ≡ false → out ≡ escape u ++ drop 6 o
      → last ≡ escape v ++ drop 6 (lent 6 out) → Written o 12 12 (pair_text u v) (back 6 out last)
  pair-escaped last h e q k =
      rw e
      (put_written (put_next (put_first 6 (escape u) o out (length-escape u) q) 6 (escape v) last (length-escape v) h k) 12 (escape u ++ escape v) refl (omega arith))

-- ---- a run of them

-- what stands first in a run, and what is left
last-unit : (s : List ℕ) (u : ℕ) → 2 ≤ length s → length s < 4 → u ≡ unle (take 2 s) → text s ≡ unit_text u ++ text (drop 2 s)
unfolding text unle
last-unit [] u h k e = absurd (not-suc-le-zero h)
last-unit (a ∷ []) u h k e = absurd (not-suc-le-zero (le_of_suc-le-suc h))
last-unit (a ∷ b ∷ []) u h k e =
    let q : a + 256 * b ≡ u = omega arith in
    ap (λ (n : ℕ). unit_text n) q ∙ sym (append-nil (unit_text u))
last-unit (a ∷ b ∷ c ∷ []) u h k e =
    let q : a + 256 * b ≡ u = omega arith in
    ap (λ (n : ℕ). unit_text n) q ∙ sym (append-nil (unit_text u))
last-unit (a ∷ b ∷ c ∷ d ∷ s) u h k e = absurd (omega arith)

first-unit : (s : List ℕ) (u v : ℕ) → 4 ≤ length s → u ≡ unle (take 2 s) → v ≡ unle (take 2 (drop 2 s)) → is_pair u v ≡ false
    → text s ≡ unit_text u ++ text (drop 2 s)
unfolding text unle
first-unit [] u v h e f p = absurd (omega arith)
first-unit (a ∷ []) u v h e f p = absurd (omega arith)
first-unit (a ∷ b ∷ []) u v h e f p = absurd (omega arith)
first-unit (a ∷ b ∷ c ∷ []) u v h e f p = absurd (omega arith)
first-unit (a ∷ b ∷ c ∷ d ∷ s) u v h e f p =
    let q : a + 256 * b ≡ u = omega arith in
    let r : c + 256 * d ≡ v = omega arith in
    rw (q, r, p)

first-pair : (s : List ℕ) (u v : ℕ) → 4 ≤ length s → u ≡ unle (take 2 s) → v ≡ unle (take 2 (drop 2 s)) → is_pair u v ≡ true
    → text s ≡ pair_text u v ++ text (drop 4 s)
unfolding text unle
first-pair [] u v h e f p = absurd (omega arith)
first-pair (a ∷ []) u v h e f p = absurd (omega arith)
first-pair (a ∷ b ∷ []) u v h e f p = absurd (omega arith)
first-pair (a ∷ b ∷ c ∷ []) u v h e f p = absurd (omega arith)
first-pair (a ∷ b ∷ c ∷ d ∷ s) u v h e f p =
    let q : a + 256 * b ≡ u = omega arith in
    let r : c + 256 * d ≡ v = omega arith in
    rw (q, r, p)

short-text : (s : List ℕ) → length s < 2 → text s ≡ []
unfolding text
short-text [] h = refl
short-text (a ∷ []) h = refl
short-text (a ∷ b ∷ s) h = absurd (omega arith)

-- the same at a place of a path
module _ (path : List ℕ) (at u : ℕ) (e : u ≡ number_at path at 2) where
  pub text-last : at + 2 ≤ length path → length path - at < 4 → text (drop at path) ≡ unit_text u ++ text (drop (at + 2) path)
  unfolding number_at
  text-last h k = rw (← drop-drop 2 at path) (last-unit (drop at path) u (omega (arith, length-drop at path)) (omega (arith, length-drop at path)) e)

  module _ (v : ℕ) (f : v ≡ number_at path (at + 2) 2) (h : 4 ≤ length path - at) where
    second : v ≡ unle (take 2 (drop 2 (drop at path)))
    unfolding number_at
    second = f ∙ rw (drop-drop 2 at path)

    pub text-unit : is_pair u v ≡ false → text (drop at path) ≡ unit_text u ++ text (drop (at + 2) path)
    unfolding number_at
    text-unit p = rw (← drop-drop 2 at path) (first-unit (drop at path) u v (omega (arith, length-drop at path)) e second p)

    pub text-pair : is_pair u v ≡ true → text (drop at path) ≡ pair_text u v ++ text (drop (at + 4) path)
    unfolding number_at
    text-pair p = rw (← drop-drop 4 at path) (first-pair (drop at path) u v (omega (arith, length-drop at path)) e second p)

-- what was written stands in front
pub front : (w n : ℕ) (part o out whole rest : List ℕ) → Written o w n part out → whole ≡ part ++ rest
    → (whole ≡ take w out ++ rest) × (out ≡ take w out ++ drop w o)
front w n part o out whole rest q e =
    let t : take w out ≡ part = ap (take w) q.2 ∙ take_at part (drop w o) w (sym q.0) in
    (e ∙ ap (λ (l : List ℕ). l ++ rest) (sym t), q.2 ∙ ap (λ (l : List ℕ). l ++ drop w o) (sym t))

-- `done` bytes, the text of the path's first `at`, are written at the start of o
pub record Shown (o path out : List ℕ) (at done : ℕ) : Type 0 where
  pub inside : at ≤ length path
  pub same : length out ≡ length o
  pub little : done ≤ 3 * at
  pub bytes : List ℕ
  pub split : text path ≡ bytes ++ text (drop at path)
  pub put : Put o done bytes out

pub shown-start : (o path : List ℕ) → Shown o path o 0 0
shown-start o path =
    record {
      inside = omega arith;
      same = refl;
      little = omega arith;
      bytes = [];
      split = refl;
      put = put_first 0 [] o o refl refl;
    }

pub shown-more : (o path out last : List ℕ) (at done read w : ℕ) → Shown o path out at done → 3 * length path ≤ length o → length last ≡ length (lent done out)
    → (2 ≤ read) × (at + read ≤ length path) × (w ≤ 3 * read) × (text (drop at path) ≡ take w last ++ text (drop (at + read) path)) × (last ≡ take w last ++ drop w (lent done out))
    → Shown o path (back done out last) (at + read) (done + w)
shown-more o path out last at done read w u h k q =
    let n : length (lent done out) ≡ length o - done = simp (length-take, length-drop) (omega (arith, u.same)) in
    let m : length (take w last) ≡ w = length-take-le w last (omega (arith, u.little)) in
    record {
      inside = q.1;
      same = (same_back done 0 0 o out last u.same k).0;
      little = omega (arith, u.little);
      bytes = u.bytes ++ take w last;
      split = u.split ∙ ap (λ (l : List ℕ). u.bytes ++ l) q.3 ∙ sym (append_assoc u.bytes (take w last) (text (drop (at + read) path)));
      put = put_next u.put w (take w last) last m (omega (arith, u.little)) q.4;
    }

pub shown-end : (o path out : List ℕ) (at done : ℕ) → Shown o path out at done → length path - at < 2 → Written o done (3 * length path) (text path) out
shown-end o path out at done u h =
    let n : text (drop at path) ≡ [] = short-text (drop at path) (omega (arith, length-drop at path)) in
    let e : u.bytes ≡ text path = sym (u.split ∙ ap (λ (l : List ℕ). u.bytes ++ l) n ∙ append-nil u.bytes) in
    put_written u.put (3 * length path) (text path) e (omega (arith, u.little, u.inside))
