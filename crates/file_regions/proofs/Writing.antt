-- The reply: what the writers leave in the output.
-- Assumes nothing.
use mathlib.Core.Path.{◌≡◌, ap, ◌∙◌}
use mathlib.Core.List.{List, [], ◌∷◌, ◌++◌, append_assoc, append-nil}
use Prim.Native.Nat.{ℕ, ◌≤◌}
use lib.ListN.{length, drop, length-append}
use Rattle.le.specs.Numbers.{encode}
use Rattle.le.proofs.Numbers.{length-le, length_two}
use Rattle.le.proofs.Tail.{lent, back, put_first, put_next}
use Rattle.file_regions.specs.declared.Region.{Region}
use Rattle.file_regions.specs.Regions.{regions_header, region_bytes}

-- two numbers of one width
abbrev two : ℕ → ℕ → ℕ → List ℕ
two w a b = encode (w ∷ w ∷ []) (a ∷ b ∷ [])

pub length-header : (total given : ℕ) → length (regions_header total given) ≡ 16
unfolding encode
length-header total given = simp (length-append, length-le)

pub length-region : (r : Region) → length (region_bytes r) ≡ 24
unfolding encode
length-region r = simp (length-append, length-le)

pub header-put : (total given : ℕ) (o l1 l2 : List ℕ) → 16 ≤ length o → l1 ≡ two 4 0 total ++ drop 8 o → l2 ≡ two 4 given 0 ++ drop 8 (lent 8 l1)
    → back 8 l1 l2 ≡ regions_header total given ++ drop 16 o
unfolding encode
header-put total given o l1 l2 h q1 q2 =
    (put_next (put_first 8 (two 4 0 total) o l1 (length_two 4 0 total) q1) 8 (two 4 given 0) l2 (length_two 4 given 0) h q2).whole ∙ simp (append_assoc, append-nil)

pub region-put : (r : Region) (o l1 l2 : List ℕ) → 24 ≤ length o → l1 ≡ two 8 r.offset r.length ++ drop 16 o
    → l2 ≡ two 4 r.usage 0 ++ drop 8 (lent 16 l1) → back 16 l1 l2 ≡ region_bytes r ++ drop 24 o
unfolding encode
region-put r o l1 l2 h q1 q2 =
    (put_next (put_first 16 (two 8 r.offset r.length) o l1 (length_two 8 r.offset r.length) q1) 8 (two 4 r.usage 0) l2 (length_two 4 r.usage 0) h q2).whole
    ∙ simp (append_assoc, append-nil)

-- a header and the first region
abbrev front : ℕ → ℕ → Region → List ℕ
front total given first = regions_header total given ++ region_bytes first

pub length_front : (total given : ℕ) (first : Region) → length (front total given first) ≡ 40
length_front total given first = simp (length-append, length-header, length-region)

pub front-put : (total given : ℕ) (first : Region) (o l1 l2 : List ℕ) → 40 ≤ length o → l1 ≡ regions_header total given ++ drop 16 o
    → l2 ≡ region_bytes first ++ drop 24 (lent 16 l1) → back 16 l1 l2 ≡ front total given first ++ drop 40 o
front-put total given first o l1 l2 h q1 q2 =
    (put_next (put_first 16 (regions_header total given) o l1 (length-header total given) q1) 24 (region_bytes first) l2 (length-region first) h q2).whole

-- and the second
pub second-put : (first second : Region) (o l1 l2 : List ℕ) → 64 ≤ length o → l1 ≡ front 2 2 first ++ drop 40 o
    → l2 ≡ region_bytes second ++ drop 24 (lent 40 l1) → back 40 l1 l2 ≡ (regions_header 2 2 ++ (region_bytes first ++ region_bytes second)) ++ drop 64 o
second-put first second o l1 l2 h q1 q2 =
    (put_next (put_first 40 (front 2 2 first) o l1 (length_front 2 2 first) q1) 24 (region_bytes second) l2 (length-region second) h q2).whole
    ∙ ap (λ (l : List ℕ). l ++ drop 64 o) (append_assoc (regions_header 2 2) (region_bytes first) (region_bytes second))

-- what each part of a reply is written by
pub ruleset puts = (header-put, region-put, front-put)
