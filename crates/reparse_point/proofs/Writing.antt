-- The header and the data in the output, and the reply that they make.
-- Assumes nothing.
use mathlib.Core.Path.{◌≡◌, refl, sym, ap, ap₂, ◌∙◌}
use mathlib.Core.Bool.{Bool, true, false, not}
use mathlib.Core.List.{List, [], ◌∷◌, ◌++◌, append-nil}
use Rattle.std.specs.Prelude.{Ok}
use Prim.Native.Nat.{ℕ, ◌+◌, ◌-◌, ◌^◌, ◌≤◌, ◌<◌}
use native.Mathlib.Omega.{arith}
use lib.Dec.{leb, eqb}
use lib.ListN.{length, take, drop, length-append, length-drop}
use lib.Seq.{length-take-le, take_all}
use borrow.Author.Tests.{leb-true, le-leb, lt-leb}
use Rattle.le.specs.Numbers.{le, encode}
use Rattle.le.proofs.Runs.{and_left, and_right}
use Rattle.le.proofs.Tail.{lent, back, Put, put_first, put_next}
use Rattle.status.specs.declared.Status.TheVariants.{Success, BufferTooSmall, FileCorruptError, NotAReparsePoint}
use Rattle.status.specs.Check.{unless, else, judged}
use Rattle.status.specs.Reply.{give, told, Replied}
use Rattle.status.proofs.Checking.{told-passed, else-none, else-right, unless-true}
use Rattle.volume.specs.declared.Volume.{Volume}
use Rattle.file_record.specs.declared.FileRecord.{FileRecord}
use Rattle.reparse_point.specs.Reparse.{most_data, header_length, reparse_header, points_check, good_point, data_of, reparse_check, reparse_bytes}

-- ---- the header

pub header-least : (tag : ℕ) → 8 ≤ header_length tag
unfolding header_length
header-least tag = by (leb (2 ^ 31) tag) refl
  where
    by : (b : Bool) → leb (2 ^ 31) tag ≡ b → 8 ≤ header_length tag
    by true e = rw e (omega arith)
    by false e = rw e (omega arith)

pub header-whole : (tag : ℕ) → tag < 2 ^ 31 → header_length tag ≡ 24
unfolding header_length
header-whole tag h = rw (lt-leb _ _ h)

abbrev numbers : ℕ → ℕ → List ℕ
numbers tag n = encode (4 ∷ 2 ∷ 2 ∷ []) (tag ∷ n ∷ 0 ∷ [])

length-numbers : (tag n : ℕ) → length (numbers tag n) ≡ 8
unfolding encode le
length-numbers tag n = refl

pub header-size : (tag n : ℕ) (guid : List ℕ) → length guid ≡ 16 → length (reparse_header tag guid n) ≡ header_length tag
unfolding reparse_header header_length
header-size tag n guid g = by (leb (2 ^ 31) tag) refl
  where
    by : (b : Bool) → leb (2 ^ 31) tag ≡ b → length (reparse_header tag guid n) ≡ header_length tag
    by true e = rw (e, append-nil) (length-numbers tag n)
    by false e = rw e (length-append (numbers tag n) guid ∙ omega (arith, g, length-numbers tag n))

module _ (tag n : ℕ) (guid o out last : List ℕ) (h : header_length tag ≤ length o) (e : out ≡ le 4 tag ++ drop 4 o)
    (q : last ≡ encode (2 ∷ 2 ∷ []) (n ∷ 0 ∷ []) ++ drop 4 (lent 4 out)) where
  -- the numbers, of 4, 2 and 2 bytes
  head : Put o 8 (numbers tag n) (back 4 out last)
  unfolding encode le
  head = put_next (put_first 4 (le 4 tag) o out refl e) 4 (encode (2 ∷ 2 ∷ []) (n ∷ 0 ∷ [])) last refl (omega (arith, h, header-least tag)) q

  pub put-microsoft : 2 ^ 31 ≤ tag → back 4 out last ≡ reparse_header tag guid n ++ drop (header_length tag) o
  unfolding reparse_header header_length
  put-microsoft m = rw (le-leb _ _ m, append-nil) head.whole

  pub put_other : tag < 2 ^ 31 → length guid ≡ 16 → (more : List ℕ) → more ≡ guid ++ drop (length guid) (lent 8 (back 4 out last))
      → back 8 (back 4 out last) more ≡ reparse_header tag guid n ++ drop (header_length tag) o
  unfolding reparse_header header_length
  put_other m g more p =
      let w : Put o 24 (numbers tag n ++ guid) (back 8 (back 4 out last) more) =
      put_next head 16 guid more g (omega (arith, h, header-whole tag m)) (p ∙ ap (λ (k : ℕ). guid ++ drop k (lent 8 (back 4 out last))) g) in
      rw (lt-leb _ _ m) w.whole

-- what writes a header
pub ruleset puts = (header-least, header-whole, put-microsoft, put_other)

-- ---- the reply

most-least : (tag : ℕ) → most_data tag ≤ 16376
unfolding most_data
most-least tag = by (eqb tag 0) (leb (2 ^ 31) tag) refl refl
  where
    by : (a b : Bool) → eqb tag 0 ≡ a → leb (2 ^ 31) tag ≡ b → most_data tag ≤ 16376
    by true b d e = rw d (omega arith)
    by false true d e = rw (d, e) (omega arith)
    by false false d e = rw (d, e) (omega arith)

-- a right file record's data lies within the store, and its length is one that a header can say
pub point-fits : (f : FileRecord) (n : ℕ) → good_point f n ≡ true → (f.length ≤ n) × (f.length ≤ 16376)
unfolding good_point
point-fits f n g =
    let a : 16376 ≤ n = leb-true _ _ (and_left (leb 16376 n) _ g) in
    let b : f.length ≤ most_data f.tag = leb-true _ _ (and_right (leb 16376 n) _ g) in
    let c : f.length ≤ 16376 = omega (arith, b, most-least f.tag) in
    (omega (arith, a, c), c)

module _ (v : Volume) (f : FileRecord) (n room : ℕ) where
  -- the checks leave a right file record and room for the header
  pub passed-fits : Ok tt ≡ judged (reparse_check v f n room) → (header_length f.tag ≤ room) × (f.length ≤ n) × (f.length ≤ 16376)
  unfolding reparse_check
  passed-fits t =
      let p = told-passed (reparse_check v f n room) t in
      let last = unless (leb (header_length f.tag) room) BufferTooSmall in
      let tag = unless (not (eqb f.tag 0)) NotAReparsePoint in
      let good = unless (good_point f n) FileCorruptError in
      let k = else-none good (else tag last) (else-right (points_check v) (else good (else tag last)) p) in
      let g = point-fits f n (unless-true (good_point f n) FileCorruptError k.0) in
      (leb-true _ _ (unless-true (leb (header_length f.tag) room) BufferTooSmall (else-right tag last k.1)), g.0, g.1)

pub reply-given : (f : FileRecord) (store bytes o : List ℕ) (count : ℕ) (out : List ℕ) → length f.guid ≡ 16 → f.length ≤ length store → bytes ≡ data_of f store
    → count ≡ header_length f.tag + length (take (length o - header_length f.tag) bytes)
    → out ≡ (reparse_header f.tag f.guid (length bytes) ++ take (length o - header_length f.tag) bytes) ++ drop count o → Replied (give Success (reparse_bytes f store (length o))) (told (Ok count)) o out
unfolding reparse_bytes
reply-given f store bytes o count out g h b n e =
    let size : length bytes ≡ f.length = ap length b ∙ length-take-le f.length store h in
    let head : List ℕ = reparse_header f.tag f.guid (length bytes) in
    let kept : List ℕ = take (length o - header_length f.tag) bytes in
    let l : count ≡ length (head ++ kept) = n ∙ sym (length-append head kept ∙ ap (λ (i : ℕ). i + length kept) (header-size f.tag (length bytes) f.guid g)) in
    let same : head ++ kept ≡ reparse_bytes f store (length o) =
    ap₂ (λ (i : ℕ) (x : List ℕ). reparse_header f.tag f.guid i ++ take (length o - header_length f.tag) x) size b in
    record {
      answered = ap (λ (i : ℕ). record { status = Success; count = i }) (l ∙ ap length same);
      output = e ∙ ap (λ (i : ℕ). (head ++ kept) ++ drop i o) l ∙ ap (λ (x : List ℕ). x ++ drop (length x) o) same;
    }

-- ---- data that is written as far as it fits

-- n bytes are as much as fits: the shorter of the two
abbrev pub Fitting : List ℕ → ℕ → ℕ → Type 0
Fitting bytes room n = (n ≤ room) × (n ≤ length bytes) × (take n bytes ≡ take room bytes) × (length (take room bytes) ≡ n)

module _ (bytes : List ℕ) (room n : ℕ) where
  pub fits_whole : length bytes < room → n ≡ length bytes → Fitting bytes room n
  fits_whole h e =
      let b : take room bytes ≡ bytes = take_all room bytes (omega (arith, h)) in
      (omega (arith, h, e), omega (arith, e), take_all n bytes (omega (arith, e)) ∙ sym b, ap length b ∙ sym e)

  pub fits-part : room ≤ length bytes → n ≡ room → Fitting bytes room n
  fits-part h e = (omega (arith, e), omega (arith, h, e), ap (λ (k : ℕ). take k bytes) e, length-take-le room bytes h ∙ sym e)

-- it fits into the rest of the output
pub copy-fits : (bytes o out : List ℕ) (at n : ℕ) → length out ≡ length o → Fitting bytes (length o - at) n
    → length (take (n - 0) bytes) ≤ length (lent at out)
copy-fits bytes o out at n e k =
    let z : n - 0 ≡ n = omega arith in
    let l : length (take (n - 0) bytes) ≡ n = ap (λ (i : ℕ). length (take i bytes)) z ∙ length-take-le n bytes k.1 in
    let m : length (lent at out) ≡ length out - at = length-take-le (length out - at) (drop at out) (omega (arith, length-drop at out)) in
    omega (arith, l, m, e, k.0)

module _ (tag : ℕ) (guid bytes o out last : List ℕ) (at n : ℕ) (g : length guid ≡ 16) (h : header_length tag ≤ length o) (a : at ≡ header_length tag)
    (k : Fitting bytes (length o - at) n)
    (e : out ≡ reparse_header tag guid (length bytes) ++ drop (header_length tag) o)
    (q : last ≡ take (n - 0) bytes ++ drop (length (take (n - 0) bytes)) (lent at out)) where
  pub put-data : (at + n ≡ header_length tag + length (take (length o - header_length tag) bytes))
      × (back at out last ≡ (reparse_header tag guid (length bytes) ++ take (length o - header_length tag) bytes) ++ drop (at + n) o)
  put-data =
      let z : n - 0 ≡ n = omega arith in
      let l : length (take n bytes) ≡ n = ap length k.2 ∙ k.3 in
      let w : last ≡ take n bytes ++ drop n (lent at out) =
      q
      ∙ ap (λ (i : ℕ). take i bytes ++ drop (length (take i bytes)) (lent at out)) z
      ∙ ap (λ (i : ℕ). take n bytes ++ drop i (lent at out)) l in
      let p : Put o at (reparse_header tag guid (length bytes)) out =
      put_first at (reparse_header tag guid (length bytes)) o out (header-size tag (length bytes) guid g ∙ sym a) (e ∙ ap (λ (i : ℕ). reparse_header tag guid (length bytes) ++ drop i o) (sym a)) in
      let s : Put o (at + n) (reparse_header tag guid (length bytes) ++ take n bytes) (back at out last) = put_next p n (take n bytes) last l (omega (arith, h, a, k.0)) w in
      let t : take n bytes ≡ take (length o - header_length tag) bytes = k.2 ∙ ap (λ (i : ℕ). take (length o - i) bytes) a in
      (ap₂ ◌+◌ a (sym l ∙ ap length t), s.whole ∙ ap (λ (x : List ℕ). (reparse_header tag guid (length bytes) ++ x) ++ drop (at + n) o) t)
