-- What is known of an input that is laid out, and GUIDs compared by their numbers.
-- Assumes nothing.
use mathlib.Core.Path.{◌≡◌, refl, sym, ap, ap₂, ◌∙◌}
use mathlib.Core.Bool.{Bool, true, false, not, cond, ◌&&◌}
use mathlib.Core.List.{List, ◌++◌, append-nil}
use Prim.Native.Nat.{ℕ, ◌+◌, ◌^◌, ◌≤◌, ◌<◌}
use native.Mathlib.Omega.{arith}
use lib.Dec.{leb, eqb}
use lib.ListN.{length, take, drop, replicate, length-drop, drop_of_length-le}
use lib.Seq.{length-take-le}
use borrow.Author.Tests.{leb-true, leb-false, lt-leb, eqb-true, eq-eqb, ne_eqb}
use Rattle.std.specs.Cmp.Lexicographic.{pointwise, same_text, other_text}
use Rattle.le.specs.Numbers.{le, unle}
use Rattle.le.specs.Bytes.{Bytes}
use Rattle.le.proofs.Numbers.{le-unle, bytes_drop, bytes_take}
use Rattle.le.proofs.Runs.{and_left, and_right, are-bytes}
use Rattle.file_ids.specs.Ids.{Id}
use Rattle.file_record.specs.declared.FileRecord.{FileRecord}
use Rattle.reparse_point.specs.Reparse.{is_microsoft, header_length}
use Rattle.reparse_point.proofs.Writing.{header-least, header-whole}
use Rattle.reparse_update.specs.Update.{given_tag, given_length, given_reserved, given_guid, is_laid_out, has_other_guid}

-- ---- an input that is laid out

pub record Parts (input : List ℕ) : Type 0 where
  pub eight : 8 ≤ length input
  pub header : header_length (given_tag input) ≤ length input
  pub whole : header_length (given_tag input) + given_length input ≡ length input
  pub most : length input ≤ 16384
  pub reserved : given_reserved input ≡ 0

pub parts-of : (input : List ℕ) → is_laid_out input ≡ true → Parts input
unfolding is_laid_out
parts-of input e =
    let h : header_length (given_tag input) ≤ length input = leb-true _ _ (and_left (leb (header_length (given_tag input)) (length input)) _ e) in
    let e1 = and_right (leb (header_length (given_tag input)) (length input)) _ e in
    let e2 = and_right (eqb (header_length (given_tag input) + given_length input) (length input)) _ e1 in
    record {
      eight = omega (arith, h, header-least (given_tag input));
      header = h;
      whole = eqb-true _ _ (and_left (eqb (header_length (given_tag input) + given_length input) (length input)) _ e1);
      most = leb-true _ _ (and_left (leb (length input) 16384) _ e2);
      reserved = eqb-true _ _ (and_right (leb (length input) 16384) _ e2);
    }

-- with a tag that is not Microsoft's there is a GUID
pub guid-there : (input : List ℕ) → is_laid_out input ≡ true → given_tag input < 2 ^ 31 → 24 ≤ length input
guid-there input e t = omega (arith, (parts-of input e).header, header-whole (given_tag input) t)

-- its sixteen bytes, copied over as many zeroes
pub guid-copied : (input zeroes guid : List ℕ) → 24 ≤ length input → length zeroes ≡ 16
    → guid ≡ take 16 (drop 8 input) ++ drop (length (take 16 (drop 8 input))) zeroes → guid ≡ take 16 (drop 8 input)
guid-copied input zeroes guid h z e =
    let l : length (take 16 (drop 8 input)) ≡ 16 = length-take-le 16 (drop 8 input) (omega (arith, h, length-drop 8 input)) in
    e ∙ ap (λ (x : List ℕ). take 16 (drop 8 input) ++ x) (drop_of_length-le zeroes {i = length (take 16 (drop 8 input))} (omega (arith, l, z))) ∙ append-nil _

-- what is known of the length of a header
pub ruleset headers = (header-least, header-whole)

pub laid_long : (input : List ℕ) → is_laid_out input ≡ true → 8 ≤ length input
laid_long input e = (parts-of input e).eight

-- and of an input that is laid out
pub ruleset laid = (laid_long, guid-there)

-- ---- GUIDs by their numbers

module _ (a b : List ℕ) (i : Id a) (j : Id b) where
  alike : unle a ≡ unle b → a ≡ b
  alike e = sym (le-unle a i.bytes) ∙ ap₂ le (i.size ∙ sym j.size) e ∙ le-unle b j.bytes

  -- two GUIDs are one if their numbers are
  same_number : pointwise eqb a b ≡ eqb (unle a) (unle b)
  same_number = go (pointwise eqb a b) refl
    where
      go : (t : Bool) → pointwise eqb a b ≡ t → t ≡ eqb (unle a) (unle b)
      go true e = sym (eq-eqb _ _ (ap unle (same_text a b (sym e))))
      go false e = sym (ne_eqb _ _ (λ n. other_text a b (sym e) (alike n)))

-- what is given is a GUID
given-id : (input : List ℕ) → Bytes input → is_laid_out input ≡ true → Id (given_guid input)
given-id input b e = go (is_microsoft (given_tag input)) refl
  where
    go : (t : Bool) → is_microsoft (given_tag input) ≡ t → Id (cond t (replicate 16 0) (take 16 (drop 8 input)))
    go true h = record { size = refl; bytes = are-bytes (replicate 16 0) refl }
    go false h =
        record {
          size = length-take-le 16 (drop 8 input) (omega (arith, length-drop 8 input, guid-there input e (leb-false _ _ h)));
          bytes = bytes_take 16 (drop 8 input) (bytes_drop 8 input b);
        }

-- the tag given stands, which is not Microsoft's: the GUIDs decide
pub guid-decides : (f : FileRecord) (input guid : List ℕ) → Bytes input → is_laid_out input ≡ true → Id f.guid
    → f.tag ≡ given_tag input → f.tag < 2 ^ 31 → guid ≡ given_guid input → not (pointwise eqb f.guid guid) ≡ has_other_guid f input
guid-decides f input guid b e i t m g =
    ap (λ (x : List ℕ). not (pointwise eqb f.guid x)) g
    ∙ ap not (same_number f.guid (given_guid input) i (given-id input b e))
    ∙ sym (ap₂ (λ (x y : Bool). x && (not y && not (eqb (unle f.guid) (unle (given_guid input))))) (eq-eqb _ _ t) (lt-leb _ _ m))
