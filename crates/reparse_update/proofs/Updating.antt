-- A call whose own checks have passed: the post decides, and what is left of the records, the ring and the store.
-- Assumes nothing.
use mathlib.Core.Path.{◌≡◌, refl, sym, ap, ◌∙◌}
use mathlib.Core.Bool.{true, not, ◌&&◌, ◌||◌}
use mathlib.Core.List.{List, ◌++◌}
use Rattle.std.specs.Prelude.{Option, None, Some, Result, Ok, Err}
use Prim.Native.Nat.{ℕ, ◌-◌, ◌≤◌}
use native.Mathlib.Omega.{arith}
use lib.Dec.{leb, eqb}
use lib.ListN.{length, take, drop, length-drop}
use lib.Seq.{take_all}
use borrow.Author.Tests.{leb-true, eq-eqb, ne_eqb}
use Rattle.le.proofs.Runs.{and_left}
use Rattle.status.specs.declared.Status.{Status}
use Rattle.status.specs.declared.Status.TheVariants.{FileCorruptError, IoReparseDataInvalid}
use Rattle.status.specs.Check.{unless, else, granted, judged}
use Rattle.status.proofs.Checking.{else-none, else-left, else-right, unless-true, both-pass, both-refuse, told-refused, told-passed}
use Rattle.volume.specs.declared.Volume.{Volume}
use Rattle.file_record.specs.declared.FileRecord.{FileRecord}
use Rattle.journal_post.specs.declared.Change.{Change}
use Rattle.journal_post.specs.declared.Verdict.{Verdict}
use Rattle.journal_post.specs.declared.Verdict.TheVariants.{Skip, Reject, Accept}
use Rattle.journal_post.specs.Post.{verdict, rejection, leaves, end_of, posted_volume, posted_ring, post_usn}
use Rattle.journal_post.specs.Posts.{Journal, Posting, after_post}
use Rattle.reparse_point.specs.Reparse.{header_length, points_check, good_point}
use Rattle.reparse_point.proofs.Writing.{header-least}
use Rattle.reparse_update.specs.declared.Update.{Update}
use Rattle.reparse_update.specs.Update.{given_tag, given_length, given_data, is_laid_out, is_delete, given_check, point_change, point_posting, Point, with_point, new_point, update_check, Left, left_by, Updates}
use Rattle.reparse_update.specs.declared.Posted.{Posted}
use Rattle.reparse_update.specs.Steps.{Posts, moved}
use Rattle.reparse_update.proofs.Input.{parts-of}

-- ---- the call's own checks

-- they leave an input that is laid out, and a store for any data
pub given-facts : (u : Update) (f : FileRecord) (n : ℕ) (input : List ℕ) → given_check u f n input ≡ None → (is_laid_out input ≡ true) × (16376 ≤ n)
unfolding given_check good_point
given-facts u f n input e =
    let k = else-none (unless (good_point f n) FileCorruptError) _ e in
    let g = unless-true (good_point f n) FileCorruptError k.0 in
    let l = unless-true (is_laid_out input && (not (is_delete u) || eqb (given_length input) 0)) IoReparseDataInvalid (else-left _ _ k.1) in
    (and_left (is_laid_out input) _ l, leb-true _ _ (and_left (leb 16376 n) _ g))

pub passed-facts : (u : Update) (v : Volume) (f : FileRecord) (n : ℕ) (input : List ℕ)
    → Ok tt ≡ judged (else (points_check v) (given_check u f n input)) → (is_laid_out input ≡ true) × (16376 ≤ n)
passed-facts u v f n input e = given-facts u f n input (else-right (points_check v) (given_check u f n input) (told-passed _ e))

-- the data, which the code takes from behind the header
module _ (input : List ℕ) (head : ℕ) (h : head ≡ header_length (given_tag input)) where
  abbrev taken : List ℕ
  taken = take (length input - head) (drop head input)

  data_is : taken ≡ given_data input
  data_is =
      take_all (length input - head) (drop head input) (omega (arith, length-drop head input)) ∙ ap (λ (n : ℕ). drop n input) h

  -- it has room in the store
  pub data-fits : (n : ℕ) → is_laid_out input ≡ true → 16376 ≤ n → length taken ≤ n
  data-fits n e m =
      let p = parts-of input e in
      let l : length (given_data input) ≡ length input - header_length (given_tag input) = length-drop (header_length (given_tag input)) input in
      omega (arith, ap length data_is, l, p.most, m, header-least (given_tag input))

  -- and is copied to its start
  pub data-put : (store kept : List ℕ) → kept ≡ taken ++ drop (length taken) store → kept ≡ given_data input ++ drop (length (given_data input)) store
  data-put store kept e = e ∙ ap (λ (x : List ℕ). x ++ drop (length x) store) data_is

-- ---- what the post gives

granted-refused : {A : Type 0} (k : Option Status) (y : A) (x : Status) → Err x ≡ granted k y → k ≡ Some x
granted-refused None y x e = cc
granted-refused (Some z) y x e = let q : x ≡ z = cc in ap Some (sym q)

granted-passed : {A : Type 0} (k : Option Status) (y x : A) → Ok x ≡ granted k y → (k ≡ None) × (x ≡ y)
granted-passed None y x e = let q : x ≡ y = cc in (refl, q)
granted-passed (Some z) y x e = cc

longer : (v : Volume) (name : List ℕ) → end_of v name ≡ v.last → ⊥
longer v name e = omega arith

-- ---- the call

module _ (u : Update) (v : Volume) (ring : List ℕ) (f : FileRecord) (store : List ℕ) (c : Change) (name input : List ℕ) where
  abbrev j : Journal
  j = record { volume = v; ring = ring }

  abbrev p : Point
  p = record { file = f; store = store }

  abbrev q : Posting
  q = record { change = c; name = name }

  abbrev d : Verdict
  d = verdict v ring (point_change c) name

  abbrev usn : ℕ
  usn = post_usn v ring (point_change c) name f.usn

  -- what the call leaves, by what becomes of its checks
  abbrev left : Option Status → Left
  left o = left_by o j p (after_post j (point_posting q)) (new_point u p usn input)

  -- an accepted post, and no other, moves the journal's end: so the positions that are stored are those that the post leaves
  moves : (k : Verdict) (n : ℕ) → let w = leaves k v (posted_volume v ring name) in moved v (record { first = w.first; last = w.last; usn = n }) ≡ w
  unfolding posted_volume
  moves Skip n = rw (eq-eqb v.last v.last refl)
  moves (Reject x) n = rw (eq-eqb v.last v.last refl)
  moves Accept n = rw (ne_eqb (end_of v name) v.last (longer v name))

  by_check : (o : Option Status) → update_check u j p q input ≡ o
      → (r : Result (Unit {0}) Status) (w : Volume) (after : List ℕ) (g : FileRecord) (kept : List ℕ)
      → r ≡ judged o → w ≡ (left o).journal.volume → after ≡ (left o).journal.ring → g ≡ (left o).point.file → kept ≡ (left o).point.store
      → Updates u j p q input r w after g kept
  by_check o e r w after g kept a b i k s =
      record {
        given = a ∙ ap judged (sym e);
        volume = b ∙ ap (λ (x : Option Status). (left x).journal.volume) (sym e);
        ring = i ∙ ap (λ (x : Option Status). (left x).journal.ring) (sym e);
        file = k ∙ ap (λ (x : Option Status). (left x).point.file) (sym e);
        store = s ∙ ap (λ (x : Option Status). (left x).point.store) (sym e);
      }

  -- a refusal by its own checks
  refused-check : (x : Status) → else (points_check v) (given_check u f (length store) input) ≡ Some x → update_check u j p q input ≡ Some x
  unfolding update_check
  refused-check x e = both-refuse (points_check v) (given_check u f (length store) input) (rejection d) x e

  pub check-refuses : (x : Status) → Err x ≡ judged (else (points_check v) (given_check u f (length store) input))
      → Updates u j p q input (Err x) v ring f store
  check-refuses x e =
      by_check (Some x) (refused-check x (told-refused _ x e)) (Err x) v ring f store refl refl refl refl refl

  module _ (passed : Ok tt ≡ judged (else (points_check v) (given_check u f (length store) input)))
      (r : Result Posted Status) (after : List ℕ) (posts : Posts v ring f.usn c name r after) where
    -- its own checks pass: the post decides
    decides : update_check u j p q input ≡ rejection d
    unfolding update_check
    decides = both-pass (points_check v) (given_check u f (length store) input) (rejection d) (told-passed _ passed)

    -- a post that is refused leaves all as it was
    pub post-refuses : (x : Status) → r ≡ Err x → Updates u j p q input (Err x) v after f store
    post-refuses x e = go d refused posts.written
      where
        refused : rejection d ≡ Some x
        refused = granted-refused _ _ x (sym e ∙ posts.given)

        go : (k : Verdict) → rejection k ≡ Some x → after ≡ leaves k ring (posted_ring v ring (point_change c) name) → Updates u j p q input (Err x) v after f store
        go Skip h b = cc
        go (Reject y) h b = by_check (Some x) (decides ∙ refused) (Err x) v after f store refl refl b refl refl
        go Accept h b = cc

    -- one that is not refused leaves the new point, and the file's Usn and the journal's positions from the post
    pub post-takes : (o : Posted) → r ≡ Ok o → (tag : ℕ) (guid : List ℕ) (n : ℕ) (kept : List ℕ)
        → with_point f usn tag guid n ≡ (new_point u p usn input).file → kept ≡ (new_point u p usn input).store
        → (w : Volume) → w ≡ moved v o → Updates u j p q input (Ok tt) w after (with_point f o.usn tag guid n) kept
    post-takes o e tag guid n kept a b w m =
        let t = granted-passed _ _ o (sym e ∙ posts.given) in
        by_check None (decides ∙ t.0) (Ok tt) w after (with_point f o.usn tag guid n) kept refl
        (m ∙ ap (moved v) t.1 ∙ moves d usn) posts.written (ap (λ (x : Posted). with_point f x.usn tag guid n) t.1 ∙ a) b
