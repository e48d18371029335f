-- What a get replies after a set or a delete that succeeded, as input and reply have one layout; and what the post decides.
-- Assumes nothing.
use mathlib.Core.Path.{◌≡◌, refl, sym, ap, ap₂, ◌∙◌, subst}
use mathlib.Core.Bool.{Bool, true, false, not, cond, ◌&&◌, ◌||◌}
use mathlib.Core.List.{List, [], ◌∷◌, ◌++◌, append-nil}
use Rattle.std.specs.Prelude.{Option, None, Some}
use Prim.Native.Nat.{ℕ, ◌+◌, ◌-◌, ◌^◌, ◌≤◌, ◌<◌}
use native.Mathlib.Omega.{arith}
use lib.Dec.{leb, eqb}
use lib.ListN.{length, take, drop, replicate, length-append, length-drop}
use lib.Seq.{take_all, take-add, take_at, drop-drop}
use borrow.Author.Tests.{leb-true, leb-false, le-leb, lt-leb, not-true}
use Rattle.le.specs.Numbers.{le, encode}
use Rattle.le.specs.Bytes.{Bytes}
use Rattle.le.proofs.Places.{le-number}
use Rattle.status.specs.declared.Status.{Status}
use Rattle.status.specs.declared.Status.TheVariants.{Success, BufferTooSmall, FileCorruptError, NotAReparsePoint, IoReparseTagInvalid, IoReparseDataInvalid}
use Rattle.status.specs.Number.{number}
use Rattle.status.specs.Check.{unless, else}
use Rattle.status.specs.Reply.{refuse, give, guard}
use Rattle.status.proofs.Checking.{else-left, else-right, unless-true, Never}
use Rattle.volume.specs.declared.Volume.{Volume}
use Rattle.file_record.specs.declared.FileRecord.{FileRecord}
use Rattle.journal_post.specs.declared.Verdict.{Verdict}
use Rattle.journal_post.specs.declared.Verdict.TheVariants.{Skip, Reject, Accept}
use Rattle.journal_post.specs.Post.{end_of, verdict, rejection, leaves, posted_volume, posted_ring, post_usn}
use Rattle.journal_post.specs.Posts.{Journal, Posting, after_post}
use Rattle.reparse_point.specs.Reparse.{is_microsoft, most_data, header_length, reparse_header, points_check, good_point, reparse_check, reparse_bytes, reparse_reply}
use Rattle.reparse_point.proofs.Writing.{header-least, header-whole}
use Rattle.reparse_update.specs.declared.Update.{Update}
use Rattle.reparse_update.specs.declared.Update.TheVariants.{Set, Delete}
use Rattle.reparse_update.specs.Update.{given_tag, given_length, given_guid, given_data, is_laid_out, is_delete, given_check, point_posting, Point, with_point, new_point, update_check, Left, left_by, update_left}
use Rattle.reparse_update.specs.Points.{SucceedsWith, Gets, Passes, Points}
use Rattle.reparse_update.proofs.Checked.{never-zero, never-updated}
use Rattle.reparse_update.proofs.Input.{Parts, parts-of}
use Rattle.reparse_update.proofs.Updating.{given-facts}

-- ---- what a call that succeeded has passed, and what it left

passes : (k : Option Status) (j i : Journal) (p new : Point) → Never Success k → (left_by k j p i new).status ≡ Success → k ≡ None
passes None j i p new n e = refl
passes (Some x) j i p new n e = absurd (never-zero x n (ap number e))

module _ (u : Update) (j : Journal) (p : Point) (q : Posting) (input : List ℕ) (e : (update_left u j p q input).status ≡ Success) where
  abbrev usn : ℕ
  usn = post_usn j.volume j.ring (point_posting q).change (point_posting q).name p.file.usn

  passed : update_check u j p q input ≡ None
  passed = passes (update_check u j p q input) j (after_post j (point_posting q)) p (new_point u p usn input) (never-updated u j p q input) e

  left_is : update_left u j p q input ≡ left_by None j p (after_post j (point_posting q)) (new_point u p usn input)
  left_is = ap (λ (o : Option Status). left_by o j p (after_post j (point_posting q)) (new_point u p usn input)) passed

  supported : points_check j.volume ≡ None
  unfolding update_check
  supported = else-left (points_check j.volume) _ passed

  given : given_check u p.file (length p.store) input ≡ None
  unfolding update_check
  given = else-left (given_check u p.file (length p.store) input) _ (else-right (points_check j.volume) _ passed)

  -- the post leaves the support flags
  keeps-support : points_check (update_left u j p q input).journal.volume ≡ None
  unfolding posted_volume
  keeps-support = ap (λ (l : Left). points_check l.journal.volume) left_is ∙ go (verdict j.volume j.ring (point_posting q).change (point_posting q).name)
    where
      go : (d : Verdict) → points_check (leaves d j.volume (posted_volume j.volume j.ring (point_posting q).name)) ≡ None
      go Skip = supported
      go (Reject x) = supported
      go Accept = supported

-- the tag that is given is not 0
tag-given : (u : Update) (f : FileRecord) (n : ℕ) (input : List ℕ) → given_check u f n input ≡ None → eqb (given_tag input) 0 ≡ false
unfolding given_check
tag-given u f n input e =
    let k = else-right (unless (is_laid_out input && (not (is_delete u) || eqb (given_length input) 0)) IoReparseDataInvalid) _ (else-right (unless (good_point f n) FileCorruptError) _ e) in
    not-true _ (unless-true (not (eqb (given_tag input) 0)) IoReparseTagInvalid (else-left _ _ k))

-- ---- the point that a set leaves is right

header-microsoft : (tag : ℕ) → 2 ^ 31 ≤ tag → header_length tag ≡ 8
unfolding header_length
header-microsoft tag h = rw (le-leb _ _ h)

most-microsoft : (tag : ℕ) → eqb tag 0 ≡ false → 2 ^ 31 ≤ tag → most_data tag ≡ 16376
unfolding most_data
most-microsoft tag t h = rw (t, le-leb _ _ h)

most_other : (tag : ℕ) → eqb tag 0 ≡ false → tag < 2 ^ 31 → most_data tag ≡ 16360
unfolding most_data
most_other tag t h = rw (t, lt-leb _ _ h)

most-fits : (tag n size : ℕ) → eqb tag 0 ≡ false → header_length tag + n ≡ size → size ≤ 16384 → n ≤ most_data tag
most-fits tag n size t w m = go (leb (2 ^ 31) tag) refl
  where
    go : (b : Bool) → leb (2 ^ 31) tag ≡ b → n ≤ most_data tag
    go true z = let h = leb-true (2 ^ 31) tag z in omega (arith, w, m, header-microsoft tag h, most-microsoft tag t h)
    go false z = let h = leb-false (2 ^ 31) tag z in omega (arith, w, m, header-whole tag h, most_other tag t h)

-- ---- its header and data are the input

-- the numbers are the first eight bytes
numbers : (input : List ℕ) → Bytes input → Parts input → encode (4 ∷ 2 ∷ 2 ∷ []) (given_tag input ∷ given_length input ∷ 0 ∷ []) ≡ take 8 input
unfolding encode
numbers input b x =
    let tag : le 4 (given_tag input) ≡ take 4 input = le-number input 0 4 b (omega (arith, x.eight)) in
    let size : le 2 (given_length input) ≡ take 2 (drop 4 input) = le-number input 4 2 b (omega (arith, x.eight)) in
    let zero : le 2 0 ≡ take 2 (drop 6 input) = ap (le 2) (sym x.reserved) ∙ le-number input 6 2 b (omega (arith, x.eight)) in
    ap₂ (λ (k l : List ℕ). k ++ (l ++ (le 2 0 ++ []))) tag size
    ∙ ap (λ (l : List ℕ). take 4 input ++ (take 2 (drop 4 input) ++ l)) (append-nil (le 2 0) ∙ zero ∙ ap (take 2) (sym (drop-drop 2 4 input)))
    ∙ ap (λ (l : List ℕ). take 4 input ++ l) (sym (take-add 2 2 (drop 4 input)))
    ∙ sym (take-add 4 4 input)

header_is : (input : List ℕ) → Bytes input → Parts input → reparse_header (given_tag input) (given_guid input) (given_length input) ≡ take (header_length (given_tag input)) input
unfolding reparse_header header_length
header_is input b x = go (is_microsoft (given_tag input))
  where
    go : (m : Bool) → encode (4 ∷ 2 ∷ 2 ∷ []) (given_tag input ∷ given_length input ∷ 0 ∷ []) ++ cond m [] (cond m (replicate 16 0) (take 16 (drop 8 input))) ≡ take (cond m 8 24) input
    go true = append-nil _ ∙ numbers input b x
    go false = ap (λ (l : List ℕ). l ++ take 16 (drop 8 input)) (numbers input b x) ∙ sym (take-add 8 16 input)

module _ (input store : List ℕ) (b : Bytes input) (x : Parts input) (m : 16376 ≤ length store) (f : FileRecord) (usn : ℕ) where
  abbrev new : Point
  new = new_point Set (record { file = f; store = store }) usn input

  abbrev head : ℕ
  head = header_length (given_tag input)

  data-size : length (given_data input) ≡ given_length input
  data-size = length-drop head input ∙ omega (arith, x.whole)

  store-size : length new.store ≡ length store
  store-size =
      length-append (given_data input) _ ∙ omega (arith, data-size, length-drop (length (given_data input)) store, x.whole, x.most, m, header-least (given_tag input))

  good : eqb (given_tag input) 0 ≡ false → good_point new.file (length new.store) ≡ true
  unfolding good_point
  good t = rw (le-leb 16376 (length new.store) (omega (arith, m, store-size)), le-leb _ _ (most-fits (given_tag input) (given_length input) (length input) t x.whole x.most))

  bytes-are : (room : ℕ) → head ≤ room → reparse_bytes new.file new.store room ≡ take room input
  unfolding reparse_bytes
  bytes-are room h =
      let z : head + (room - head) ≡ room = omega (arith, h) in
      ap₂ (λ (k l : List ℕ). k ++ take (room - head) l) (header_is input b x) (take_at (given_data input) _ (given_length input) data-size)
      ∙ sym (take-add head (room - head) input)
      ∙ ap (λ (n : ℕ). take n input) z

-- ---- the replies

-- behind the support and the file record: the tag and the room
reply-is : (w : Volume) (f : FileRecord) (store : List ℕ) (room : ℕ) → points_check w ≡ None → good_point f (length store) ≡ true
    → reparse_reply w f store room
    ≡ guard (else (unless (not (eqb f.tag 0)) NotAReparsePoint) (unless (leb (header_length f.tag) room) BufferTooSmall)) (give Success (reparse_bytes f store room))
unfolding reparse_reply reparse_check
reply-is w f store room c g = rw (c, g)

module _ (j : Journal) (p : Point) (q : Posting) (input : List ℕ) (new : Point) (b : Bytes input) (s : SucceedsWith Set j p q input new) where
  abbrev n : ℕ
  n = usn Set j p q input s.success

  new_is : new ≡ new_point Set p n input
  new_is = sym s.left ∙ ap (λ (l : Left). l.point) (left_is Set j p q input s.success)

  facts : (is_laid_out input ≡ true) × (16376 ≤ length p.store)
  facts = given-facts Set p.file (length p.store) input (given Set j p q input s.success)

  tagged : eqb (given_tag input) 0 ≡ false
  tagged = tag-given Set p.file (length p.store) input (given Set j p q input s.success)

  set-replies : (room : ℕ) → let r = new_point Set p n input in
      Gets r room (guard (unless (leb (header_length (given_tag input)) room) BufferTooSmall) (give Success (reparse_bytes r.file r.store room)))
  set-replies room w c =
      let r = new_point Set p n input in
      reply-is w r.file r.store room c (good input p.store b (parts-of input facts.0) facts.1 p.file n tagged)
      ∙ ap (λ (t : Bool). guard (else (unless (not t) NotAReparsePoint) (unless (leb (header_length (given_tag input)) room) BufferTooSmall)) (give Success (reparse_bytes r.file r.store room))) tagged

  set-part : (room : ℕ) → header_length (given_tag input) ≤ room → Gets new room (give Success (take room input))
  set-part room h w c =
      subst (λ (r : Point). Gets r room (give Success (take room input))) (sym new_is)
      (λ w c. set-replies room w c
      ∙ ap₂ (λ (t : Bool) (l : List ℕ). guard (unless t BufferTooSmall) (give Success l)) (le-leb _ _ h) (bytes-are input p.store b (parts-of input facts.0) facts.1 p.file n room h)) w c

  set-short : (room : ℕ) → room < header_length (given_tag input) → Gets new room (refuse BufferTooSmall)
  set-short room h w c =
      subst (λ (r : Point). Gets r room (refuse BufferTooSmall)) (sym new_is)
      (λ w c. set-replies room w c ∙ ap (λ (t : Bool). guard (unless t BufferTooSmall) (give Success (reparse_bytes (new_point Set p n input).file (new_point Set p n input).store room))) (lt-leb _ _ h)) w c

  set-whole : (room : ℕ) → length input ≤ room → Gets new room (give Success input)
  set-whole room h w c =
      set-part room (omega (arith, h, (parts-of input facts.0).header)) w c ∙ ap (give Success) (take_all room input h)

-- a file without a point is right
cleared : (f : FileRecord) (usn n : ℕ) → 16376 ≤ n → good_point (with_point f usn 0 (replicate 16 0) 0) n ≡ true
unfolding good_point most_data
cleared f usn n m = rw (le-leb 16376 n m)

delete-replies : (j : Journal) (p : Point) (q : Posting) (input : List ℕ) (new : Point) → SucceedsWith Delete j p q input new → (room : ℕ) → Gets new room (refuse NotAReparsePoint)
delete-replies j p q input new s room w c =
    let n = usn Delete j p q input s.success in
    let r : new ≡ new_point Delete p n input = sym s.left ∙ ap (λ (l : Left). l.point) (left_is Delete j p q input s.success) in
    subst (λ (r : Point). Gets r room (refuse NotAReparsePoint)) (sym r)
    (λ w c. reply-is w (new_point Delete p n input).file p.store room c
    (cleared p.file n (length p.store) (given-facts Delete p.file (length p.store) input (given Delete j p q input s.success)).1)) w c

-- ---- the post decides

module _ (u : Update) (j : Journal) (p : Point) (q : Posting) (input : List ℕ) (g : Passes u j p input) where
  abbrev d : Verdict
  d = verdict j.volume j.ring (point_posting q).change q.name

  -- what is left, by what becomes of the post
  abbrev decided : Verdict → Left
  decided d =
      left_by (rejection d) j p (record { volume = leaves d j.volume (posted_volume j.volume j.ring q.name); ring = leaves d j.ring (posted_ring j.volume j.ring (point_posting q).change q.name) })
      (new_point u p (leaves d p.file.usn (end_of j.volume q.name)) input)

  decides : update_left u j p q input ≡ decided d
  unfolding update_check
  decides =
      ap (λ (o : Option Status). left_by (else o (else (given_check u p.file (length p.store) input) (rejection d))) j p (after_post j (point_posting q)) (new_point u p (post_usn j.volume j.ring (point_posting q).change q.name p.file.usn) input)) g.supported
      ∙ ap (λ (o : Option Status). left_by (else o (rejection d)) j p (after_post j (point_posting q)) (new_point u p (post_usn j.volume j.ring (point_posting q).change q.name p.file.usn) input)) g.given

  skipped : d ≡ Skip → update_left u j p q input ≡ record { status = Success; journal = j; point = new_point u p p.file.usn input }
  skipped e = decides ∙ ap decided e

  rejected : (x : Status) → d ≡ Reject x → update_left u j p q input ≡ record { status = x; journal = j; point = p }
  rejected x e = decides ∙ ap decided e

  accepted : d ≡ Accept → update_left u j p q input ≡ record { status = Success; journal = after_post j (point_posting q); point = new_point u p (end_of j.volume q.name) input }
  accepted e =
      decides
      ∙ ap decided e
      ∙ sym (ap (λ (k : Verdict). record { status = Success; journal = record { volume = leaves k j.volume (posted_volume j.volume j.ring q.name); ring = leaves k j.ring (posted_ring j.volume j.ring (point_posting q).change q.name) }; point = new_point u p (end_of j.volume q.name) input }) e)

pub points : Points
points =
    record {
      part = set-part;
      whole = set-whole;
      short = set-short;
      gone = delete-replies;
      skips = skipped;
      rejects = rejected;
      accepts = accepted;
      supports = keeps-support;
    }
