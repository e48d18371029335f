-- FSCTL_SET_REPARSE_POINT and FSCTL_DELETE_REPARSE_POINT: what each answers and leaves.
use Rattle.std.specs.Prelude.{◌≡◌, Bool, true, false, not, cond, ◌&&◌, ◌||◌, List, ◌++◌, ℕ, ◌+◌, leb, eqb, length, take, drop, replicate, Option, None, Some, Result}
use Rattle.le.specs.Numbers.{unle, number_at}
use Rattle.status.specs.declared.Status.{Status}
use Rattle.status.specs.declared.Status.TheVariants.{Success, FileCorruptError, NotAReparsePoint, IoReparseTagInvalid, IoReparseTagMismatch, IoReparseDataInvalid, ReparseAttributeConflict}
use Rattle.status.specs.Check.{unless, else, judged}
use Rattle.volume.specs.declared.Volume.{Volume}
use Rattle.file_record.specs.declared.FileRecord.{FileRecord}
use Rattle.journal_post.specs.declared.Change.{Change}
use Rattle.journal_post.specs.Post.{verdict, rejection, post_usn}
use Rattle.journal_post.specs.Posts.{Journal, Posting, after_post}
use Rattle.reparse_point.specs.Reparse.{is_microsoft, header_length, points_check, good_point}
use Rattle.reparse_update.specs.declared.Update.{Update}
use Rattle.reparse_update.specs.declared.Update.TheVariants.{Set, Delete}

-- ---- the input, in either layout: tag, length of the data, Reserved, the GUID where the tag is not Microsoft's, and the data

abbrev pub given_tag : List ℕ → ℕ
given_tag input = number_at input 0 4

abbrev pub given_length : List ℕ → ℕ
given_length input = number_at input 4 2

abbrev pub given_reserved : List ℕ → ℕ
given_reserved input = number_at input 6 2

-- zeroes for a Microsoft tag
abbrev pub given_guid : List ℕ → List ℕ
given_guid input = cond (is_microsoft (given_tag input)) (replicate 16 0) (take 16 (drop 8 input))

abbrev pub given_data : List ℕ → List ℕ
given_data input = drop (header_length (given_tag input)) input

-- no shorter than its header, which has 8 bytes at least; header and data are the whole input, of 16,384 bytes at most; Reserved is 0
unfoldable pub is_laid_out : List ℕ → Bool
is_laid_out input =
    leb (header_length (given_tag input)) (length input)
    && (eqb (header_length (given_tag input) + given_length input) (length input)
    && (leb (length input) 16384 && eqb (given_reserved input) 0))

-- ---- the checks on the arguments

abbrev pub is_delete : Update → Bool
is_delete Set = false
is_delete Delete = true

-- another tag than this stands
abbrev pub has_other_tag : FileRecord → ℕ → Bool
has_other_tag f tag = not (eqb f.tag 0) && not (eqb f.tag tag)

-- the tag that is given stands, which is not Microsoft's, with another GUID; both are compared as numbers of sixteen bytes
abbrev pub has_other_guid : FileRecord → List ℕ → Bool
has_other_guid f input = eqb f.tag (given_tag input) && (not (is_microsoft f.tag) && not (eqb (unle f.guid) (unle (given_guid input))))

-- the file record, with a store of n bytes; the layout, with no data for a delete; a tag; of a delete, a point to delete; the tag and
-- the GUID that stand
unfoldable pub given_check : Update → FileRecord → ℕ → List ℕ → Option Status
given_check u f n input =
    else (unless (good_point f n) FileCorruptError)
    (else (unless (is_laid_out input && (not (is_delete u) || eqb (given_length input) 0)) IoReparseDataInvalid)
    (else (unless (not (eqb (given_tag input) 0)) IoReparseTagInvalid)
    (else (unless (not (is_delete u && eqb f.tag 0)) NotAReparsePoint)
    (else (unless (not (has_other_tag f (given_tag input))) IoReparseTagMismatch)
    (unless (not (has_other_guid f input)) ReparseAttributeConflict)))))

-- ---- the post

-- what comes with the call is posted with this Reason, whatever its own
abbrev pub point_reason : ℕ
point_reason = 0x00100000

abbrev pub point_change : Change → Change
point_change c =
    record {
      file = c.file;
      parent = c.parent;
      time = c.time;
      reason = point_reason;
      source = c.source;
      security = c.security;
      attributes = c.attributes;
    }

abbrev pub point_posting : Posting → Posting
point_posting q = record { change = point_change q.change; name = q.name }

-- ---- what is left of the file

-- a file's record, and the store of its reparse data
pub record Point : Type 0 where
  pub file : FileRecord
  pub store : List ℕ

-- f with this Usn, tag, GUID and length of the data
abbrev pub with_point : FileRecord → ℕ → ℕ → List ℕ → ℕ → FileRecord
with_point f usn tag guid n =
    record {
      id = f.id;
      usn = usn;
      eof = f.eof;
      valid = f.valid;
      attributes = f.attributes;
      tag = tag;
      guid = guid;
      length = n;
    }

-- set stores tag, GUID, length and data, and no other byte of the store; delete clears tag, GUID and length
abbrev pub new_point : Update → Point → ℕ → List ℕ → Point
new_point Set p usn input =
    record {
      file = with_point p.file usn (given_tag input) (given_guid input) (given_length input);
      store = given_data input ++ drop (length (given_data input)) p.store;
    }
new_point Delete p usn input = record { file = with_point p.file usn 0 (replicate 16 0) 0; store = p.store }

-- ---- the whole call

-- the volume's support; the arguments; and what the post would answer, before anything is stored
unfoldable pub update_check : Update → Journal → Point → Posting → List ℕ → Option Status
update_check u j p q input =
    else (points_check j.volume)
    (else (given_check u p.file (length p.store) input)
    (rejection (verdict j.volume j.ring (point_change q.change) q.name)))

-- what a call answers and leaves
pub record Left : Type 0 where
  pub status : Status
  pub journal : Journal
  pub point : Point

-- a refusal leaves all as it was
abbrev pub left_by : Option Status → Journal → Point → Journal → Point → Left
left_by None j p k new = record { status = Success; journal = k; point = new }
left_by (Some x) j p k new = record { status = x; journal = j; point = p }

-- the post, and the file's Usn from it
abbrev pub update_left : Update → Journal → Point → Posting → List ℕ → Left
update_left u j p q input =
    let usn = post_usn j.volume j.ring (point_change q.change) q.name p.file.usn in
    left_by (update_check u j p q input) j p (after_post j (point_posting q)) (new_point u p usn input)

-- a call that gave r, and left these records, this ring and this store, did so
pub record Updates (u : Update) (j : Journal) (p : Point) (q : Posting) (input : List ℕ) (r : Result (Unit {0}) Status)
    (v : Volume) (ringNow : List ℕ) (f : FileRecord) (storeNow : List ℕ) : Type 0 where
  pub given : r ≡ judged (update_check u j p q input)
  pub volume : v ≡ (update_left u j p q input).journal.volume
  pub ring : ringNow ≡ (update_left u j p q input).journal.ring
  pub file : f ≡ (update_left u j p q input).point.file
  pub store : storeNow ≡ (update_left u j p q input).point.store
