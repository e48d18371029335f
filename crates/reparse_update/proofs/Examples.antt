-- Examples: reparse points set and deleted in both layouts, and each refusal, on a volume without a journal, so that posts are skipped.
-- Assumes nothing.
use mathlib.Core.Path.{◌≡◌, refl}
use mathlib.Core.List.{List, [], ◌∷◌, ◌++◌, map}
use Prim.Native.Nat.{ℕ}
use lib.ListN.{take, replicate}
use native.Mathlib.Omega.{arith}
use Rattle.le.specs.Numbers.{unle, number_at}
use Rattle.le.proofs.Runs.{are-bytes}
use Rattle.status.specs.declared.Status.{Status}
use Rattle.status.specs.declared.Status.TheVariants.{Success, FileCorruptError, NotAReparsePoint, IoReparseTagInvalid, IoReparseTagMismatch, IoReparseDataInvalid, ReparseAttributeConflict}
use Rattle.status.specs.Reply.{give}
use Rattle.volume.specs.declared.Volume.{Volume}
use Rattle.file_record.specs.declared.FileRecord.{FileRecord}
use Rattle.journal_post.specs.Post.{verdict}
use Rattle.journal_post.specs.Posts.{Posting}
use Rattle.reparse_point.specs.Reparse.{most_data, header_length, good_point}
use Rattle.reparse_update.specs.declared.Update.{Update}
use Rattle.reparse_update.specs.declared.Update.TheVariants.{Set, Delete}
use Rattle.reparse_update.specs.Update.{is_laid_out, given_check, update_check, Left, update_left}
use Rattle.reparse_update.specs.Points.{Gets}
use Rattle.reparse_update.proofs.Points.{points}

abbrev volume : Volume
volume = record { usn = 0; regions = 0; reparse = 1; points = 1; journal = 0; state = 0; id = 0; first = 0; last = 0; capacity = 0 }

abbrev posting : Posting
posting =
    record {
      change = record {
        file = 1 ∷ replicate 15 0;
        parent = 5 ∷ replicate 15 0;
        time = 0;
        reason = 0;
        source = 0;
        security = 0;
        attributes = 0x400;
      };
      name = 0x61 ∷ 0 ∷ [];
    }

-- a file with this tag, GUID and length of data
abbrev file : ℕ → List ℕ → ℕ → FileRecord
file tag guid n = record { id = 1 ∷ replicate 15 0; attributes = 0x400; usn = 7; eof = 0; valid = 0; tag = tag; guid = guid; length = n }

abbrev none : List ℕ
none = replicate 16 0

abbrev one : List ℕ
one = 1 ∷ 2 ∷ 3 ∷ 4 ∷ 5 ∷ 6 ∷ 7 ∷ 8 ∷ 9 ∷ 10 ∷ 11 ∷ 12 ∷ 13 ∷ 14 ∷ 15 ∷ 16 ∷ []

-- the same but for its last byte
abbrev other : List ℕ
other = 1 ∷ 2 ∷ 3 ∷ 4 ∷ 5 ∷ 6 ∷ 7 ∷ 8 ∷ 9 ∷ 10 ∷ 11 ∷ 12 ∷ 13 ∷ 14 ∷ 15 ∷ 17 ∷ []

-- inputs: a Microsoft tag with three bytes of data, one that is not Microsoft's with a GUID and two, and both without data
abbrev link : List ℕ
link = 0x0C ∷ 0 ∷ 0 ∷ 0xA0 ∷ 3 ∷ 0 ∷ 0 ∷ 0 ∷ 0xD1 ∷ 0xD2 ∷ 0xD3 ∷ []

abbrev guided : List ℕ
guided = 0x42 ∷ 0 ∷ 0 ∷ 0 ∷ 2 ∷ 0 ∷ 0 ∷ 0 ∷ 1 ∷ 2 ∷ 3 ∷ 4 ∷ 5 ∷ 6 ∷ 7 ∷ 8 ∷ 9 ∷ 10 ∷ 11 ∷ 12 ∷ 13 ∷ 14 ∷ 15 ∷ 16 ∷ 0xE1 ∷ 0xE2 ∷ []

abbrev no_link : List ℕ
no_link = 0x0C ∷ 0 ∷ 0 ∷ 0xA0 ∷ 0 ∷ 0 ∷ 0 ∷ 0 ∷ []

abbrev no_guided : List ℕ
no_guided = 0x42 ∷ 0 ∷ 0 ∷ 0 ∷ 0 ∷ 0 ∷ 0 ∷ 0 ∷ 1 ∷ 2 ∷ 3 ∷ 4 ∷ 5 ∷ 6 ∷ 7 ∷ 8 ∷ 9 ∷ 10 ∷ 11 ∷ 12 ∷ 13 ∷ 14 ∷ 15 ∷ 16 ∷ []

-- a call on a file with an input; its status, the file that it leaves, and the first four bytes of the store, of which all were 0xEE
pub record Example : Type 0 where
  pub call : Update
  pub file : FileRecord
  pub input : List ℕ
  pub status : Status
  pub after : FileRecord
  pub store : List ℕ

abbrev row : Update → FileRecord → List ℕ → Status → FileRecord → List ℕ → Example
row u f input x g front = record { call = u; file = f; input = input; status = x; after = g; store = front }

-- one that is refused leaves all
abbrev refused : Update → FileRecord → List ℕ → Status → Example
refused u f input x = row u f input x f (replicate 4 0xEE)

abbrev examples : List Example
examples =
    row Set (file 0 none 0) link Success (file 0xA000000C none 3) (0xD1 ∷ 0xD2 ∷ 0xD3 ∷ 0xEE ∷ [])
    ∷ row Set (file 0xA000000C one 16376) link Success (file 0xA000000C none 3) (0xD1 ∷ 0xD2 ∷ 0xD3 ∷ 0xEE ∷ [])
    ∷ row Set (file 0 other 0) guided Success (file 0x42 one 2) (0xE1 ∷ 0xE2 ∷ 0xEE ∷ 0xEE ∷ [])
    ∷ row Delete (file 0xA000000C none 3) no_link Success (file 0 none 0) (replicate 4 0xEE)
    ∷ row Delete (file 0x42 one 2) no_guided Success (file 0 none 0) (replicate 4 0xEE)
    ∷ refused Set (file 0 none 1) link FileCorruptError
    ∷ refused Set (file 0 none 0) (replicate 8 0) IoReparseDataInvalid
    ∷ refused Set (file 0xA000000C none 3) (link ++ (0 ∷ [])) IoReparseDataInvalid
    ∷ refused Set (file 0 none 0) (0x0C ∷ 0 ∷ 0 ∷ 0xA0 ∷ 0 ∷ 0 ∷ 1 ∷ 0 ∷ []) IoReparseDataInvalid
    ∷ refused Delete (file 0xA000000C none 3) link IoReparseDataInvalid
    ∷ refused Set (file 0xA000000C none 3) (replicate 24 0) IoReparseTagInvalid
    ∷ refused Delete (file 0 none 0) no_link NotAReparsePoint
    ∷ refused Set (file 0x42 one 2) link IoReparseTagMismatch
    ∷ refused Delete (file 0x42 one 2) no_link IoReparseTagMismatch
    ∷ refused Set (file 0x42 other 2) guided ReparseAttributeConflict
    ∷ refused Delete (file 0x42 other 2) no_guided ReparseAttributeConflict
    ∷ []

abbrev answered : Example → Example
answered e =
    let l : Left = update_left e.call (record { volume = volume; ring = [] }) (record { file = e.file; store = replicate 16376 0xEE }) posting e.input in
    row e.call e.file e.input l.status l.point.file (take 4 l.point.store)

-- each call answers and leaves so
pub points-right : map answered examples ≡ examples
unfolding unle number_at most_data header_length good_point is_laid_out given_check update_check verdict
points-right = refl

-- ---- what a get replies then

-- the first of them meets the hypotheses: with room for nine bytes, a get replies the first nine that were set
pub link-got : Gets (record { file = file 0xA000000C none 3; store = 0xD1 ∷ 0xD2 ∷ 0xD3 ∷ replicate 16373 0xEE }) 9
    (give Success (0x0C ∷ 0 ∷ 0 ∷ 0xA0 ∷ 3 ∷ 0 ∷ 0 ∷ 0 ∷ 0xD1 ∷ []))
unfolding unle number_at most_data header_length good_point is_laid_out given_check update_check verdict
link-got =
    points.part (record { volume = volume; ring = [] }) (record { file = file 0 none 0; store = replicate 16376 0xEE }) posting link _ (are-bytes link refl)
    (record { success = refl; left = refl }) 9 (omega arith)
