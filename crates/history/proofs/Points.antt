-- The promise to a reader at a list that sets a reparse point and deletes it: where the volume supports reparse points, each posts a record with
-- Reason 0x00100000.
-- Assumes nothing.
use mathlib.Core.Path.{◌≡◌, refl}
use mathlib.Core.Logic.{inr}
use mathlib.Core.Bool.{true}
use mathlib.Core.List.Memᴰ
use mathlib.Core.List.{List, [], ◌∷◌, ◌++◌, map}
use Rattle.std.specs.Prelude.{Option, None, Some}
use Prim.Native.Nat.{ℕ}
use native.Mathlib.Omega.{arith}
use lib.ListN.{length, replicate}
use Rattle.le.specs.Numbers.{le, unle, number_at, encode, decode}
use Rattle.le.specs.Bytes.{all_zero, begins}
use Rattle.status.specs.declared.Status.{Status}
use Rattle.status.specs.declared.Status.TheVariants.{Success, VolumeNotUpgraded}
use Rattle.volume.specs.State.{good_capacity, good_position}
use Rattle.names.specs.Names.{good_unit, good_units, good_name}
use Rattle.usn_record.specs.Layout.{layout, Record}
use Rattle.record_reader.specs.Read.{accepted, parse_as, parse}
use Rattle.records.specs.Records.{records_in, records, all_shown}
use Rattle.ring.specs.Ring.{rotated, placed}
use Rattle.journal.specs.Kept.{kept_bytes, keeps, chained, good_marks, sound, kept}
use Rattle.journal.specs.Boundary.{oldest}
use Rattle.journal_post.specs.Post.{posted_name, post_check, verdict, record_of, posted_volume, posted_ring}
use Rattle.journal_post.specs.Posts.{Journal, Posting}
use Rattle.journal_page.specs.Select.{wanted}
use Rattle.journal_read.specs.Input.{argument_check}
use Rattle.reparse_point.specs.Reparse.{most_data, header_length, good_point}
use Rattle.reparse_point.proofs.Examples.{file}
use Rattle.reparse_update.specs.declared.Update.{Update}
use Rattle.reparse_update.specs.declared.Update.TheVariants.{Set, Delete}
use Rattle.reparse_update.specs.Update.{is_laid_out, given_check, point_posting, Point, with_point, update_check, update_left}
use Rattle.history.specs.Calls.{Call, create, update, update_effect, status_of, next, runs}
use Rattle.history.specs.Log.{History, posted, opened, is_posted, shed, added, note_post, notes}
use Rattle.history.specs.Reading.{fresh, mine, follow}
use Rattle.history.specs.Demand.{is_opening, CreatesNone, NoCreation, above, well_formed, ReaderPromise}
use Rattle.history.proofs.Effects.{clash}
use Rattle.history.proofs.Whole.{demand3}
use Rattle.history.proofs.Examples.{name, posting, widths, asks, all}

-- ---- a set and a delete on a fresh volume of 1,024 bytes

-- it has the controls on reparse points, and supports these by a flag
abbrev disk : ℕ → Journal
disk points =
    record {
      volume = record { usn = 0; regions = 0; reparse = 1; points = points; journal = 1; state = 0; id = 0; first = 0; last = 0; capacity = 1024 };
      ring = replicate 1024 0;
    }

abbrev created : ℕ → Journal
created points = next (disk points) (create 7)

-- a file without a reparse point, and the same file once the set has stored a symbolic link's tag with four bytes of data and the Usn of its post
abbrev pub bare : Point
bare = record { file = file 0 0; store = replicate 16376 0 }

abbrev linked : Point
linked = record { file = with_point (file 0 0) 80 0xA000000C (replicate 16 0) 4; store = 1 ∷ 2 ∷ 3 ∷ 4 ∷ replicate 16372 0 }

-- their inputs: tag, length, Reserved, data
abbrev pub link : List ℕ
link = 0x0C ∷ 0 ∷ 0 ∷ 0xA0 ∷ 4 ∷ 0 ∷ 0 ∷ 0 ∷ 1 ∷ 2 ∷ 3 ∷ 4 ∷ []

abbrev header : List ℕ
header = 0x0C ∷ 0 ∷ 0 ∷ 0xA0 ∷ 0 ∷ 0 ∷ 0 ∷ 0 ∷ []

pub set-right : (update_left Set (created 1) bare posting link).point ≡ linked
unfolding unle number_at most_data header_length good_point is_laid_out given_check update_check verdict post_check posted_name good_name good_units good_unit sound good_marks good_capacity good_position kept_bytes rotated records records_in chained
set-right = refl

abbrev calls : List Call
calls = update Set bare posting link ∷ update Delete linked posting header ∷ []

-- what each call of a list answers
abbrev pub statuses : Journal → List Call → List Status
statuses j [] = []
statuses j (c ∷ cs) = status_of j c ∷ statuses (next j c) cs

-- with the flag both succeed
pub statuses-right : map (λ (n : ℕ). statuses (created n) calls) (1 ∷ 0 ∷ []) ≡ (Success ∷ Success ∷ []) ∷ (VolumeNotUpgraded ∷ VolumeNotUpgraded ∷ []) ∷ []
unfolding unle number_at most_data header_length good_point is_laid_out given_check update_check verdict post_check posted_name posted_volume posted_ring oldest placed good_name good_units good_unit sound good_marks good_capacity good_position kept kept_bytes rotated records records_in parse parse_as accepted layout encode decode le begins chained keeps
statuses-right = refl

-- ---- what the history has posted then

abbrev told : ℕ → History
told points = notes (opened (disk points).volume 1024 0 7) calls

pub posted-right : map (λ (n : ℕ). posted (told n)) (1 ∷ 0 ∷ [])
    ≡ (record_of (point_posting posting).change name 80 ∷ record_of (point_posting posting).change name 160 ∷ []) ∷ [] ∷ []
unfolding unle number_at most_data header_length good_point is_laid_out given_check opened is_posted shed added note_post posted_name good_name good_units good_unit
posted-right = refl

-- the Reason that came with the calls was another
pub reasons-right : map (λ (r : Record). r.fields.reason) (posted (told 1)) ≡ 0x00100000 ∷ 0x00100000 ∷ []
unfolding unle number_at most_data header_length good_point is_laid_out given_check opened is_posted shed added note_post posted_name good_name good_units good_unit
reasons-right = refl

-- ---- the promise to a reader that starts at the first record's Usn: what it asks can be met

created-right : status_of (disk 1) (create 7) ≡ Success
unfolding good_capacity good_position
created-right = refl

opens-none : (j : Journal) (u : Update) (p : Point) (q : Posting) (input : List ℕ) → CreatesNone j (update u p q input)
opens-none j u p q input e s = by (given_check u p.file (length p.store) input) e
  where
    by : (o : Option Status) → is_opening (update_effect o (point_posting q)) ≡ true → ⊥
    by None e = clash cc
    by (Some x) e = clash cc

none-created : NoCreation (created 1) (calls ++ [])
none-created = (opens-none (created 1) Set bare posting link, (opens-none _ Delete linked posting header, tt))

reader : ReaderPromise (runs (created 1) (calls ++ [])) (notes (opened (disk 1).volume 1024 0 7) (calls ++ [])) (fresh 80 all)
unfolding unle number_at most_data header_length good_point is_laid_out given_check opened is_posted shed added note_post posted_name good_name good_units good_unit
reader =
    demand3 (disk 1) (create 7) (opened (disk 1).volume 1024 0 7) created-right refl calls [] 80 all tt (widths, (widths, tt)) none-created
    (inr (record_of (point_posting posting).change name 80, Memᴰ.head refl, refl)) (λ z. omega arith) tt

-- one read brings it to the end
pub set-reaches-end : (follow (runs (created 1) calls) (fresh 80 all) (mine (asks 80 600) ∷ [])).position ≡ 160
unfolding most_data header_length good_point is_laid_out given_check opened is_posted shed added note_post posted_name good_name good_units good_unit le unle number_at argument_check well_formed wanted above all_zero all_shown
set-reaches-end =
    reader.progress (λ d. Memᴰ.not-nil d.1) (mine (asks 80 600) ∷ []) (tt, tt) (λ q. clash cc, tt) ((refl, (refl, refl)), tt) refl (omega arith)
