-- A ring that keeps a record with the name 0x5C, and the same ring with 0x5D in its place.
-- Assumes nothing.
use mathlib.Core.Path.{◌≡◌, refl}
use mathlib.Core.Bool.{false}
use mathlib.Core.List.{List, [], ◌∷◌, ◌++◌}
use Prim.Native.Nat.{ℕ}
use lib.ListN.{replicate}
use Rattle.le.specs.Numbers.{le, unle, number_at, encode, decode}
use Rattle.le.specs.Bytes.{all_zero, begins}
use Rattle.status.specs.declared.Status.TheVariants.{Success, InvalidParameter, FileCorruptError}
use Rattle.volume.specs.State.{good_capacity, good_position}
use Rattle.names.specs.Names.{good_unit, good_units, good_name}
use Rattle.usn_record.specs.declared.Version.TheVariants.{V3}
use Rattle.usn_record.specs.Layout.{layout, Record}
use Rattle.record_reader.specs.Read.{accepted, parse_as, parse}
use Rattle.records.specs.Records.{records_in, records, joined, all_shown}
use Rattle.ring.specs.Ring.{rotated, placed}
use Rattle.journal.specs.Kept.{kept_bytes, keeps, chained, good_marks, sound, kept}
use Rattle.journal.specs.Boundary.{records_after, oldest}
use Rattle.kept_writer.specs.Kept.{fits}
use Rattle.journal_post.specs.declared.Change.{Change}
use Rattle.journal_post.specs.Post.{posted_name, post_check, verdict, posted_volume, posted_ring}
use Rattle.journal_post.specs.Posts.{Journal, Posting}
use Rattle.journal_page.specs.Select.{wanted}
use Rattle.journal_page.specs.Page.{stops, page_of, page_reply}
use Rattle.journal_read.specs.Input.{argument_check}
use Rattle.journal_read.specs.Read.{is_deleted, origin, deleted_check, read_answer, read_reply}
use Rattle.image.specs.Image.{sealed, image_of}
use Rattle.image.specs.Forms.{form_version}
use Rattle.image_writer.specs.Write.{image_reply}
use Rattle.image_save.specs.Save.{save_check, save_reply}
use Rattle.reparse_point.specs.Reparse.{most_data, header_length, good_point}
use Rattle.reparse_update.specs.declared.Update.TheVariants.{Set}
use Rattle.reparse_update.specs.Update.{is_laid_out, given_check, update_check}
use Rattle.history.specs.Calls.{Call, create, post, read, delete, finish, save, update}
use Rattle.history.proofs.Points.{bare, link, statuses}
use Rattle.unsound.specs.Until.{Unsound}

-- one record of 80 bytes from position 80 on, with a name of one code unit, and bytes that no record wrote
abbrev keeping : ℕ → Journal
keeping unit =
    record {
      volume = record { usn = 0; regions = 0; reparse = 1; points = 1; journal = 1; state = 1; id = 7; first = 80; last = 160; capacity = 1024 };
      ring =
          replicate 80 0xFF
          ++ (80 ∷ 0 ∷ 0 ∷ 0 ∷ 3 ∷ 0 ∷ 0 ∷ 0
          ∷ 5 ∷ 0 ∷ 0 ∷ 0 ∷ 0 ∷ 0 ∷ 0 ∷ 0
          ∷ 0 ∷ 0 ∷ 0 ∷ 0 ∷ 0 ∷ 0 ∷ 0 ∷ 0
          ∷ 6 ∷ 0 ∷ 0 ∷ 0 ∷ 0 ∷ 0 ∷ 0 ∷ 0
          ∷ 0 ∷ 0 ∷ 0 ∷ 0 ∷ 0 ∷ 0 ∷ 0 ∷ 0
          ∷ 160 ∷ 0 ∷ 0 ∷ 0 ∷ 0 ∷ 0 ∷ 0 ∷ 0
          ∷ 0 ∷ 0 ∷ 0 ∷ 0 ∷ 0 ∷ 0 ∷ 0 ∷ 0
          ∷ 0 ∷ 1 ∷ 0 ∷ 0 ∷ 0 ∷ 0 ∷ 0 ∷ 0
          ∷ 0 ∷ 0 ∷ 0 ∷ 0 ∷ 0x20 ∷ 0 ∷ 0 ∷ 0
          ∷ 2 ∷ 0 ∷ 76 ∷ 0 ∷ unit ∷ 0 ∷ 0 ∷ 0 ∷ []) ++ replicate 864 0xFF;
    }

-- with 0x5C it is a journal that `Until` speaks of
pub is-unsound : Unsound (keeping 0x5C)
unfolding sound good_marks good_capacity good_position kept_bytes rotated records records_in parse parse_as accepted good_name good_units good_unit layout encode decode le unle begins chained keeps
is-unsound = record { active = refl; unsound = refl }

-- the ids of the file and its parent
abbrev five : List ℕ
five = 5 ∷ replicate 15 0

abbrev six : List ℕ
six = 6 ∷ replicate 15 0

-- and its record is one that `names` speaks of
abbrev kept-one : Record
kept-one =
    record {
      version = V3;
      fields = record { file = five; parent = six; usn = 160; time = 0; reason = 0x100; source = 0; security = 0; attributes = 0x20 };
      name = 0x5C ∷ 0 ∷ [];
    }

pub names-met : (kept_bytes (keeping 0x5C).volume (keeping 0x5C).ring ≡ joined (kept-one ∷ [])) × (good_name kept-one.name ≡ false)
unfolding kept_bytes rotated joined layout encode le unle good_name good_units good_unit
names-met = (refl, refl)

-- a post of the name 'a' and then of 'a\', a read from the oldest record on with a room of 600 bytes, a save
abbrev change : Change
change = record { file = five; parent = six; time = 0; reason = 0x100; source = 0; security = 0; attributes = 0x20 }

abbrev posting : Posting
posting = record { change = change; name = 0x61 ∷ 0 ∷ [] }

abbrev good : Call
good = post posting

abbrev separated : Call
separated = post (record { change = change; name = 0x61 ∷ 0 ∷ 0x5C ∷ 0 ∷ [] })

-- StartUsn 0, every Reason, the journal's id
abbrev all : ℕ → Call
all id =
    read
    (record {
      input = replicate 8 0 ++ (0xFF ∷ 0xFF ∷ 0xFF ∷ 0xFF ∷ []) ++ replicate 20 0 ++ (id ∷ []) ++ replicate 7 0;
      room = 600;
    })

-- a reparse point is set
abbrev linking : Call
linking = update Set bare posting link

-- refused until the journal is deleted and created anew; then only the name with the separator is
pub refused-until-anew :
    statuses (keeping 0x5C) (good ∷ all 7 ∷ save 1 600 ∷ linking ∷ create 8 ∷ delete 7 ∷ finish ∷ create 8 ∷ good ∷ separated ∷ all 8 ∷ save 1 600 ∷ linking ∷ [])
    ≡ FileCorruptError ∷ FileCorruptError ∷ FileCorruptError ∷ FileCorruptError ∷ InvalidParameter ∷ Success ∷ Success ∷ Success ∷ Success ∷ InvalidParameter ∷ Success ∷ Success ∷ Success ∷ []
unfolding verdict post_check posted_name posted_volume posted_ring oldest placed rotated sound good_marks good_capacity good_position kept kept_bytes records records_in parse parse_as accepted good_name good_units good_unit layout encode decode le unle number_at begins chained keeps wanted all_zero fits stops page_of page_reply records_after argument_check is_deleted origin deleted_check read_answer read_reply save_reply save_check form_version image_reply image_of sealed joined all_shown most_data header_length good_point is_laid_out given_check update_check
refused-until-anew = refl

-- with another name it is not
pub not-refused : statuses (keeping 0x5D) (good ∷ all 7 ∷ save 1 600 ∷ linking ∷ separated ∷ []) ≡ Success ∷ Success ∷ Success ∷ Success ∷ InvalidParameter ∷ []
unfolding verdict post_check posted_name posted_volume posted_ring oldest placed rotated sound good_marks good_capacity good_position kept kept_bytes records records_in parse parse_as accepted good_name good_units good_unit layout encode decode le unle number_at begins chained keeps wanted all_zero fits stops page_of page_reply records_after argument_check is_deleted origin deleted_check read_answer read_reply save_reply save_check form_version image_reply image_of sealed joined all_shown most_data header_length good_point is_laid_out given_check update_check
not-refused = refl
