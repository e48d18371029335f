-- A journal of one record that is saved and loaded again, and the checks of a load: one table and one statement.
-- Assumes nothing.
use mathlib.Core.Path.{◌≡◌, refl, ap, subst}
use mathlib.Core.Logic.{inl}
use mathlib.Core.List.{List, [], ◌∷◌, ◌++◌, map}
use Rattle.std.specs.Prelude.{Option, None, Some}
use Prim.Native.Nat.{ℕ}
use native.Mathlib.Omega.{arith}
use lib.Dec.{lit<}
use lib.ListN.{take, get_or, set, replicate}
use Rattle.le.specs.Numbers.{le, unle, number_at, encode, decode, total}
use Rattle.le.specs.Bytes.{all_zero, begins}
use Rattle.le.proofs.Runs.{are-bytes}
use Rattle.status.specs.declared.Status.{Status}
use Rattle.status.specs.declared.Status.TheVariants.{Success, InvalidParameter, InvalidDeviceRequest, UnknownRevision, DiskFull, FileCorruptError, JournalDeleteInProgress}
use Rattle.status.specs.Reply.{give}
use Rattle.volume.specs.declared.Volume.{Volume}
use Rattle.volume.specs.State.{good_capacity, good_position}
use Rattle.names.specs.Names.{good_unit, good_units, good_name}
use Rattle.usn_record.specs.declared.Version.TheVariants.{V3}
use Rattle.usn_record.specs.Layout.{layout}
use Rattle.record_reader.specs.Read.{accepted, parse_as, parse}
use Rattle.records.specs.Records.{records_in, records, joined, all_shown}
use Rattle.ring.specs.Ring.{rotated, placed}
use Rattle.journal.specs.Kept.{kept_bytes, keeps, chained, good_marks, sound, kept}
use Rattle.journal.specs.Boundary.{oldest}
use Rattle.journal_post.specs.Post.{posted_name, post_check, verdict, posted_volume, posted_ring}
use Rattle.journal_post.specs.Posts.{Journal, Posting}
use Rattle.image.specs.Image.{Image, words_in, word_sum, sum_of, sealed, image_of, good_trailer, all_of, last_from, fits_ring, read_image}
use Rattle.image.proofs.Examples.{one_image, one_bytes, one-stored, one-bytes, newer_bytes, newer-bytes}
use Rattle.image_move.proofs.Examples.{one_up}
use Rattle.image.specs.Forms.{form_version, form_check}
use Rattle.image_writer.specs.Write.{image_reply}
use Rattle.image_save.specs.Save.{save_check, save_reply}
use Rattle.image_load.specs.Load.{posting_of, fit_check, load_check, load_outcome, load_ring}
use Rattle.history.specs.Calls.{Call, create, post, load, load_effect, next, runs}
use Rattle.history.specs.Log.{History, posted, opened, is_posted, shed, added, note_post, note_posts, notes, opened_by, opening}
use Rattle.history.specs.Reading.{Reader, fresh}
use Rattle.history.proofs.Effects.{clash}
use Rattle.restart.specs.Restart as image
use Rattle.restart.specs.Restart.{NeverTaken, SavedAs, TypedJournal, IsImage, Ready, Again}
use Rattle.restart.specs.Across.{GoesOn}
use Rattle.restart.proofs.Whole.{restart}
use Rattle.restart.proofs.Across.{across}

-- ---- the journal

abbrev pub saved : Volume
saved = record { usn = 0; regions = 0; reparse = 0; points = 0; journal = 1; state = 1; id = 7; first = 80; last = 160; capacity = 1024 }

-- the record of file 5 in parent 6, with the Usn 160
abbrev pub record_bytes : List ℕ
record_bytes =
    80 ∷ 0 ∷ 0 ∷ 0 ∷ 3 ∷ 0 ∷ 0 ∷ 0
    ∷ 5 ∷ 0 ∷ 0 ∷ 0 ∷ 0 ∷ 0 ∷ 0 ∷ 0
    ∷ 0 ∷ 0 ∷ 0 ∷ 0 ∷ 0 ∷ 0 ∷ 0 ∷ 0
    ∷ 6 ∷ 0 ∷ 0 ∷ 0 ∷ 0 ∷ 0 ∷ 0 ∷ 0
    ∷ 0 ∷ 0 ∷ 0 ∷ 0 ∷ 0 ∷ 0 ∷ 0 ∷ 0
    ∷ 160 ∷ 0 ∷ 0 ∷ 0 ∷ 0 ∷ 0 ∷ 0 ∷ 0
    ∷ 0 ∷ 0 ∷ 0 ∷ 0 ∷ 0 ∷ 0 ∷ 0 ∷ 0
    ∷ 0 ∷ 1 ∷ 0 ∷ 0 ∷ 0 ∷ 0 ∷ 0 ∷ 0
    ∷ 0 ∷ 0 ∷ 0 ∷ 0 ∷ 0x20 ∷ 0 ∷ 0 ∷ 0
    ∷ 2 ∷ 0 ∷ 76 ∷ 0 ∷ 0x61 ∷ 0 ∷ 0 ∷ 0 ∷ []

-- 1,024 bytes: the record at place 80
pub ring : List ℕ
ring = replicate 80 0 ++ (record_bytes ++ replicate 864 0)

-- 96 bytes of room are enough
pub one-saved : save_reply saved ring 1 96 ≡ give Success one_bytes
unfolding ring save_reply save_check form_version image_reply sound good_marks good_capacity good_position kept kept_bytes rotated records records_in parse parse_as accepted good_name good_units good_unit layout encode decode le unle total begins chained keeps image_of sealed sum_of word_sum words_in joined all_zero all_shown
one-saved = refl

-- and in form 2
pub newer-saved : save_reply saved ring 2 112 ≡ give Success newer_bytes
unfolding ring save_reply save_check form_version image_reply sound good_marks good_capacity good_position kept kept_bytes rotated records records_in parse parse_as accepted good_name good_units good_unit layout encode decode le unle total begins chained keeps image_of sealed sum_of word_sum words_in joined all_zero all_shown
newer-saved = refl

typed : TypedJournal saved ring
unfolding ring
typed = (are-bytes ring refl, lit< tt)

-- ---- it is there again on an idle volume, whatever its ring held

abbrev pub idle : Volume
idle = record { usn = 0; regions = 0; reparse = 0; points = 0; journal = 1; state = 0; id = 3; first = 8; last = 1000; capacity = 1024 }

pub other : List ℕ
other = replicate 1024 255

ready : Ready saved idle other 8
unfolding other
ready =
    record {
      support = refl;
      inactive = refl;
      undeleted = refl;
      capacity = refl;
      buffer = refl;
      nonzero = λ z. omega arith;
      fresh = λ z. omega arith;
      unused = λ z. omega arith;
    }

pub one_again : Again saved ring 8 (load_outcome idle other one_bytes 8) (load_ring idle other one_bytes 8)
one_again = restart.again saved ring one_bytes typed (1, 96, one-saved) idle other 8 ready

pub newer-again : Again saved ring 8 (load_outcome idle other newer_bytes 8) (load_ring idle other newer_bytes 8)
newer-again = restart.again saved ring newer_bytes typed (2, 112, newer-saved) idle other 8 ready

-- the volume record and the ring that the load leaves there
abbrev pub loaded_volume : Volume
loaded_volume = record { usn = 0; regions = 0; reparse = 0; points = 0; journal = 1; state = 1; id = 8; first = 80; last = 160; capacity = 1024 }

pub loaded_ring : List ℕ
loaded_ring = replicate 80 255 ++ (record_bytes ++ replicate 864 255)

pub one-loaded : (load_outcome idle other one_bytes 8 ≡ record { status = Success; volume = loaded_volume }) × (load_ring idle other one_bytes 8 ≡ loaded_ring)
unfolding other loaded_ring load_check form_check form_version fit_check good_capacity good_position read_image good_trailer word_sum words_in decode unle number_at total records records_in parse parse_as accepted good_name good_units good_unit layout encode le begins all_of last_from fits_ring chained keeps verdict post_check posted_name posted_volume posted_ring oldest placed rotated sound good_marks kept kept_bytes
one-loaded = (refl, refl)

-- ---- and its history goes on there: the journal is one created at position 80, with one post

abbrev pub blank : Journal
blank =
    record {
      volume = record { usn = 0; regions = 0; reparse = 0; points = 0; journal = 1; state = 0; id = 0; first = 0; last = 80; capacity = 1024 };
      ring = replicate 1024 0;
    }

-- the ids of the file and its parent
abbrev five : List ℕ
five = 5 ∷ replicate 15 0

abbrev six : List ℕ
six = 6 ∷ replicate 15 0

abbrev pub posting : Posting
posting =
    record {
      change = record { file = five; parent = six; time = 0; reason = 0x100; source = 0; security = 0; attributes = 0x20 };
      name = 0x61 ∷ 0 ∷ [];
    }

abbrev pub calls : List Call
calls = post posting ∷ []

abbrev pub history : History
history = opened blank.volume 1024 80 7

abbrev pub loaded_history : History
loaded_history = note_posts (opened idle 1024 80 8) (map posting_of one_image.records)

calls-leave : record { volume = saved; ring = ring } ≡ runs (next blank (create 7)) calls
unfolding ring verdict post_check posted_name posted_volume posted_ring oldest placed rotated sound good_marks good_capacity good_position kept kept_bytes records records_in good_name good_units good_unit layout encode le unle chained
calls-leave = refl

loaded-opens : opening idle 1024 (load one_bytes 8) ≡ Some loaded_history
loaded-opens = ap (λ (o : Option Image). opened_by idle 1024 (load_effect 8 o)) one-stored

-- the record of the post, alone, under its old Usn
pub one-posted : posted loaded_history ≡ record {
  version = V3;
  fields = record { file = five; parent = six; usn = 160; time = 0; reason = 0x100; source = 0; security = 0; attributes = 0x20 };
  name = 0x61 ∷ 0 ∷ [];
} ∷ []
unfolding opened is_posted shed added note_post posted_name good_name good_units good_unit le
one-posted = refl

-- a reader of all records that had come to position 80
abbrev pub reader : Reader
reader = fresh 80 (record { mask = 0xFFFFFFFF; close = 0 })

pub one-across : GoesOn (notes history calls) reader (next (record { volume = idle; ring = other }) (load one_bytes 8)) loaded_history
unfolding other good_capacity good_position opened is_posted added note_post posted_name good_name good_units good_unit
one-across =
    across blank (create 7) history refl refl calls [] 80 reader.filter tt
    (record { file = record { size = refl; bytes = are-bytes five refl }; parent = record { size = refl; bytes = are-bytes six refl }; time = lit< tt; reason = lit< tt; source = lit< tt; security = lit< tt; attributes = lit< tt }, tt)
    (λ q. clash cc, tt) (inl refl) (λ z. omega arith) tt (subst (λ (j : Journal). TypedJournal j.volume j.ring) calls-leave typed) one_bytes one-bytes
    (subst (λ (j : Journal). SavedAs j.volume j.ring one_bytes) calls-leave (1, 96, one-saved)) (record { volume = idle; ring = other }) 8 loaded_history
    one_again.status loaded-opens

-- ---- cut short, and with another word

is-image : IsImage one_bytes
is-image = image.saved saved ring typed (1, 96, one-saved)

pub one-cut : NeverTaken (take 95 one_bytes)
one-cut = restart.cut one_bytes one-bytes is-image 95 (lit< tt)

-- an image that a move has written
pub newer-cut : NeverTaken (take 111 newer_bytes)
newer-cut = restart.cut newer_bytes newer-bytes (image.moved 1 one_bytes one-bytes (112, one_up)) 111 (lit< tt)

-- and it loads as the first one
pub one-moved : (load_outcome idle other newer_bytes 8 ≡ load_outcome idle other one_bytes 8) × (load_ring idle other newer_bytes 8 ≡ load_ring idle other one_bytes 8)
one-moved = restart.moved 1 one_bytes newer_bytes one-bytes (112, one_up) idle other 8

-- another file id
abbrev pub renamed : List ℕ
renamed = set one_bytes 8 9

pub one_word : NeverTaken renamed
one_word =
    restart.word one_bytes renamed 2 one-bytes (are-bytes renamed refl) is-image
    (record { size = refl; front = refl; back = refl; other = λ z. let d : ◌≡◌ {A = ℕ} 9 5 = ap (λ (s : List ℕ). get_or s 8 0) z in omega arith })

-- ---- the checks

-- a volume of capacity 1,024 whose last id was 3, with this support and state; a buffer, an image and a new id; what a load says
pub record Check : Type 0 where
  pub support : ℕ
  pub state : ℕ
  pub buffer : ℕ
  pub image : List ℕ
  pub id : ℕ
  pub says : Option Status

abbrev volume_in : ℕ → ℕ → Volume
volume_in support state =
    record { usn = 0; regions = 0; reparse = 0; points = 0; journal = support; state = state; id = 3; first = 8; last = 1000; capacity = 1024 }

abbrev pub checks : List Check
checks =
    record { support = 1; state = 0; buffer = 1024; image = one_bytes; id = 8; says = None }
    -- an id that is the image's, 0 or the volume's last one
    ∷ record { support = 1; state = 0; buffer = 1024; image = one_bytes; id = 7; says = Some InvalidParameter }
    ∷ record { support = 1; state = 0; buffer = 1024; image = one_bytes; id = 0; says = Some InvalidParameter }
    ∷ record { support = 1; state = 0; buffer = 1024; image = one_bytes; id = 3; says = Some InvalidParameter }
    -- no support, being deleted, active
    ∷ record { support = 0; state = 0; buffer = 1024; image = one_bytes; id = 8; says = Some InvalidDeviceRequest }
    ∷ record { support = 1; state = 2; buffer = 1024; image = one_bytes; id = 8; says = Some JournalDeleteInProgress }
    ∷ record { support = 1; state = 1; buffer = 1024; image = one_bytes; id = 8; says = Some InvalidParameter }
    -- form 3, form 2 with records of version 2, 31 bytes, another sum, another length of the buffer
    ∷ record { support = 1; state = 0; buffer = 1024; image = set one_bytes 92 3; id = 8; says = Some UnknownRevision }
    ∷ record { support = 1; state = 0; buffer = 1024; image = set one_bytes 92 2; id = 8; says = Some FileCorruptError }
    ∷ record { support = 1; state = 0; buffer = 1024; image = take 31 one_bytes; id = 8; says = Some FileCorruptError }
    ∷ record { support = 1; state = 0; buffer = 1024; image = set one_bytes 88 9; id = 8; says = Some FileCorruptError }
    ∷ record { support = 1; state = 0; buffer = 1016; image = one_bytes; id = 8; says = Some FileCorruptError }
    ∷ []

pub checks-right : map (λ (e : Check). record {
  support = e.support;
  state = e.state;
  buffer = e.buffer;
  image = e.image;
  id = e.id;
  says = load_check (volume_in e.support e.state) e.buffer e.image e.id;
}) checks ≡ checks
unfolding load_check form_check form_version fit_check good_capacity good_position read_image good_trailer word_sum words_in decode unle number_at total records records_in parse parse_as accepted good_name good_units good_unit layout encode le begins all_of last_from fits_ring chained keeps
checks-right = refl

-- records that span 1,032 bytes, under a new id and under 0: the id is checked first
pub fits-right : map (λ (id : ℕ). fit_check idle 1024 id 7 1032) (8 ∷ 0 ∷ []) ≡ Some DiskFull ∷ Some InvalidParameter ∷ []
unfolding fit_check good_capacity
fits-right = refl
