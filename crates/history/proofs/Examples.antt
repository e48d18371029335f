-- The examples of the journal, and the promise to readers at one list of calls.
-- Assumes nothing.
use mathlib.Core.Path.{◌≡◌, refl, ap, ap₂, ◌∙◌}
use mathlib.Core.Logic.{inl, inr}
use mathlib.Core.Bool.{true}
use mathlib.Core.List.Memᴰ
use mathlib.Core.List.{List, [], ◌∷◌, ◌++◌, map, Memᴰ}
use Rattle.std.specs.Prelude.{Option, None, Some}
use Prim.Native.Nat.{ℕ, zero, suc}
use native.Mathlib.Omega.{arith}
use lib.ListN.{replicate}
use Rattle.le.specs.Numbers.{le, unle, number_at, encode, decode, total}
use Rattle.le.specs.Bytes.{all_zero, begins}
use Rattle.le.proofs.Runs.{are-bytes}
use Rattle.status.specs.declared.Status.TheVariants.{Success, InvalidParameter, BufferTooSmall, JournalEntryDeleted}
use Rattle.status.specs.Reply.{Reply, refuse, give, answer}
use Rattle.volume.specs.State.{good_capacity, good_position}
use Rattle.names.specs.Names.{good_unit, good_units, good_name}
use Rattle.usn_record.specs.Layout.{layout, Record}
use Rattle.record_reader.specs.Read.{accepted, parse_as, parse}
use Rattle.records.specs.Records.{records_in, records, joined, all_shown}
use Rattle.journal.specs.Kept.{keeps, chained}
use Rattle.journal.specs.Boundary.{records_after}
use Rattle.journal_post.specs.declared.Change.{Change}
use Rattle.journal_post.specs.Post.{posted_name, record_of}
use Rattle.journal_page.specs.declared.Filter.{Filter}
use Rattle.journal_read.specs.Input.{argument_check}
use Rattle.journal_page.specs.Select.{wanted}
use Rattle.kept_writer.specs.Kept.{fits}
use Rattle.journal_page.specs.Page.{stops, page_of, page_reply}
use Rattle.journal_read.specs.Read.{is_deleted, origin, deleted_check, read_answer}
use Rattle.journal_post.specs.Posts.{Journal, Posting}
use Rattle.image.specs.Image.{Image, words_in, word_sum, good_trailer, all_of, last_from, fits_ring, read_image}
use Rattle.image.specs.Forms.{form_version, form_check}
use Rattle.image.proofs.Examples.{one_image, one_bytes, one-stored, one-bytes}
use Rattle.image_load.specs.Load.{posting_of, fit_check, load_check}
use Rattle.history.specs.Calls.{Read, create, post, read, load, load_effect, reply_to, status_of, next, runs, Widths, AllTyped}
use Rattle.history.specs.Log.{History, posted, opened, is_posted, shed, added, note_post, note_posts, notes, opened_by, opening}
use Rattle.history.specs.Reading.{fresh, mine, follow}
use Rattle.history.specs.Demand.{NoCreation, above, well_formed, ReaderPromise}
use Rattle.history.proofs.Effects.{clash}
use Rattle.history.proofs.Sim.{Sim, Live}
use Rattle.history.proofs.Simulate.{opening-sim, sim-run}
use Rattle.history.proofs.Readers.{reply-live}
use Rattle.history.proofs.Whole.{demand3}

-- ---- thirteen posts with names of 2 bytes on a fresh volume of 1,024 bytes

-- an id of one byte
abbrev pub narrow : ℕ → List ℕ
narrow n = n ∷ replicate 15 0

abbrev pub change : Change
change = record { file = narrow 1; parent = narrow 2; time = 3; reason = 256; source = 0; security = 0; attributes = 32 }

abbrev pub name : List ℕ
name = 97 ∷ 0 ∷ []

abbrev pub disk : Journal
disk =
    record {
      volume = record { usn = 0; regions = 0; reparse = 0; points = 0; journal = 1; state = 0; id = 0; first = 0; last = 0; capacity = 1024 };
      ring = replicate 1024 0;
    }

abbrev pub posting : Posting
posting = record { change = change; name = name }

abbrev pub journal_after : ℕ → Journal
journal_after n = runs (next disk (create 7)) (replicate n (post posting))

-- the history: opened at position 0
abbrev pub history_after : ℕ → History
history_after n = notes (opened disk.volume 1024 0 7) (replicate n (post posting))

abbrev pub after : Journal
after = journal_after 13

abbrev pub told : History
told = history_after 13

-- all records from a start on, in version 2, with so much room
abbrev pub asks : ℕ → ℕ → Read
asks start room = record { input = le 8 start ++ (le 4 0xFFFFFFFF ++ (le 4 0 ++ (le 8 0 ++ (le 8 0 ++ le 8 7)))); room = room }

-- ---- the journal that they leave

pub widths : Widths change
widths =
    record { file = record { size = refl; bytes = are-bytes (narrow 1) refl }; parent = record { size = refl; bytes = are-bytes (narrow 2) refl }; time = omega arith; reason = omega arith; source = omega arith; security = omega arith; attributes = omega arith }

all_typed : (n : ℕ) → AllTyped (replicate n (post posting) ++ [])
all_typed zero = tt
all_typed (suc n) = (widths, all_typed n)

none-created : (n : ℕ) (j : Journal) → NoCreation j (replicate n (post posting) ++ [])
none-created zero j = tt
none-created (suc n) j = (λ q. clash cc, none-created n (next j (post posting)))

pub created-right : status_of disk (create 7) ≡ Success
unfolding good_capacity good_position
created-right = refl

sim : Sim after told
sim = sim-run (replicate 13 (post posting)) (next disk (create 7)) (history_after 0) (opening-sim disk (create 7) (history_after 0) tt created-right refl) (all_typed 13) (none-created 13 (next disk (create 7)))

told-right : (told.live ≡ true) × (told.first ≡ 80) × (told.end ≡ 1040)
unfolding opened is_posted shed added note_post posted_name good_name good_units good_unit
told-right = (refl, refl, refl)

live : Live after told
live = sim.live told-right.0

-- first 80, LastUsn 1,040
pub thirteen-right : (after.volume.first ≡ 80) × (after.volume.last ≡ 1040)
thirteen-right = (live.first ∙ told-right.1, live.last ∙ told-right.2)

-- ---- reads of it

-- a start, the room, and the reply
pub record Example : Type 0 where
  pub start : ℕ
  pub room : ℕ
  pub reply : Reply

abbrev pub row : ℕ → ℕ → Reply → Example
row start room reply = record { start = start; room = room; reply = reply }

-- position 240, then two records of version 2, in lines of eight bytes: length and version, file, parent, Usn, time,
-- reason and source, security and attributes, and the name's length, offset and bytes
abbrev pub two : List ℕ
two =
    240 ∷ 0 ∷ 0 ∷ 0 ∷ 0 ∷ 0 ∷ 0 ∷ 0
    ∷ 64 ∷ 0 ∷ 0 ∷ 0 ∷ 2 ∷ 0 ∷ 0 ∷ 0
    ∷ 1 ∷ 0 ∷ 0 ∷ 0 ∷ 0 ∷ 0 ∷ 0 ∷ 0
    ∷ 2 ∷ 0 ∷ 0 ∷ 0 ∷ 0 ∷ 0 ∷ 0 ∷ 0
    ∷ 160 ∷ 0 ∷ 0 ∷ 0 ∷ 0 ∷ 0 ∷ 0 ∷ 0
    ∷ 3 ∷ 0 ∷ 0 ∷ 0 ∷ 0 ∷ 0 ∷ 0 ∷ 0
    ∷ 0 ∷ 1 ∷ 0 ∷ 0 ∷ 0 ∷ 0 ∷ 0 ∷ 0
    ∷ 0 ∷ 0 ∷ 0 ∷ 0 ∷ 32 ∷ 0 ∷ 0 ∷ 0
    ∷ 2 ∷ 0 ∷ 60 ∷ 0 ∷ 97 ∷ 0 ∷ 0 ∷ 0
    ∷ 64 ∷ 0 ∷ 0 ∷ 0 ∷ 2 ∷ 0 ∷ 0 ∷ 0
    ∷ 1 ∷ 0 ∷ 0 ∷ 0 ∷ 0 ∷ 0 ∷ 0 ∷ 0
    ∷ 2 ∷ 0 ∷ 0 ∷ 0 ∷ 0 ∷ 0 ∷ 0 ∷ 0
    ∷ 240 ∷ 0 ∷ 0 ∷ 0 ∷ 0 ∷ 0 ∷ 0 ∷ 0
    ∷ 3 ∷ 0 ∷ 0 ∷ 0 ∷ 0 ∷ 0 ∷ 0 ∷ 0
    ∷ 0 ∷ 1 ∷ 0 ∷ 0 ∷ 0 ∷ 0 ∷ 0 ∷ 0
    ∷ 0 ∷ 0 ∷ 0 ∷ 0 ∷ 32 ∷ 0 ∷ 0 ∷ 0
    ∷ 2 ∷ 0 ∷ 60 ∷ 0 ∷ 97 ∷ 0 ∷ 0 ∷ 0
    ∷ []

abbrev pub examples : List Example
examples =
    row 40 136 (refuse JournalEntryDeleted)
    ∷ row 100 136 (refuse InvalidParameter)
    ∷ row 1048 136 (refuse InvalidParameter)
    ∷ row 1040 136 (give Success (16 ∷ 4 ∷ 0 ∷ 0 ∷ 0 ∷ 0 ∷ 0 ∷ 0 ∷ []))
    ∷ row 80 71 (refuse BufferTooSmall)
    ∷ row 80 136 (give Success two)
    ∷ row 0 136 (give Success two)
    ∷ row 0xFFFFFFFFFFFFFFF8 136 (refuse JournalEntryDeleted)
    ∷ []

answered : (start room : ℕ) → argument_check 7 (asks start room).input room ≡ None → reply_to after (asks start room) ≡ read_answer 80 told.left (asks start room).input room
unfolding opened is_posted shed added note_post posted_name good_name good_units good_unit
answered start room ok = reply-live after told sim told-right.0 (asks start room) ok

-- each read gives its reply
pub reads-right : map (λ (e : Example). reply_to after (asks e.start e.room)) examples ≡ map (λ (e : Example). e.reply) examples
unfolding opened is_posted shed added note_post posted_name good_name good_units good_unit le unle number_at argument_check is_deleted origin deleted_check records_after wanted all_zero fits stops page_of page_reply read_answer joined layout encode
reads-right =
    ap₂ ◌∷◌ (answered 40 136 refl)
    (ap₂ ◌∷◌ (answered 100 136 refl)
    (ap₂ ◌∷◌ (answered 1048 136 refl)
    (ap₂ ◌∷◌ (answered 1040 136 refl)
    (ap₂ ◌∷◌ (answered 80 71 refl)
    (ap₂ ◌∷◌ (answered 80 136 refl) (ap₂ ◌∷◌ (answered 0 136 refl) (ap₂ ◌∷◌ (answered 0xFFFFFFFFFFFFFFF8 136 refl) refl)))))))

-- and so many bytes
pub counts-right : map (λ (e : Example). (answer (reply_to after (asks e.start e.room))).count) examples ≡ 0 ∷ 0 ∷ 0 ∷ 8 ∷ 0 ∷ 136 ∷ 136 ∷ 0 ∷ []
counts-right = ap (map (λ (r : Reply). (answer r).count)) reads-right

-- ---- the promise to a reader that starts at the first record's Usn after n posts: what it asks can be met

abbrev pub all : Filter
all = record { mask = 0xFFFFFFFF; close = 0 }

abbrev first : Record
first = record_of change name 80

reader : (n : ℕ) → Memᴰ first (posted (history_after n))
    → ReaderPromise (runs (next disk (create 7)) (replicate n (post posting) ++ [])) (notes (history_after 0) (replicate n (post posting) ++ [])) (fresh 80 all)
reader n m =
    demand3 disk (create 7) (history_after 0) created-right refl (replicate n (post posting)) [] 80 all tt (all_typed n) (none-created n (next disk (create 7)))
    (inr (first, m, refl)) (λ z. omega arith) tt

-- after two posts one read brings it to the end
pub reaches_end : (follow (journal_after 2) (fresh 80 all) (mine (asks 80 600) ∷ [])).position ≡ 160
unfolding opened is_posted shed added note_post posted_name good_name good_units good_unit le unle number_at argument_check well_formed wanted above all_zero all_shown
reaches_end =
    (reader 2 (Memᴰ.head refl)).progress (λ d. Memᴰ.not-nil d.1) (mine (asks 80 600) ∷ []) (tt, tt) (λ q. clash cc, tt) ((refl, (refl, refl)), tt) refl (omega arith)

-- after fourteen the record behind it has been dropped, and it is told so
pub told-deleted : status_of (journal_after 14) (read (asks 80 600)) ≡ JournalEntryDeleted
unfolding opened is_posted shed added note_post posted_name good_name good_units good_unit le unle number_at argument_check well_formed
told-deleted = ((reader 14 (Memᴰ.head refl)).deleted (asks 80 600) (refl, (refl, refl)) refl).1 (record_of change name 160, Memᴰ.tail (Memᴰ.head refl), omega arith)

-- ---- a journal that is loaded: the image of one record, from position 80 to 160, under the new id 8

loaded-right : status_of disk (load one_bytes 8) ≡ Success
unfolding load_check form_check form_version fit_check good_capacity good_position read_image good_trailer word_sum words_in decode unle number_at total records records_in parse parse_as accepted good_name good_units good_unit layout encode le begins all_of last_from fits_ring chained keeps
loaded-right = refl

loaded_history : History
loaded_history = note_posts (opened disk.volume 1024 80 8) (map posting_of one_image.records)

loaded-opens : opening disk.volume 1024 (load one_bytes 8) ≡ Some loaded_history
unfolding loaded_history
loaded-opens = ap (λ (o : Option Image). opened_by disk.volume 1024 (load_effect 8 o)) one-stored

-- a reader of the saved journal that had come to position 80 goes on there, and one read brings it to the end
abbrev returns : Read
returns = record { input = le 8 80 ++ (le 4 0xFFFFFFFF ++ (le 4 0 ++ (le 8 0 ++ (le 8 0 ++ le 8 8)))); room = 600 }

loaded-reader : ReaderPromise (runs (next disk (load one_bytes 8)) []) (notes loaded_history []) (fresh 80 all)
unfolding loaded_history note_post is_posted opened shed added posted_name good_name good_units good_unit
loaded-reader =
    demand3 disk (load one_bytes 8) loaded_history loaded-right loaded-opens [] [] 80 all one-bytes tt tt (inl refl) (λ z. omega arith) tt

pub loaded-reaches-end : (follow (next disk (load one_bytes 8)) (fresh 80 all) (mine returns ∷ [])).position ≡ 160
unfolding loaded_history opened is_posted shed added note_post posted_name good_name good_units good_unit le unle number_at argument_check well_formed wanted above all_zero all_shown
loaded-reaches-end =
    loaded-reader.progress (λ d. Memᴰ.not-nil d.1) (mine returns ∷ []) (tt, tt) (λ q. clash cc, tt) ((refl, (refl, refl)), tt) refl (omega arith)
