-- Every refusal reports no bytes and changes nothing, and only the region query warns.
-- Assumes nothing.
use mathlib.Core.Path.{◌≡◌, refl, ap₂}
use mathlib.Core.Bool.{Bool, true, false, cond}
use mathlib.Core.List.{List, [], append-nil}
use Rattle.std.specs.Prelude.{Option, None, Some}
use Prim.Native.Nat.{ℕ, zero, suc, ◌+◌, ◌*◌, ◌<◌}
use native.Mathlib.Omega.{arith}
use lib.Dec.{leb, eqb}
use lib.ListN.{length}
use Rattle.status.specs.declared.Status.{Status}
use Rattle.status.specs.declared.Status.TheVariants.{Success, BufferOverflow, InvalidParameter, InvalidDeviceRequest, EndOfFile, BufferTooSmall, ObjectPathNotFound, UnknownRevision, DiskFull, NotSupported, FileCorruptError, NameTooLong, NotAReparsePoint, IoReparseTagInvalid, IoReparseTagMismatch, IoReparseDataInvalid, VolumeNotUpgraded, ReparseAttributeConflict, JournalDeleteInProgress, JournalNotActive, JournalEntryDeleted}
use Rattle.status.specs.Number.{number}
use Rattle.status.specs.Check.{unless}
use Rattle.status.proofs.Checking.{Never, never-none, never-cond, nevers}
use Rattle.usn_record.specs.declared.Version.{Version}
use Rattle.usn_record.specs.Layout.{Record}
use Rattle.record_writer.specs.Write.{write_check}
use Rattle.volume.specs.declared.Volume.{Volume}
use Rattle.volume.specs.Calls.{performed, create_check, delete_check, finish_check}
use Rattle.journal_post.specs.declared.Verdict.{Verdict}
use Rattle.journal_post.specs.declared.Verdict.TheVariants.{Skip, Reject, Accept}
use Rattle.journal_post.specs.Post.{post_check, skipped, checked, verdict, verdict_status, leaves, rejection}
use Rattle.journal_page.specs.declared.Filter.{Filter}
use Rattle.journal_page.specs.Page.{page_of, empty, page_check, page_reply}
use Rattle.journal_page.proofs.Giving.{page-stops}
use Rattle.journal_read.specs.Input.{argument_check}
use Rattle.journal_read.specs.Read.{deleted_check, answer_from, read_answer, read_reply}
use Rattle.file_record.specs.declared.FileRecord.{FileRecord}
use Rattle.file_usn.specs.FileUsn.{file_check, file_answer, named_reply}
use Rattle.file_enumeration.specs.Enumerate.{input_check, enum_check, enum_reply}
use Rattle.file_enumeration.specs.Enumerate as files
use Rattle.file_ids.specs.Ids.{id_number}
use Rattle.file_table.specs.Table.{Row, rows, row_name, right_table, find}
use Rattle.file_path.specs.Path.{Way, reached, stopped, below, step, upward, way_of, way_reply, path_reply}
use Rattle.file_regions.specs.declared.Asked.{Asked}
use Rattle.file_regions.specs.Regions.{asked_check, regions_check, regions_of, list_bytes, answer_regions, regions_answer, regions_reply}
use Rattle.file_regions.proofs.Writing.{length_front}
use Rattle.file_regions.proofs.Checked.{few}
use Rattle.reparse_point.specs.Reparse.{reparse_check, reparse_reply}
use Rattle.journal_post.specs.Posts.{Journal, Posting}
use Rattle.image.specs.Image.{Image}
use Rattle.image.specs.Forms.{form_version, form_check}
use Rattle.image_writer.specs.Write.{image_reply}
use Rattle.image_save.specs.Save.{save_check, save_as, save_reply}
use Rattle.image_move.specs.Move.{moved_reply, move_from, move_reply}
use Rattle.image_load.specs.Load.{settled, fit_check, image_check, load_check}
use Rattle.reparse_update.specs.declared.Update.{Update}
use Rattle.reparse_update.specs.Update.{given_check, Point, update_check, left_by, update_left}
use Rattle.history.specs.Calls.{Call, create, post, read, delete, finish, save, load, update, status_of, next}
use Rattle.refusals.proofs.Replies.{refutes, Fair, fair-refuse, fair-give, fair-warn, fair-guard, fair-leb, fairs, fair-never}
use Rattle.refusals.specs.Refusal.{is_warning, is_refusal, Control, read_journal, save_journal, move_image, read_file, read_file_table, enumerate_files, file_path, query_regions, get_reparse_point, list_records, list_image, write_record, copy_record, copy_older, reply_of, usn_after, Warned, Refusals}

refusals-are-errors : (x : Status) → is_refusal x ≡ leb 0xC0000000 (number x)
refusals-are-errors Success = refl
refusals-are-errors BufferOverflow = refl
refusals-are-errors InvalidParameter = refl
refusals-are-errors InvalidDeviceRequest = refl
refusals-are-errors EndOfFile = refl
refusals-are-errors BufferTooSmall = refl
refusals-are-errors ObjectPathNotFound = refl
refusals-are-errors UnknownRevision = refl
refusals-are-errors DiskFull = refl
refusals-are-errors NotSupported = refl
refusals-are-errors FileCorruptError = refl
refusals-are-errors NameTooLong = refl
refusals-are-errors NotAReparsePoint = refl
refusals-are-errors IoReparseTagInvalid = refl
refusals-are-errors IoReparseTagMismatch = refl
refusals-are-errors IoReparseDataInvalid = refl
refusals-are-errors VolumeNotUpgraded = refl
refusals-are-errors ReparseAttributeConflict = refl
refusals-are-errors JournalDeleteInProgress = refl
refusals-are-errors JournalNotActive = refl
refusals-are-errors JournalEntryDeleted = refl

-- ---- what replies with bytes

fair-from : {W : ℕ → Type 0} (v : Version) (f : Filter) (room p : ℕ) (rs : Option (List Record)) → Fair W (answer_from v f room p rs)
unfolding page_reply
fair-from v f room p None = search fairs
fair-from v f room p (Some rs) =
    let page = page_of v f room p rs in
    fair-guard (page_check page) _ (never-cond (empty page.given) page.stop None (page-stops refl refl v f room p rs) never-none) (search fairs)

fair-read : {W : ℕ → Type 0} (v : Volume) (ring input : List ℕ) (room : ℕ) → Fair W (read_reply v ring input room)
unfolding read_reply read_answer argument_check deleted_check
fair-read v ring input room = search (fairs, fair-from) depth 10

fair-image : {W : ℕ → Type 0} (f : Version) (i : Image) (room : ℕ) → Fair W (image_reply f i room)
unfolding image_reply
fair-image f i room = search fairs

fair-save : {W : ℕ → Type 0} (v : Volume) (ring : List ℕ) (form room : ℕ) → Fair W (save_reply v ring form room)
unfolding save_reply save_check
fair-save {W = W} v ring form room = search (fairs, fair-form)
  where
    fair-form : (o : Option Version) → Fair W (save_as o v ring room)
    fair-form None = search fairs
    fair-form (Some f) = search (fairs, fair-image)

fair-move : {W : ℕ → Type 0} (s : List ℕ) (from room : ℕ) → Fair W (move_reply from s room)
fair-move {W = W} s from room = fair-form (form_version from)
  where
    fair-held : (w : Version) (o : Option Image) → Fair W (moved_reply w o room)
    fair-held w None = search fairs
    fair-held w (Some i) = fair-image w i room

    fair-form : (o : Option Version) → Fair W (move_from o s room)
    fair-form None = search fairs
    fair-form (Some v) = search (fairs, fair-held)

fair-files : {W : ℕ → Type 0} (v : Volume) (table pool input : List ℕ) (room : ℕ) → Fair W (enum_reply v table pool input room)
unfolding enum_reply enum_check input_check files.page_reply
fair-files v table pool input room = search fairs depth 10

-- a way does not stop with the warning
abbrev Calm : Way → Type 0
Calm (reached names) = Unit {0}
Calm (stopped x) = is_warning x ≡ false

calm-up : (pool : List ℕ) (rs : List Row) (root left id : ℕ) → Calm (upward pool rs root left id)
unfolding upward
calm-up pool rs root zero id = by (eqb id root)
  where
    by : (b : Bool) → Calm (cond b (reached []) (stopped NameTooLong))
    by true = tt
    by false = refl
calm-up pool rs root (suc left) id = by (eqb id root) (find id rs) (calm-up pool rs root left)
  where
    calm-below : (name : List ℕ) (w : Way) → Calm w → Calm (below name w)
    calm-below name (reached names) c = tt
    calm-below name (stopped x) c = c

    by : (b : Bool) (o : Option Row) → ((n : ℕ) → Calm (upward pool rs root left n)) → Calm (cond b (reached []) (step pool o (upward pool rs root left)))
    by true o c = tt
    by false None c = refl
    by false (Some r) c = calm-below (row_name pool r) (upward pool rs root left (id_number r.parent)) (c (id_number r.parent))

fair-path : {W : ℕ → Type 0} (table pool id root : List ℕ) (room : ℕ) → Fair W (path_reply table pool id root room)
unfolding path_reply
fair-path {W = W} table pool id root room =
    fair-guard (unless (right_table pool table) FileCorruptError) (way_reply (way_of table pool id root) room) (search nevers)
    (fair-way (way_of table pool id root) (calm-up pool (rows table) (id_number root) 64 (id_number id)))
  where
    fair-way : (w : Way) → Calm w → Fair W (way_reply w room)
    fair-way (reached names) c = search fairs
    fair-way (stopped x) c = fair-refuse x c

-- a warning has a header and the first region, and no room for two
fair-answer : (eof vdl : ℕ) (a : Asked) (room : ℕ) → Fair (λ n. (room < 64) × (n ≡ 40)) (answer_regions (regions_of eof vdl a) room)
unfolding answer_regions list_bytes
fair-answer eof vdl a room =
    let rs = regions_of eof vdl a in
    fair-leb (16 + 24 * length rs) room _ _ (fair-give _) (λ h. fair-warn _ (omega (arith, few eof vdl a, h), simp (append-nil, length_front)))

fair-regions : (v : Volume) (f : FileRecord) (input : List ℕ) (room : ℕ) → Fair (λ n. (room < 64) × (n ≡ 40)) (regions_reply v f input room)
unfolding regions_reply regions_check asked_check regions_answer
fair-regions v f input room = search (fairs, fair-answer) depth 8

fair-control : (c : Control) (room : ℕ) → Fair (λ n. Warned c room) (reply_of c room)
unfolding named_reply file_check file_answer reparse_reply reparse_check write_check
fair-control (read_journal v ring input) room = fair-read v ring input room
fair-control (save_journal v ring form) room = fair-save v ring form room
fair-control (move_image s from) room = fair-move s from room
fair-control (read_file v f parent pool links input) room = search fairs depth 10
fair-control (read_file_table v f parent pool places lengths shorts input) room = search fairs depth 10
fair-control (enumerate_files v table pool input) room = fair-files v table pool input room
fair-control (file_path table pool id root) room = fair-path table pool id root room
fair-control (query_regions v f input) room =
    let p = fair-regions v f input room in
    record { refused = p.refused; warned = λ h. record { volume = v; file = f; input = input; query = refl; short = (p.warned h).0; count = (p.warned h).1 } }
fair-control (get_reparse_point v f bytes) room = search fairs depth 8
fair-control (list_records s) room = search fairs
fair-control (list_image s) room = search fairs
fair-control (write_record v f name) room = search fairs
fair-control (copy_record bytes) room = search fairs
fair-control (copy_older bytes) room = search fairs

-- ---- what changes records

performed-refusal : (k : Option Status) (old new : Volume) → is_refusal (performed k old new).status ≡ true → (performed k old new).volume ≡ old
performed-refusal None old new h = refutes false refl h
performed-refusal (Some x) old new h = refl

settled-refusal : {A : Type 0} (k : Option Status) (old new : Volume) (x y : A) → is_refusal (performed k old new).status ≡ true → settled k x y ≡ x
settled-refusal None old new x y h = refutes false refl h
settled-refusal (Some z) old new x y h = refl

posted-refusal : {A : Type 0} (d : Verdict) (old new : A) → is_refusal (verdict_status d) ≡ true → leaves d old new ≡ old
posted-refusal Skip old new h = refl
posted-refusal (Reject x) old new h = refl
posted-refusal Accept old new h = refutes false refl h

left-refusal : (k : Option Status) (j i : Journal) (p f : Point) → is_refusal (left_by k j p i f).status ≡ true → ((left_by k j p i f).journal ≡ j) × ((left_by k j p i f).point ≡ p)
left-refusal None j i p f h = refutes false refl h
left-refusal (Some x) j i p f h = (refl, refl)

-- the journal, from its two parts
same : (j : Journal) {v : Volume} {ring : List ℕ} → v ≡ j.volume → ring ≡ j.ring → ◌≡◌ {A = Journal} (record { volume = v; ring = ring }) j
same j e q = ap₂ (λ (v : Volume) (ring : List ℕ). record { volume = v; ring = ring }) e q

call-refusal : (j : Journal) (c : Call) (usn : ℕ) → is_refusal (status_of j c) ≡ true → (next j c ≡ j) × (usn_after j c usn ≡ usn)
call-refusal j (create id) usn h = (same j (performed-refusal (create_check j.volume id) _ _ h) refl, refl)
call-refusal j (post p) usn h =
    let d = verdict j.volume j.ring p.change p.name in
    (same j (posted-refusal d _ _ h) (posted-refusal d _ _ h), posted-refusal d _ _ h)
call-refusal j (read a) usn h = (refl, refl)
call-refusal j (delete id) usn h = (same j (performed-refusal (delete_check j.volume id) _ _ h) refl, refl)
call-refusal j finish usn h = (same j (performed-refusal (finish_check j.volume) _ _ h) refl, refl)
call-refusal j (save form room) usn h = (refl, refl)
call-refusal j (load s id) usn h =
    let k = load_check j.volume (length j.ring) s id in
    (same j (performed-refusal k _ _ h) (settled-refusal k _ _ _ _ h), refl)
call-refusal j (update u p q input) usn h = ((left-refusal (update_check u j p q input) j _ p _ h).0, refl)

point-refusal : (j : Journal) (u : Update) (p : Point) (q : Posting) (input : List ℕ) → is_refusal (status_of j (update u p q input)) ≡ true → (update_left u j p q input).point ≡ p
point-refusal j u p q input h = (left-refusal (update_check u j p q input) j _ p _ h).1

-- ---- no call on the journal warns

never-image : (v : Volume) (n id : ℕ) (i : Option Image) → Never BufferOverflow (image_check v n id i)
unfolding fit_check
never-image v n id None = search nevers
never-image v n id (Some i) = search nevers

performed-never : (k : Option Status) (old new : Volume) → Never BufferOverflow k → is_warning (performed k old new).status ≡ false
performed-never None old new c = refl
performed-never (Some x) old new c = c.other

posted-never : (t : Bool) (k : Option Status) → Never BufferOverflow k → is_warning (verdict_status (cond t Skip (checked k))) ≡ false
posted-never true k c = refl
posted-never false None c = refl
posted-never false (Some x) c = c.other

rejected-never : (t : Bool) (k : Option Status) → Never BufferOverflow k → Never BufferOverflow (rejection (cond t Skip (checked k)))
rejected-never true k c = never-none
rejected-never false None c = never-none
rejected-never false (Some x) c = c

left-never : (k : Option Status) (j i : Journal) (p f : Point) → Never BufferOverflow k → is_warning (left_by k j p i f).status ≡ false
left-never None j i p f c = refl
left-never (Some x) j i p f c = c.other

call-never : (j : Journal) (c : Call) → is_warning (status_of j c) ≡ false
unfolding verdict post_check load_check form_check given_check update_check
call-never j (create id) = performed-never (create_check j.volume id) _ _ (search nevers)
call-never j (post p) = posted-never (skipped j.volume p.change) (post_check j.volume j.ring p.name) (search nevers)
call-never j (read a) = fair-never (fair-read j.volume j.ring a.input a.room)
call-never j (delete id) = performed-never (delete_check j.volume id) _ _ (search nevers)
call-never j finish = performed-never (finish_check j.volume) _ _ (search nevers)
call-never j (save form room) = fair-never (fair-save j.volume j.ring form room)
call-never j (load s id) = performed-never (load_check j.volume (length j.ring) s id) _ _ (search (nevers, never-image) depth 8)
call-never j (update u p q input) = left-never (update_check u j p q input) j _ p _ (search (nevers, rejected-never) depth 12)

pub refusals : Refusals
refusals =
    record {
      errors = refusals-are-errors;
      controls = λ c room. (fair-control c room).refused;
      warnings = λ c room. (fair-control c room).warned;
      calls = call-refusal;
      points = point-refusal;
      unwarned = call-never;
    }
