-- The reply of the control: its refusal, or the record with the file's name.
-- Assumes nothing.
use mathlib.Core.Path.{◌≡◌, refl, ap, ap₂, ◌∙◌, subst}
use mathlib.Core.Bool.{Bool, true, false, and-false, ◌&&◌}
use mathlib.Core.List.{List, ◌++◌, append-nil}
use Rattle.std.specs.Prelude.{Result, Option, None}
use Prim.Native.Nat.{ℕ, ◌+◌, ◌-◌, ◌^◌, ◌≤◌, ◌<◌}
use native.Mathlib.Omega.{arith}
use lib.Dec.{leb, ltb}
use lib.ListN.{length, take, drop, length-append}
use borrow.Author.Tests.{ltb-true}
use Rattle.le.proofs.Runs.{and_left, and_right}
use Rattle.status.specs.declared.Status.TheVariants.{InvalidDeviceRequest, BufferTooSmall, NotSupported, FileCorruptError}
use Rattle.status.specs.Check.{unless, else}
use Rattle.status.proofs.Checking.{else-left, else-right, unless-true}
use Rattle.status.specs.declared.Status.{Status}
use Rattle.status.specs.Reply.{Reply, Replied, told}
use Rattle.volume.specs.declared.Volume.{Volume}
use Rattle.volume.specs.State.{supported}
use Rattle.usn_record.specs.declared.Version.{Version}
use Rattle.usn_record.specs.declared.Fields.{Fields}
use Rattle.usn_record.specs.Layout.{name_offset, shows_ids, layout}
use Rattle.usn_record.proofs.Record.{length-layout}
use Rattle.record_writer.specs.Write.{copy_reply}
use Rattle.file_record.specs.declared.FileRecord.{FileRecord}
use Rattle.file_links.specs.declared.Link.{Link}
use Rattle.file_links.specs.Links.{name_at}
use Rattle.names.specs.Names.{name_in, good_in}
use Rattle.names.proofs.Names.{short, in-named}
use Rattle.file_usn.specs.FileUsn.{file_versions, file_version, file_check, file_fields, file_answer, named_reply}

-- a record is written as the control answers
same-reply : (v : Version) (f : FileRecord) (p : List ℕ) (name : List ℕ) (room : ℕ) → copy_reply (layout v (file_fields f p) name) room ≡ file_answer v f p name room
unfolding file_answer
same-reply v f p name room = rw (length-layout v (file_fields f p) name)

-- the lent parts, the second of which is empty, are a name in the pool
module _ (pool : List ℕ) (place n : ℕ) where
  abbrev pub parts : List ℕ
  parts =
      let to = place + n in
      take (to - place) (drop place pool) ++ take (to - to) (drop to pool)

  pub are-name : parts ≡ name_in pool place n
  are-name =
      let to = place + n in
      let a : to - place ≡ n = omega arith in
      let b : to - to ≡ 0 = omega arith in
      rw (a, b, append-nil)

  pub parts-short : good_in pool place n ≡ true → length (take (place + n - place) (drop place pool)) + length (take (place + n - (place + n)) (drop (place + n) pool)) ≤ 510
  parts-short g =
      let to = place + n in
      let e = length-append (take (to - place) (drop place pool)) (take (to - to) (drop to pool)) in
      omega (arith, e, ap length are-name, short (name_in pool place n) (in-named pool place n g))

-- with a link's name
module _ (pool : List ℕ) (l : Link) where
  pub write-replied : (v : Version) (fields : Fields) (out last : List ℕ) (r : Result ℕ Status)
      → Replied (copy_reply (layout v fields (parts pool l.place l.length)) (length out)) (told r) out last
      → (f : FileRecord) (p : List ℕ) → fields ≡ file_fields f p → Replied (file_answer v f p (name_at pool l) (length out)) (told r) out last
  write-replied v fields out last r q f p h =
      let same = ap₂ (λ (x : Fields) (y : List ℕ). copy_reply (layout v x y) (length out)) h (are-name pool l.place l.length) ∙ same-reply v f p (name_at pool l) (length out) in
      subst (λ (y : Reply). Replied y (told r) out last) same q

-- what the checks tell that do not apply
pub checks-passed : (v : Volume) (f : FileRecord) (parent : List ℕ) (table : Bool) (input : List ℕ) (room : ℕ)
    → file_check v f parent table input room ≡ None → (f.usn < 2 ^ 63) × (table ≡ true) × (shows_ids (file_version input) f.id parent ≡ true)
unfolding file_check
checks-passed v f parent table input room e =
    let sized : Bool = ltb f.usn (2 ^ 63) && table in
    let ids : Option Status = unless (shows_ids (file_version input) f.id parent) NotSupported in
    let small : Option Status = unless (leb (name_offset (file_version input) + 4) room) BufferTooSmall in
    let rest : Option Status = else (file_versions input) (else small ids) in
    let k = else-right (unless (supported v.usn) InvalidDeviceRequest) (else (unless sized FileCorruptError) rest) e in
    let b = unless-true sized FileCorruptError (else-left (unless sized FileCorruptError) rest k) in
    let i = else-right small ids (else-right (file_versions input) (else small ids) (else-right (unless sized FileCorruptError) rest k)) in
    let shown = unless-true (shows_ids (file_version input) f.id parent) NotSupported i in
    (ltb-true _ _ (and_left (ltb f.usn (2 ^ 63)) _ b), and_right (ltb f.usn (2 ^ 63)) _ b, shown)

-- with a bad table the name does not count
pub name-unread : (v : Volume) (f : FileRecord) (parent : List ℕ) (input o name other : List ℕ)
    → named_reply v f parent false name input (length o) ≡ named_reply v f parent false other input (length o)
unfolding named_reply file_check
name-unread v f parent input o name other = go (supported v.usn) refl
  where
    go : (b : Bool) → supported v.usn ≡ b → named_reply v f parent false name input (length o) ≡ named_reply v f parent false other input (length o)
    go true e = rw (e, and-false (ltb f.usn (2 ^ 63)))
    go false e = rw e
