-- The record that a file read gives is read back to the file's fields, attributes 0 as 0x80.
-- Assumes nothing.
use mathlib.Core.Path.{◌≡◌, sym, ap, ◌∙◌}
use Rattle.std.specs.Prelude.{Option, Some}
use mathlib.Core.List.{List}
use Prim.Native.Nat.{ℕ, ◌^◌, ◌<◌}
use lib.Dec.{leb, lit<}
use lib.ListN.{length, drop}
use Rattle.status.specs.declared.Status.{Status}
use Rattle.status.specs.declared.Status.TheVariants.{Success, BufferTooSmall}
use Rattle.status.specs.declared.Answer.{Answer}
use Rattle.status.specs.Check.{unless}
use Rattle.status.specs.Reply.{Reply, give, guard, after, Replied}
use Rattle.status.proofs.Checking.{Never, nevers}
use Rattle.status.proofs.Replies.{behind-checks}
use Rattle.file_ids.specs.Ids.{Id}
use Rattle.volume.specs.declared.Volume.{Volume}
use Rattle.usn_record.specs.Layout.{record_length, layout}
use Rattle.record_reader.specs.Read.{parse}
use Rattle.record_reader.proofs.RoundTrip.{Sized, shown_record, read_back}
use Rattle.file_record.specs.declared.FileRecord.{FileRecord}
use Rattle.file_links.specs.declared.Link.{Link}
use Rattle.file_links.specs.Links.{name_at, good_links, chosen_link}
use Rattle.file_links.proofs.Choosing.{chosen-good}
use Rattle.file_links.proofs.Tables.{link-named}
use Rattle.file_usn.proofs.Writing.{checks-passed}
use Rattle.file_usn.specs.FileUsn.{file_version, file_check, file_fields, file_answer, named_reply, file_reply}

-- the file's fields have their types
pub record Typed (f : FileRecord) (parent : List ℕ) : Type 0 where
  pub id : Id f.id
  pub parent-id : Id parent
  pub attributes : f.attributes < 2 ^ 32

module _ (v : Volume) (f : FileRecord) (parent : List ℕ) (pool : List ℕ) (links : List Link) (input : List ℕ) (room : ℕ) where
  never : Never Success (file_check v f parent (good_links pool links) input room)
  unfolding file_check
  never = search nevers depth 11

-- a file read that succeeds leaves the record in the output buffer
pub file-read-back : (v : Volume) (f : FileRecord) (parent : List ℕ) (pool : List ℕ) (links : List Link) (input old new : List ℕ) (r : Answer)
    → Typed f parent → Replied (file_reply v f parent pool links input (length old)) r old new → r.status ≡ Success
    → parse new ≡ Some (shown_record (file_version input) (file_fields f parent) (name_at pool (chosen_link links)))
unfolding named_reply file_answer
file-read-back v f parent pool links input old new r t p s =
    let w = file_version input in
    let name = name_at pool (chosen_link links) in
    let checks = file_check v f parent (good_links pool links) input (length old) in
    let fits : Option Status = unless (leb (record_length w (length name)) (length old)) BufferTooSmall in
    let given : Reply = give Success (layout w (file_fields f parent) name) in
    let e = sym (ap (λ (x : Answer). x.status) p.answered) ∙ s in
    let a = behind-checks Success checks (guard fits given) (never v f parent pool links input (length old)) e in
    let b = behind-checks Success fits given (search nevers) a.1 in
    let c = checks-passed v f parent (good_links pool links) input (length old) a.0 in
    let z : Sized (file_fields f parent) =
    record { file = t.id; parent = t.parent-id; usn = c.0; time = lit< tt; reason = lit< tt; source = lit< tt; security = lit< tt; attributes = t.attributes } in
    ap parse (p.output ∙ ap (λ (k : Option Status). after (guard k (guard fits given)) old) a.0 ∙ ap (λ (k : Option Status). after (guard k given) old) b.0)
    ∙ read_back w (file_fields f parent) name (drop (length (layout w (file_fields f parent) name)) old) z c.2 (link-named pool (chosen_link links) (chosen-good pool links c.1))
