-- The reply: the id to go on from and the records, behind the checks.
-- Assumes nothing.
use mathlib.Core.Path.{◌≡◌, refl, sym, ap, ◌∙◌}
use mathlib.Core.Bool.{false, true}
use mathlib.Core.List.{List, [], ◌∷◌, ◌++◌}
use Rattle.std.specs.Prelude.{Ok}
use Prim.Native.Nat.{ℕ, ◌+◌, ◌≤◌}
use native.Mathlib.Omega.{arith}
use lib.Dec.{leb}
use lib.ListN.{length, drop, length-append}
use borrow.Author.Tests.{leb-true, eq-eqb, ne_eqb}
use Rattle.le.specs.Numbers.{le}
use Rattle.le.proofs.Tail.{lent, back}
use Rattle.le.proofs.Front.{length_front, front-none, front-written}
use Rattle.status.specs.declared.Status.TheVariants.{Success, InvalidParameter, EndOfFile, BufferTooSmall, InvalidDeviceRequest, FileCorruptError}
use Rattle.status.specs.declared.Answer.{Answer}
use Rattle.status.specs.Check.{unless, else}
use Rattle.status.specs.Reply.{refuse, answer, Replied, guard}
use Rattle.status.proofs.Checking.{else-left, else-right, unless-true}
use Rattle.usn_record.specs.declared.Version.{Version}
use Rattle.usn_record.specs.Version.{chosen}
use Rattle.usn_record.proofs.Versions.{told-use}
use Rattle.file_table.specs.Table.{Row, right_table}
use Rattle.file_enumeration.specs.declared.Sent.{Sent}
use Rattle.file_enumeration.specs.Enumerate.{enum_versions, enum_version, row_bytes, Page, rows_bytes, is_empty, input_check, page_reply, query_in, enum_check, files_reply, enum_reply}
use Rattle.file_enumeration.specs.Steps.{Sends}
use Rattle.file_enumeration.proofs.Filling.{bytes-none, row-long}
use Rattle.volume.specs.declared.Volume.{Volume}

-- nothing is selected
pub reply-end : (v : Version) (pool : List ℕ) (files : List Row) (page : Page) (o : List ℕ) (r : Answer) → files ≡ [] → r ≡ answer (refuse EndOfFile) → Replied (page_reply v pool files page) r o o
unfolding page_reply
reply-end v pool files page o r e a = rw e (record { answered = a; output = refl })

-- a page without bytes has no files
bytes-empty : (v : Version) (pool : List ℕ) (rs : List Row) → length (rows_bytes v pool rs) ≡ 0 → rs ≡ []
unfolding rows_bytes
bytes-empty v pool [] e = refl
bytes-empty v pool (r ∷ rs) e = absurd (omega (arith, e, length-append (row_bytes v pool r) (rows_bytes v pool rs), row-long v pool r))

module _ (v : Version) (pool : List ℕ) (files : List Row) (some-file : is_empty files ≡ false) (page : Page) (o : List ℕ) (h : 8 ≤ length o) (s : Sent) (last : List ℕ)
    (e : Sends v pool page (lent 8 o) s last) where
  abbrev bs : List ℕ
  bs = rows_bytes v pool page.given

  counted : s.count ≡ length bs
  counted = ap (λ (x : Sent). x.count) e.0

  sent : last ≡ bs ++ drop (length bs) (lent 8 o)
  sent = e.1 ∙ ap (λ (n : ℕ). bs ++ drop n (lent 8 o)) counted

  -- the first file did not fit
  pub reply-full : (r : Answer) → s.count ≡ 0 → r ≡ answer (refuse BufferTooSmall) → Replied (page_reply v pool files page) r o (back 8 o last)
  unfolding page_reply
  reply-full r z a =
      let g : page.given ≡ [] = bytes-empty v pool page.given (sym counted ∙ z) in
      let k : back 8 o last ≡ o = front-none o bs last h sent (ap (rows_bytes v pool) g ∙ bytes-none v pool) in
      rw (some-file, g) (record { answered = a; output = k })

  -- some did
  pub reply-given : (r : Answer) (out : List ℕ) → (s.count ≡ 0 → ⊥) → out ≡ le 8 s.next ++ drop 8 (back 8 o last) → r ≡ record { status = Success; count = 8 + s.count }
      → Replied (page_reply v pool files page) r o out
  unfolding page_reply
  reply-given r out n p a =
      let m : length (le 8 page.next ++ bs) ≡ 8 + length bs = length_front page.next bs in
      let w = front-written o bs last h sent page.next out (p ∙ ap (λ (x : Sent). le 8 x.next ++ drop 8 (back 8 o last)) e.0) in
      let c : r ≡ record { status = Success; count = length (le 8 page.next ++ bs) } =
      a ∙ ap (λ (x : ℕ). record { status = Success; count = x }) (ap (λ (x : ℕ). 8 + x) counted ∙ sym m) in
      rw (some-file, given-some page.given refl) (record { answered = c; output = w })
    where
      given-some : (g : List Row) → page.given ≡ g → is_empty page.given ≡ false
      given-some [] q = absurd (n (counted ∙ ap (λ (x : List Row). length (rows_bytes v pool x)) q ∙ ap length (bytes-none v pool)))
      given-some (x ∷ g) q = ap is_empty q

  -- the bytes stand in the room that was lent
  pub sent-inside : length last ≡ length (lent 8 o) → s.count ≤ length (lent 8 o)
  sent-inside t = omega (arith, counted, t, ap length e.1, length-append bs (drop s.count (lent 8 o)))

-- ---- behind the checks

-- the input has its sizes
pub input-sized : (input : List ℕ) (room : ℕ) (v : Version) → Ok v ≡ chosen (input_check input room) (enum_version input) → (24 ≤ length input) × (8 ≤ room)
unfolding input_check
input-sized input room v o =
    let e = (told-use (input_check input room) (enum_version input) v o).0 in
    let short = unless (leb 24 (length input)) InvalidParameter in
    let small = unless (leb 8 room) BufferTooSmall in
    let k = else-right short (else (enum_versions input) small) e in (
      leb-true 24 (length input) (unless-true (leb 24 (length input)) InvalidParameter (else-left short (else (enum_versions input) small) e)),
      leb-true 8 room (unless-true (leb 8 room) BufferTooSmall (else-right (enum_versions input) small k)),
    )

-- the volume and the table
module _ (v : Volume) (table pool input : List ℕ) (room : ℕ) where
  pub without-support : v.journal ≡ 0 → enum_reply v table pool input room ≡ refuse InvalidDeviceRequest
  unfolding enum_reply enum_check
  without-support e = rw (eq-eqb v.journal 0 e)

  module _ (n : v.journal ≡ 0 → ⊥) where
    pub bad-table : right_table pool table ≡ false → enum_reply v table pool input room ≡ refuse FileCorruptError
    unfolding enum_reply enum_check
    bad-table g = rw (ne_eqb v.journal 0 n, g)

    pub good-reply : right_table pool table ≡ true → enum_reply v table pool input room ≡ guard (input_check input room) (files_reply (enum_version input) pool (query_in input) table room)
    unfolding enum_reply enum_check
    good-reply g = rw (ne_eqb v.journal 0 n, g)
