-- Following the u64 of each reply comes to an end, and gives each selected file once.
-- Assumes nothing.
use mathlib.Core.Path.{◌≡◌, refl, sym, ap, ◌∙◌, subst}
use mathlib.Core.Logic.{◌⊎◌, inl, inr}
use mathlib.Core.Bool.{Bool, true, false, not, cond}
use Rattle.std.specs.Prelude.{Option, None, Some}
use mathlib.Core.List.Memᴰ
use mathlib.Core.List.{List, [], ◌∷◌, ◌++◌, map, map-append, Memᴰ, tail-eq_of_cons-eq}
use Prim.Native.Nat.{ℕ, zero, suc, ◌+◌, ◌-◌, ◌^◌, ◌≤◌, ◌<◌}
use native.Mathlib.Omega.{arith}
use lib.Dec.{leb, lit<}
use lib.ListN.{length, take, drop, length-append}
use lib.Seq.{take_at, drop_at, drop-drop}
use borrow.Author.Tests.{leb-true, leb-false, le-leb, lt-leb}
use Rattle.le.specs.Numbers.{le, unle, number_at}
use Rattle.le.specs.Bytes.{Bytes}
use Rattle.le.proofs.Numbers.{unle-le, length-le}
use Rattle.status.specs.declared.Status.{Status}
use Rattle.status.specs.declared.Status.TheVariants.{Success, InvalidParameter, InvalidDeviceRequest, EndOfFile, BufferTooSmall, FileCorruptError}
use Rattle.status.specs.Check.{unless, else}
use Rattle.status.specs.Reply.{Reply, refuse, give, guard}
use Rattle.file_ids.specs.Ids.{id_number}
use Rattle.volume.specs.declared.Volume.{Volume}
use Rattle.volume.specs.State.{supported}
use Rattle.usn_record.specs.declared.Version.{Version}
use Rattle.usn_record.specs.declared.Version.TheVariants.{V2, V3}
use Rattle.usn_record.specs.Version.{version_check, versions_in}
use Rattle.usn_record.specs.Layout.{shown, shows, layout, Record, in_version}
use Rattle.usn_record.proofs.Record.{record-short}
use Rattle.record_reader.proofs.Judge.{shown-same, shown-lt, shown-shown}
use Rattle.record_reader.proofs.RoundTrip.{shown_record}
use Rattle.record_reader.proofs.Sound.{Sound}
use Rattle.records.specs.Records.{Records, whole, record_list, joined}
use Rattle.records.proofs.Runs.{AllSound}
use Rattle.reply_walker.specs.Reply.{position_of, records_of}
use Rattle.reply_walker.proofs.Replies.{reply-read}
use Rattle.file_table.specs.Table.{Row, rows, row_name, distinct, right_table, rising}
use Rattle.file_table.proofs.Rising.{rising-below}
use Rattle.file_table.proofs.Places.{table-distinct, Right, right-row}
use Rattle.file_enumeration.specs.declared.Query.{Query}
use Rattle.file_enumeration.specs.Enumerate.{query_in, enum_version, selects, selected, by_id, files_of, row_fields, row_bytes, row_length, Page, page_of, rows_bytes, is_empty, input_check, enum_check, page_reply, files_reply, enum_reply, starting_at}
use Rattle.file_enumeration.specs.Follow.{Turn, Ample, input_of, Given, goes_on, follow, all_records, record_of, Followed, Sized, Enumerates}
use Rattle.file_enumeration.proofs.Ordering.{files-rise, files-in, files-out, least_first, start-raised, listed}
use Rattle.file_enumeration.proofs.Selecting.{selects-narrow, next_fits}

-- ---- the input of a turn

-- a number behind a first part
number_behind : (a b : List ℕ) (k at w : ℕ) → length a ≡ k → number_at (a ++ b) (k + at) w ≡ number_at b at w
unfolding number_at
number_behind a b k at w e = ap (λ (s : List ℕ). unle (take w s)) (sym (drop-drop at k (a ++ b)) ∙ ap (drop at) (drop_at a b k e))

-- a number at the start
number-first : (n : ℕ) (b : List ℕ) → n < 2 ^ 64 → number_at (le 8 n ++ b) 0 8 ≡ n
unfolding number_at
number-first n b h = ap unle (take_at (le 8 n) b 8 (length-le 8 n)) ∙ unle-le 8 n h

module _ (q : Query) (t : Turn) where
  abbrev high-on : List ℕ
  high-on = le 8 q.high ++ t.versions

  abbrev low-on : List ℕ
  low-on = le 8 q.low ++ high-on

  length-input : length (input_of q t) ≡ 24 + length t.versions
  length-input =
      omega (
        arith,
        length-append (le 8 q.start) low-on,
        length-append (le 8 q.low) high-on,
        length-append (le 8 q.high) t.versions,
        length-le 8 q.start,
        length-le 8 q.low,
        length-le 8 q.high,
      )

  query-back : Sized q → query_in (input_of q t) ≡ q
  query-back z =
      let a : number_at (input_of q t) 0 8 ≡ q.start = number-first q.start low-on z.start in
      let b : number_at (input_of q t) 8 8 ≡ q.low = number_behind (le 8 q.start) low-on 8 0 8 (length-le 8 q.start) ∙ number-first q.low high-on z.low in
      let c : number_at (input_of q t) 16 8 ≡ q.high =
      number_behind (le 8 q.start) low-on 8 8 8 (length-le 8 q.start) ∙ number_behind (le 8 q.low) high-on 8 0 8 (length-le 8 q.low)
      ∙ number-first q.high t.versions z.high in
      ap (λ (n : ℕ). record { start = n; low = number_at (input_of q t) 8 8; high = number_at (input_of q t) 16 8 }) a
      ∙ ap (λ (n : ℕ). record { start = q.start; low = n; high = number_at (input_of q t) 16 8 }) b
      ∙ ap (λ (n : ℕ). record { start = q.start; low = q.low; high = n }) c

  -- what stands behind the query
  behind : (at w : ℕ) → number_at (input_of q t) (8 + (8 + (8 + at))) w ≡ number_at t.versions at w
  behind at w =
      number_behind (le 8 q.start) low-on 8 (8 + (8 + at)) w (length-le 8 q.start)
      ∙ number_behind (le 8 q.low) high-on 8 (8 + at) w (length-le 8 q.low)
      ∙ number_behind (le 8 q.high) t.versions 8 at w (length-le 8 q.high)

  long-enough : (n : ℕ) → leb 32 (24 + n) ≡ leb 8 n
  long-enough n = go (leb 8 n) refl
    where
      go : (b : Bool) → leb 8 n ≡ b → leb 32 (24 + n) ≡ b
      go true e = le-leb 32 (24 + n) (omega (arith, leb-true 8 n e))
      go false e = lt-leb 32 (24 + n) (omega (arith, leb-false 8 n e))

  versions-back : versions_in 32 24 (input_of q t) ≡ versions_in 8 0 t.versions
  versions-back =
      ap (λ (b : Bool). cond b (version_check (number_at (input_of q t) 24 2) (number_at (input_of q t) 26 2)) None) (ap (leb 32) length-input ∙ long-enough (length t.versions))
      ∙ ap (λ (n : ℕ). cond (leb 8 (length t.versions)) (version_check n (number_at (input_of q t) 26 2)) None) (behind 0 2)
      ∙ ap (λ (n : ℕ). cond (leb 8 (length t.versions)) (version_check (number_at t.versions 0 2) n) None) (behind 2 2)

  -- it is not refused
  input-passes : versions_in 8 0 t.versions ≡ None → 600 ≤ t.room → input_check (input_of q t) t.room ≡ None
  unfolding input_check
  input-passes e h =
      ap (λ (b : Bool). else (unless b InvalidParameter) (else (versions_in 32 24 (input_of q t)) (unless (leb 8 t.room) BufferTooSmall)))
      (le-leb 24 (length (input_of q t)) (omega (arith, length-input)))
      ∙ ap (λ (k : Option Status). else k (unless (leb 8 t.room) BufferTooSmall)) (versions-back ∙ e)
      ∙ ap (λ (b : Bool). unless b BufferTooSmall) (le-leb 8 t.room (omega (arith, h)))

  module _ (v : Volume) (table pool : List ℕ) (s : supported v.journal ≡ true) (g : right_table pool table ≡ true) (z : Sized q) (e : versions_in 8 0 t.versions ≡ None) (h : 600 ≤ t.room) where
    turn-passes : enum_check v table pool (input_of q t) t.room ≡ None
    unfolding enum_check
    turn-passes =
        ap (λ (b : Bool). else (unless b InvalidDeviceRequest) (else (unless (right_table pool table) FileCorruptError) (input_check (input_of q t) t.room))) s
        ∙ ap (λ (b : Bool). else (unless b FileCorruptError) (input_check (input_of q t) t.room)) g
        ∙ input-passes e h

    -- so the reply is that of the query
    turn-reply : enum_reply v table pool (input_of q t) t.room ≡ files_reply (enum_version (input_of q t)) pool q table t.room
    unfolding enum_reply
    turn-reply =
        ap (λ (k : Option Status). guard k (files_reply (enum_version (input_of q t)) pool (query_in (input_of q t)) table t.room)) turn-passes
        ∙ ap (λ (y : Query). files_reply (enum_version (input_of q t)) pool y table t.room) (query-back z)

-- ---- the page

-- behind the first file there are those from its successor on
pub first_taken : (q : Query) (rs : List Row) (r : Row) (more : List Row) → distinct rs ≡ true → by_id (selected q rs) ≡ r ∷ more
    → by_id (selected (starting_at q (suc (id_number r.id))) rs) ≡ more
first_taken q rs r more d e =
    let k = files-out q rs r (subst (Memᴰ r) (sym e) (Memᴰ.head refl)) in
    sym (tail-eq_of_cons-eq (sym e ∙ least_first q rs r d k.0 k.1 (λ x m s. least x (Memᴰ.cases_cons (subst (Memᴰ x) e (in-files x m s))))))
  where
    in-files : (x : Row) → Memᴰ x rs → selects q x ≡ true → Memᴰ x (by_id (selected q rs))
    in-files x m s = files-in q rs x m s

    rise : rising (r ∷ more) ≡ true
    rise = sym (ap rising e) ∙ files-rise q rs d

    least : (x : Row) → (x ≡ r) ⊎ Memᴰ x more → id_number r.id ≤ id_number x.id
    least x (inl p) = let k : id_number x.id ≡ id_number r.id = ap (λ (y : Row). id_number y.id) p in omega (arith, k)
    least x (inr p) = omega (arith, rising-below r more rise x p)

-- files are those of a page and the rest, and the rest are the files from the page's id on
pub record Cut (q : Query) (rs files : List Row) (page : Page) : Type 0 where
  pub rest : List Row
  pub parts : files ≡ page.given ++ rest
  pub after : by_id (selected (starting_at q page.next) rs) ≡ rest
  pub next : page.next < 2 ^ 64

module _ (w : Version) (pool : List ℕ) (q : Query) (rs : List Row) (d : distinct rs ≡ true)
    (small : (x : Row) → Memᴰ x rs → (k : Query) → selects k x ≡ true → suc (id_number x.id) < 2 ^ 64) where
  pub page-cut : (files : List Row) (room n : ℕ) → n < 2 ^ 64 → by_id (selected (starting_at q n) rs) ≡ files → Cut q rs files (page_of w pool room n files)
  unfolding page_of
  page-cut [] room n h e = record { rest = []; parts = refl; after = e; next = h }
  page-cut (r ∷ files) room n h e =
      let k = files-out (starting_at q n) rs r (subst (Memᴰ r) (sym e) (Memᴰ.head refl)) in
      let l = small r k.0 (starting_at q n) k.1 in
      go l (leb (row_length w pool r) room)
      (page-cut files (room - row_length w pool r) (suc (id_number r.id)) l (first_taken (starting_at q n) rs r files d e))
    where
      go : suc (id_number r.id) < 2 ^ 64 → (b : Bool) → (c : Cut q rs files (page_of w pool (room - row_length w pool r) (suc (id_number r.id)) files))
          → Cut q rs (r ∷ files)
          (cond b
          (record { given = r ∷ (page_of w pool (room - row_length w pool r) (suc (id_number r.id)) files).given; next = (page_of w pool (room - row_length w pool r) (suc (id_number r.id)) files).next })
          (record { given = []; next = id_number r.id }))
      go l true c = record { rest = c.rest; parts = ap (λ (t : List Row). r ∷ t) c.parts; after = c.after; next = c.next }
      go l false c = record { rest = r ∷ files; parts = refl; after = start-raised (starting_at q n) rs r files d e; next = omega (arith, l) }

-- the first file is given if it fits
page-first : (w : Version) (pool : List ℕ) (room n : ℕ) (r : Row) (files : List Row) → row_length w pool r ≤ room
    → (more : List Row) × ((page_of w pool room n (r ∷ files)).given ≡ r ∷ more)
unfolding page_of
page-first w pool room n r files h =
    let rest = page_of w pool (room - row_length w pool r) (suc (id_number r.id)) files in (
      rest.given,
      ap (λ (b : Bool). (cond {A = Page} b (record { given = r ∷ rest.given; next = rest.next }) (record { given = []; next = id_number r.id })).given)
          (le-leb (row_length w pool r) room h),
    )

reply-end : (w : Version) (pool : List ℕ) (page : Page) → page_reply w pool [] page ≡ refuse EndOfFile
unfolding page_reply
reply-end w pool page = refl

reply-given : (w : Version) (pool : List ℕ) (r : Row) (files : List Row) (page : Page) (x : Row) (more : List Row) → page.given ≡ x ∷ more
    → page_reply w pool (r ∷ files) page ≡ give Success (le 8 page.next ++ rows_bytes w pool page.given)
unfolding page_reply
reply-given w pool r files page x more e =
    ap (λ (l : List Row). guard (unless (not (is_empty l)) BufferTooSmall) (give Success (le 8 page.next ++ rows_bytes w pool page.given))) e

-- ---- the records of a reply

-- the record that is read of a row
abbrev row_record : Version → List ℕ → Row → Record
row_record w pool r = shown_record w (row_fields r) (row_name pool r)

row_written : (w : Version) (pool : List ℕ) (r : Row) → row_bytes w pool r ≡ layout w (row_record w pool r).fields (row_name pool r)
unfolding layout
row_written w pool r = rw (shown-shown r.attributes)

rows_written : (w : Version) (pool : List ℕ) (rs : List Row) → rows_bytes w pool rs ≡ joined (map (row_record w pool) rs)
unfolding rows_bytes joined
rows_written w pool [] = refl
rows_written w pool (r ∷ rs) =
    ap (λ (s : List ℕ). s ++ rows_bytes w pool rs) (row_written w pool r)
    ∙ ap (λ (s : List ℕ). layout w (row_record w pool r).fields (row_name pool r) ++ s) (rows_written w pool rs)

shown-marked : (a : ℕ) → shown a ≡ 0 → ⊥
shown-marked zero e = omega (arith, e)
shown-marked (suc a) e = omega (arith, shown-same (suc a) (λ z. omega (arith, z)), e)

row-visible : (w : Version) (q : Query) (r : Row) → selects q r ≡ true → shows w (row_fields r) ≡ true
row-visible V2 q r e = selects-narrow q r e
row-visible V3 q r e = refl

row-sound : (w : Version) (pool : List ℕ) (q : Query) (r : Row) → Right pool r → selects q r ≡ true → Sound (row_record w pool r)
row-sound w pool q r k e =
    record {
      sized =
          record {
            file = k.id;
            parent = k.parent;
            usn = k.usn;
            time = lit< tt;
            reason = lit< tt;
            source = lit< tt;
            security = lit< tt;
            attributes = shown-lt r.attributes k.attributes;
          };
      visible = row-visible w q r e;
      named = k.named;
      marked = shown-marked r.attributes;
    }

rows-sound : (w : Version) (pool : List ℕ) (q : Query) (rs : List Row) → ((r : Row) → Memᴰ r rs → Right pool r × (selects q r ≡ true)) → AllSound (map (row_record w pool) rs)
rows-sound w pool q [] h = tt
rows-sound w pool q (r ∷ rs) h =
    let k = h r (Memᴰ.head refl) in
    (row-sound w pool q r k.0 k.1, rows-sound w pool q rs (λ x m. h x (Memᴰ.tail m)))

-- as version 3 shows them
rows-shown : (w : Version) (pool : List ℕ) (rs : List Row) → map (in_version V3) (map (row_record w pool) rs) ≡ map (record_of pool) rs
rows-shown w pool [] = refl
rows-shown w pool (r ∷ rs) = ap (λ (l : List Record). record_of pool r ∷ l) (rows-shown w pool rs)

-- ---- following

module _ (v : Volume) (table pool : List ℕ) where
  -- a refusal is the last
  follow-end : (q : Query) (t : Turn) (ts : List Turn) (x : Status) → enum_reply v table pool (input_of q t) t.room ≡ refuse x
      → follow v table pool q (t ∷ ts) ≡ record { replies = []; refusal = Some x }
  unfolding follow
  follow-end q t ts x e = ap (λ (r : Reply). goes_on r (λ (bytes : List ℕ). follow v table pool (starting_at q (position_of bytes)) ts)) e

  -- behind a reply it goes on
  follow-more : (q : Query) (t : Turn) (ts : List Turn) (x : Status) (s : List ℕ) (n : ℕ) → enum_reply v table pool (input_of q t) t.room ≡ give x s → position_of s ≡ n
      → follow v table pool q (t ∷ ts)
      ≡ record { replies = s ∷ (follow v table pool (starting_at q n) ts).replies; refusal = (follow v table pool (starting_at q n) ts).refusal }
  unfolding follow
  follow-more q t ts x s n e p =
      ap (λ (r : Reply). goes_on r (λ (bytes : List ℕ). follow v table pool (starting_at q (position_of bytes)) ts)) e
      ∙ ap (λ (m : ℕ). record { replies = s ∷ (follow v table pool (starting_at q m) ts).replies; refusal = (follow v table pool (starting_at q m) ts).refusal }) p

  -- what the replies and the refusal tell
  made : (q : Query) (ts : List Turn) (g : Given) → follow v table pool q ts ≡ g → g.refusal ≡ Some EndOfFile → length g.replies ≤ length (files_of q table)
      → map (in_version V3) (all_records g.replies) ≡ map (record_of pool) (files_of q table)
      → Followed v table pool q ts
  made q ts g e a b c =
      record {
        ended = ap (λ (x : Given). x.refusal) e ∙ a;
        calls = subst (λ (x : Given). length x.replies ≤ length (files_of q table)) (sym e) b;
        files = ap (λ (x : Given). map (in_version V3) (all_records x.replies)) e ∙ c;
      }

  module _ (s : supported v.journal ≡ true) (g : right_table pool table ≡ true) (b : Bytes table) where
    right-file : (q : Query) (r : Row) → Memᴰ r (files_of q table) → Right pool r × (selects q r ≡ true)
    right-file q r m = let k = files-out q (rows table) r m in (right-row pool table g b r k.0, k.1)

    -- one turn with files left
    module _ (q : Query) (t : Turn) (z : Sized q) (e : versions_in 8 0 t.versions ≡ None) (h : 600 ≤ t.room) (r : Row) (files : List Row) (l : files_of q table ≡ r ∷ files) where
      abbrev w : Version
      w = enum_version (input_of q t)

      abbrev page : Page
      page = page_of w pool (t.room - 8) q.start (r ∷ files)

      cut : Cut q (rows table) (r ∷ files) page
      cut =
          page-cut w pool q (rows table) (table-distinct pool table g) (λ x m k y. next_fits pool k x (right-row pool table g b x m) y) (r ∷ files) (t.room - 8) q.start
          z.start l

      fits : row_length w pool r ≤ t.room - 8
      fits =
          let k = (right-file q r (subst (Memᴰ r) (sym l) (Memᴰ.head refl))).0 in
          omega (arith, record-short w (row_name pool r) k.named, h)

      first : (more : List Row) × (page.given ≡ r ∷ more)
      first = page-first w pool (t.room - 8) q.start r files fits

      abbrev bytes : List ℕ
      bytes = le 8 page.next ++ rows_bytes w pool page.given

      replied : enum_reply v table pool (input_of q t) t.room ≡ give Success bytes
      replied =
          turn-reply q t v table pool s g z e h
          ∙ ap (λ (fs : List Row). page_reply w pool fs (page_of w pool (t.room - 8) q.start fs)) l
          ∙ reply-given w pool r files page r first.0 first.1

      given-file : (x : Row) → Memᴰ x page.given → Right pool x × (selects q x ≡ true)
      given-file x m = right-file q x (subst (Memᴰ x) (sym (l ∙ cut.parts)) (Memᴰ.append_left cut.rest m))

      read : (records_of bytes ≡ whole (map (row_record w pool) page.given)) × (position_of bytes ≡ page.next)
      read =
          subst (λ (y : List ℕ). (records_of (le 8 page.next ++ y) ≡ whole (map (row_record w pool) page.given)) × (position_of (le 8 page.next ++ y) ≡ page.next))
          (sym (rows_written w pool page.given))
          (reply-read page.next (map (row_record w pool) page.given) cut.next (rows-sound w pool q page.given given-file))

      -- the files are those given and the rest
      shorter : length (files_of q table) ≡ suc (length first.0) + length cut.rest
      shorter = ap length (l ∙ cut.parts ∙ ap (λ (y : List Row). y ++ cut.rest) first.1) ∙ length-append (r ∷ first.0) cut.rest

      rest-files : files_of (starting_at q page.next) table ≡ cut.rest
      rest-files = cut.after

      step : (ts : List Turn) → Followed v table pool (starting_at q page.next) ts → Followed v table pool q (t ∷ ts)
      step ts f =
          let more = follow v table pool (starting_at q page.next) ts in
          let all : List Record = all_records more.replies in
          let c : length more.replies ≤ length cut.rest = subst (λ (y : List Row). length more.replies ≤ length y) rest-files f.calls in
          let d : map (in_version V3) all ≡ map (record_of pool) cut.rest = f.files ∙ ap (map (record_of pool)) rest-files in
          made q (t ∷ ts) (record { replies = bytes ∷ more.replies; refusal = more.refusal }) (follow-more q t ts Success bytes page.next replied read.1) f.ended
          (omega (arith, c, shorter))
          (ap (λ (y : Records). map (in_version V3) (record_list y ++ all)) read.0
          ∙ map-append (in_version V3) (map (row_record w pool) page.given) all
          ∙ ap (λ (y : List Record). y ++ map (in_version V3) all) (rows-shown w pool page.given)
          ∙ ap (λ (y : List Record). map (record_of pool) page.given ++ y) d
          ∙ sym (map-append (record_of pool) page.given cut.rest)
          ∙ ap (map (record_of pool)) (sym (l ∙ cut.parts)))

    -- a turn with none left
    none_left : (q : Query) (t : Turn) (ts : List Turn) → Sized q → versions_in 8 0 t.versions ≡ None → 600 ≤ t.room → files_of q table ≡ [] → Followed v table pool q (t ∷ ts)
    none_left q t ts z e h l =
        let w = enum_version (input_of q t) in
        made q (t ∷ ts) (record { replies = []; refusal = Some EndOfFile })
        (follow-end q t ts EndOfFile
        (turn-reply q t v table pool s g z e h
        ∙ ap (λ (fs : List Row). page_reply w pool fs (page_of w pool (t.room - 8) q.start fs)) l
        ∙ reply-end w pool (page_of w pool (t.room - 8) q.start [])))
        refl (omega arith) (ap (map (record_of pool)) (sym l))

    pub followed-all : (ts : List Turn) (q : Query) → Sized q → Ample ts → length (files_of q table) < length ts → Followed v table pool q ts
    followed-all [] q z a n = absurd (omega (arith, n))
    followed-all (t ∷ ts) q z a n = go (files_of q table) refl (followed-all ts)
      where
        go : (files : List Row) → files_of q table ≡ files
            → ((k : Query) → Sized k → Ample ts → length (files_of k table) < length ts → Followed v table pool k ts)
            → Followed v table pool q (t ∷ ts)
        go [] l ih = none_left q t ts z a.0 a.1 l
        go (r ∷ files) l ih =
            let c = cut q t z a.0 a.1 r files l in
            let k : Query = starting_at q (page q t z a.0 a.1 r files l).next in
            let f : files_of k table ≡ c.rest = rest-files q t z a.0 a.1 r files l in
            let m = shorter q t z a.0 a.1 r files l in
            step q t z a.0 a.1 r files l ts
            (ih k (record { start = c.next; low = z.low; high = z.high }) a.2 (omega (arith, ap length f, m, n)))

-- ---- the promise

pub enumerates : Enumerates
enumerates = record { listed = listed; followed = λ v table pool q ts s g b z a n. followed-all v table pool s g b ts q z a n }
