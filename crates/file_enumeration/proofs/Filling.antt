-- Files written to the output, one behind the other: one file's record, and the page so far.
-- Assumes nothing.
use mathlib.Core.Path.{◌≡◌, refl, sym, ap, ap₂, ◌∙◌, subst}
use mathlib.Core.Bool.{Bool, true, false, not, cond, ◌&&◌}
use mathlib.Core.List.{List, [], ◌∷◌, ◌++◌, append_assoc, append-nil, Memᴰ}
use Prim.Native.Nat.{ℕ, suc, ◌+◌, ◌-◌, ◌^◌, ◌≤◌, ◌<◌}
use native.Mathlib.Omega.{arith}
use native.Mathlib.Nat.{sub-zero}
use lib.Dec.{leb, ltb, eqb}
use lib.ListN.{length, take, drop, length-drop}
use lib.Seq.{drop-drop}
use borrow.Author.Tests.{leb-true, eqb-false, not-true}
use lib.Arith.{lt_of_le-ne}
use Rattle.le.specs.Numbers.{unle, number_at}
use Rattle.le.specs.Bytes.{Bytes}
use Rattle.le.proofs.Runs.{and_left, and_right}
use Rattle.le.proofs.Tail.{lent, back, lent-tail, Put, put_first, put_next, put-length}
use Rattle.std.specs.Prelude.{Result, Ok, Err, Option, None, Some}
use Rattle.status.specs.declared.Status.{Status}
use Rattle.status.specs.declared.Status.TheVariants.{Success, BufferTooSmall}
use Rattle.status.specs.Check.{unless, granted}
use Rattle.status.specs.Reply.{give, guard, told, Replied}
use Rattle.status.proofs.Replies.{given-ok, refused-err}
use Rattle.names.specs.Names.{good_in}
use Rattle.names.proofs.Names.{in-fits}
use Rattle.file_ids.specs.Ids.{id_number, id_bytes}
use Rattle.file_ids.proofs.Ids.{id-number}
use Rattle.usn_record.specs.declared.Version.{Version}
use Rattle.usn_record.specs.declared.Fields.{Fields}
use Rattle.usn_record.specs.Layout.{layout}
use Rattle.usn_record.proofs.Record.{length-layout}
use Rattle.records.proofs.Runs.{record-long}
use Rattle.record_writer.specs.Write.{copy_reply}
use Rattle.file_usn.specs.FileUsn.{current_fields}
use Rattle.file_usn.proofs.Writing.{parts, are-name, parts-short}
use Rattle.file_table.specs.Table.{Row, rows, row_name, good_row, right_table}
use Rattle.file_table.specs.Steps.{row_at, id_at}
use Rattle.file_table.proofs.Rows.{number-drop, run-bytes}
use Rattle.file_table.proofs.Places.{table-good, row-good}
use Rattle.file_enumeration.specs.Enumerate.{selects, files_of, row_fields, row_bytes, row_length, Page, page_of, rows_bytes, starting_at}
use Rattle.file_enumeration.specs.Steps.{Leads, given_bytes, Gives, Sends}
use Rattle.file_enumeration.specs.declared.Query.{Query}
use Rattle.file_enumeration.proofs.Ordering.{files-out}
use Rattle.file_enumeration.proofs.Selecting.{selected-low}

-- ---- one file

pub row-long : (v : Version) (pool : List ℕ) (r : Row) → 0 < length (row_bytes v pool r)
row-long v pool r =
    let l = record-long (record { version = v; fields = row_fields r; name = row_name pool r }) in
    omega (arith, l, length-layout v (row_fields r) (row_name pool r))

-- what copying a record comes to: its bytes and their length, if they fit
copied : (bytes out last : List ℕ) (r : Result ℕ Status) → 0 < length bytes → Replied (copy_reply bytes (length out)) (told r) out last
    → let given = cond (leb (length bytes) (length out)) bytes [] in
    (r ≡ granted (unless (leb (length bytes) (length out)) BufferTooSmall) (length given)) × (last ≡ given ++ drop (length given) out)
copied bytes out last r h p = by (leb (length bytes) (length out)) p
  where
    by : (b : Bool) → Replied (guard (unless b BufferTooSmall) (give Success bytes)) (told r) out last
        → let given = cond b bytes [] in (r ≡ granted (unless b BufferTooSmall) (length given)) × (last ≡ given ++ drop (length given) out)
    by true p = (given-ok r bytes h p.answered, p.output)
    by false p = (refused-err r BufferTooSmall (omega arith) p.answered, p.output)

module _ (pool s : List ℕ) (at : ℕ) (place n : ℕ) (p : place ≡ number_at s (at + 48) 8) (m : n ≡ number_at s (at + 44) 4) (g : good_row pool (row_at s at) ≡ true) where
  abbrev r : Row
  r = row_at s at

  same_place : r.place ≡ place
  same_place = number-drop s at 48 8 ∙ sym p

  same_length : r.length ≡ n
  same_length = number-drop s at 44 4 ∙ sym m

  named : good_in pool place n ≡ true
  unfolding good_row
  named =
      ap₂ (good_in pool) (sym same_place) (sym same_length)
      ∙ and_left (good_in pool r.place r.length) (ltb r.usn (2 ^ 63) && not (eqb (id_number r.id) (2 ^ 64 - 1))) g

  -- its name lies inside the pool, and is short
  pub give-fits : place + n ≤ length pool
  give-fits = in-fits pool place n named

  pub give-short : length (take (place + n - place) (drop place pool)) + length (take (place + n - (place + n)) (drop (place + n) pool)) ≤ 510
  give-short = parts-short pool place n named

  module _ (b : Bytes s) (h : at + 56 ≤ length s) (middle behind : ℕ) (c : middle ≡ at + 16) (d : behind ≡ at + 32) (file parent : List ℕ) (usn attributes : ℕ)
      (e : file ≡ id_bytes (unle (take (middle - at) (drop at s)))) (f : parent ≡ id_bytes (unle (take (behind - middle) (drop middle s))))
      (i : usn ≡ number_at s behind 8) (j : attributes ≡ number_at s (at + 40) 4) where
    -- the fields are those of the row
    fields-are : current_fields file parent usn attributes ≡ row_fields r
    fields-are =
        let x : file ≡ r.id = id-number s file at middle 16 c e ∙ run-bytes s b at (omega arith) in
        let q : behind ≡ middle + 16 = omega arith in
        let y : parent ≡ r.parent =
        id-number s parent middle behind 16 q f ∙ ap (λ (k : ℕ). id_bytes (number_at s k 16)) c ∙ run-bytes s b (at + 16) (omega arith) ∙ ap (take 16) (sym (drop-drop 16 at s)) in
        let u : usn ≡ r.usn = i ∙ ap (λ (k : ℕ). number_at s k 8) d ∙ sym (number-drop s at 32 8) in
        let v : attributes ≡ r.attributes = j ∙ sym (number-drop s at 40 4) in
        ap (λ (z : List ℕ). current_fields z parent usn attributes) x ∙ ap (λ (z : List ℕ). current_fields r.id z usn attributes) y
        ∙ ap (λ (z : ℕ). current_fields r.id r.parent z attributes) u ∙ ap (λ (z : ℕ). current_fields r.id r.parent r.usn z) v

    pub give-written : (v : Version) (fields : Fields) (out last : List ℕ) (a : Result ℕ Status) → fields ≡ current_fields file parent usn attributes
        → Replied (copy_reply (layout v fields (parts pool place n)) (length out)) (told a) out last → Gives v pool r out a last
    give-written v fields out last a t w =
        let k : layout v fields (parts pool place n) ≡ row_bytes v pool r =
        ap₂ (layout v) (t ∙ fields-are) (are-name pool place n ∙ ap₂ (λ (x y : ℕ). take y (drop x pool)) (sym same_place) (sym same_length)) in
        subst
        (λ (z : ℕ). let given = cond (leb z (length out)) (row_bytes v pool r) [] in
        (a ≡ granted (unless (leb z (length out)) BufferTooSmall) (length given)) × (last ≡ given ++ drop (length given) out))
        (length-layout v (row_fields r) (take r.length (drop r.place pool)))
        (copied (row_bytes v pool r) out last a (row-long v pool r) (subst (λ (x : List ℕ). Replied (copy_reply x (length out)) (told a) out last) k w))

-- the successor of a good row's id is one of 64 bits, if the id is
good-other : (pool : List ℕ) (r : Row) → good_row pool r ≡ true → id_number r.id ≡ 2 ^ 64 - 1 → ⊥
unfolding good_row
good-other pool r g =
    let other : Bool = eqb (id_number r.id) (2 ^ 64 - 1) in
    eqb-false (id_number r.id) (2 ^ 64 - 1)
    (not-true other (and_right (ltb r.usn (2 ^ 63)) (not other) (and_right (good_in pool r.place r.length) (ltb r.usn (2 ^ 63) && not other) g)))

-- ---- the page that begins with it

module _ (v : Version) (pool : List ℕ) (room next : ℕ) (r : Row) (rs : List Row) where
  abbrev rest : Page
  rest = page_of v pool (room - row_length v pool r) (suc (id_number r.id)) rs

  page-fits : leb (row_length v pool r) room ≡ true → page_of v pool room next (r ∷ rs) ≡ record { given = r ∷ rest.given; next = rest.next }
  unfolding page_of
  page-fits e = rw e

  page-full : leb (row_length v pool r) room ≡ false → page_of v pool room next (r ∷ rs) ≡ record { given = []; next = id_number r.id }
  unfolding page_of
  page-full e = rw e

page-none : (v : Version) (pool : List ℕ) (room next : ℕ) → page_of v pool room next [] ≡ record { given = []; next = next }
unfolding page_of
page-none v pool room next = refl

pub bytes-none : (v : Version) (pool : List ℕ) → rows_bytes v pool [] ≡ []
unfolding rows_bytes
bytes-none v pool = refl

bytes-more : (v : Version) (pool : List ℕ) (r : Row) (rs : List Row) → rows_bytes v pool (r ∷ rs) ≡ row_bytes v pool r ++ rows_bytes v pool rs
unfolding rows_bytes
bytes-more v pool r rs = refl

-- ---- the page so far

-- page `whole` is the bytes bs and the page `more`
abbrev Joins : Version → List ℕ → Page → List ℕ → Page → Type 0
Joins v pool whole bs more = (whole.next ≡ more.next) × (rows_bytes v pool whole.given ≡ bs ++ rows_bytes v pool more.given)

module _ (v : Version) (pool table o : List ℕ) (g : right_table pool table ≡ true) (q : Query) where
  abbrev page_at : ℕ → ℕ → Page
  page_at room next = page_of v pool room next (files_of (starting_at q next) table)

  -- `done` bytes are written, the files before the id `next` are given, and the next one, if there is one, stands at `at`
  pub record Filled (out : List ℕ) (next : ℕ) (at : Option ℕ) (done : ℕ) : Type 0 where
    pub room : done ≤ length o
    pub same : length out ≡ length o
    pub leads : Leads (starting_at q next) table at
    pub bytes : List ℕ
    pub put : Put o done bytes out
    pub page : Joins v pool (page_at (length o) q.start) bytes (page_at (length o - done) next)

  pub fill_start : (first : ℕ) → Leads q table (Some first) → Filled o q.start (Some first) 0
  fill_start first l =
      record { room = omega arith; same = refl; leads = l; bytes = []; put = put_first 0 [] o o refl refl; page = rw sub-zero (refl, refl) }

  -- the rest of the page is empty
  sends-all : (next done : ℕ) (bs out : List ℕ) → Joins v pool (page_at (length o) q.start) bs (record { given = []; next = next }) → Put o done bs out
      → Sends v pool (page_at (length o) q.start) o (record { next = next; count = done }) out
  sends-all next done bs out j k =
      let whole : Page = page_at (length o) q.start in
      let b : rows_bytes v pool whole.given ≡ bs = j.1 ∙ ap (λ (y : List ℕ). bs ++ y) (bytes-none v pool) ∙ append-nil bs in
      let n : done ≡ length (rows_bytes v pool whole.given) = sym k.size ∙ sym (ap length b) in
      (ap₂ (λ (x y : ℕ). record { next = x; count = y }) (sym j.0) n, k.whole ∙ ap (λ (y : List ℕ). y ++ drop done o) (sym b))

  -- what a turn comes to, in which the file at `at`, with this id, was given, or did not fit
  pub record Turned (out : List ℕ) (next at done id : ℕ) (answer : Result ℕ Status) (last : List ℕ) : Type 0 where
    pub inside : at + 56 ≤ length table
    pub own : id ≡ id_at table at
    pub successor : id + 1 < 2 ^ 64
    pub same : length (back done out last) ≡ length o
    pub cut : (x : Status) → answer ≡ Err x → Sends v pool (page_at (length o) q.start) o (record { next = id; count = done }) (back done out last)
    pub room : (count : ℕ) → answer ≡ Ok count → (0 < count) × (done + count ≤ length o)
    pub onward : (count : ℕ) → answer ≡ Ok count → (later : Option ℕ) → Leads (starting_at q (id + 1)) table later
        → Filled (back done out last) (id + 1) later (done + count)

  pub fill_end : (out : List ℕ) (next done : ℕ) → Filled out next None done
      → Sends v pool (page_at (length o) q.start) o (record { next = next; count = done }) out
  fill_end out next done i =
      let n : page_at (length o - done) next ≡ record { given = []; next = next } =
      ap (page_of v pool (length o - done) next) i.leads ∙ page-none v pool (length o - done) next in
      sends-all next done i.bytes out (subst (Joins v pool (page_at (length o) q.start) i.bytes) n i.page) i.put

  module _ (out : List ℕ) (next at done : ℕ) (i : Filled out next (Some at) done) where
    pub fill-inside : at + 56 ≤ length table
    fill-inside = i.leads.1

    pub fill-good : good_row pool (row_at table at) ≡ true
    fill-good = row-good table at i.leads.2 fill-inside pool (table-good pool table g)

    -- the file that a turn meets, and those behind it
    met : files_of (starting_at q next) table ≡ row_at table at ∷ files_of (starting_at q (suc (id_at table at))) table
    met = i.leads.0

    chosen : selects (starting_at q next) (row_at table at) ≡ true
    chosen = (files-out (starting_at q next) (rows table) (row_at table at) (subst (λ (l : List Row). Memᴰ (row_at table at) l) (sym met) (Memᴰ.head refl))).1

    module _ (id : ℕ) (e : id ≡ number_at table at 8) (f : id < 256 ^ 8) where
      fill-id : id ≡ id_at table at
      fill-id = e ∙ sym (selected-low table at fill-inside (starting_at q next) chosen)

      fill-next-id : id + 1 < 2 ^ 64
      fill-next-id =
          let n : id ≡ 2 ^ 64 - 1 → ⊥ = λ z. good-other pool (row_at table at) fill-good (sym fill-id ∙ z) in
          let l : id < 2 ^ 64 - 1 = lt_of_le-ne (omega (arith, f)) n in
          omega (arith, l)

      module _ (answer : Result ℕ Status) (last : List ℕ) (w : Gives v pool (row_at table at) (lent done out) answer last) where
        abbrev left : ℕ
        left = length o - done

        abbrev given : List ℕ
        given = given_bytes v pool left (row_at table at)

        abbrev fitting : Bool
        fitting = leb (row_length v pool (row_at table at)) left

        lent_length : length (lent done out) ≡ left
        lent_length =
            let s = i.same in
            let m = i.room in
            ap length (lent-tail done out (omega (arith, s, m))) ∙ length-drop done out ∙ omega (arith, s)

        answers : (answer ≡ granted (unless fitting BufferTooSmall) (length given)) × (last ≡ given ++ drop (length given) (lent done out))
        answers =
            subst
            (λ (n : ℕ). let bytes = given_bytes v pool n (row_at table at) in
            (answer ≡ granted (unless (leb (row_length v pool (row_at table at)) n) BufferTooSmall) (length bytes)) × (last ≡ bytes ++ drop (length bytes) (lent done out)))
            lent_length w

        given-length : length given ≤ left
        given-length = by fitting refl
          where
            by : (t : Bool) → leb (row_length v pool (row_at table at)) left ≡ t → length (cond t (row_bytes v pool (row_at table at)) []) ≤ left
            by true t = omega (arith, leb-true (row_length v pool (row_at table at)) left t, length-layout v (row_fields (row_at table at)) (row_name pool (row_at table at)))
            by false t = omega arith

        fill-room : done + length given ≤ length o
        fill-room = omega (arith, given-length, i.room)

        put-more : Put o (done + length given) (i.bytes ++ given) (back done out last)
        put-more = put_next i.put (length given) given last refl fill-room answers.1

        fill-same : length (back done out last) ≡ length o
        fill-same = put-length put-more fill-room

        -- it did not fit
        fill-cut : (x : Status) → answer ≡ Err x → Sends v pool (page_at (length o) q.start) o (record { next = id; count = done }) (back done out last)
        fill-cut x z = by fitting refl (sym z ∙ answers.0)
          where
            by : (t : Bool) → fitting ≡ t → Err x ≡ granted (unless t BufferTooSmall) (length given)
                → Sends v pool (page_at (length o) q.start) o (record { next = id; count = done }) (back done out last)
            by true t c = let n : ◌≡◌ {A = ℕ} 0 1 = cc in absurd (omega arith)
            by false t c =
                let n : given ≡ [] = ap (λ (x : Bool). cond x (row_bytes v pool (row_at table at)) []) t in
                let m : done + length given ≡ done = omega (arith, ap length n) in
                let a : i.bytes ++ given ≡ i.bytes = ap (λ (y : List ℕ). i.bytes ++ y) n ∙ append-nil i.bytes in
                let p : Put o done i.bytes (back done out last) =
                subst (λ (y : ℕ). Put o y i.bytes (back done out last)) m (subst (λ (y : List ℕ). Put o (done + length given) y (back done out last)) a put-more) in
                let k : page_at left next ≡ record { given = []; next = id } =
                ap (page_of v pool left next) met ∙ page-full v pool left next (row_at table at) (files_of (starting_at q (suc (id_at table at))) table) t
                ∙ ap (λ (y : ℕ). record { given = []; next = y }) (sym fill-id) in
                sends-all id done i.bytes (back done out last) (subst (Joins v pool (page_at (length o) q.start) i.bytes) k i.page) p

        -- it did
        module _ (count : ℕ) (z : answer ≡ Ok count) where
          fitted : (fitting ≡ true) × (count ≡ length given)
          fitted = by fitting refl (sym z ∙ answers.0)
            where
              by : (t : Bool) → fitting ≡ t → Ok count ≡ granted (unless t BufferTooSmall) (length given) → (fitting ≡ true) × (count ≡ length given)
              by true t c = let n : count ≡ length given = cc in (t, n)
              by false t c = let n : ◌≡◌ {A = ℕ} 0 1 = cc in absurd (omega arith)

          given-whole : given ≡ row_bytes v pool (row_at table at)
          given-whole = ap (λ (x : Bool). cond x (row_bytes v pool (row_at table at)) []) fitted.0

          counted : (0 < count) × (done + count ≤ length o)
          counted = (omega (arith, fitted.1, ap length given-whole, row-long v pool (row_at table at)), omega (arith, fitted.1, fill-room))

          fill-next : (later : Option ℕ) → Leads (starting_at q (id + 1)) table later → Filled (back done out last) (id + 1) later (done + count)
          fill-next later l =
              let r : Row = row_at table at in
              let files : List Row = files_of (starting_at q (suc (id_at table at))) table in
              let m : left - row_length v pool r ≡ length o - (done + count) =
              omega (arith, fitted.1, ap length given-whole, length-layout v (row_fields r) (row_name pool r)) in
              let s : suc (id_at table at) ≡ id + 1 = omega (arith, fill-id) in
              let k : page_at left next ≡ record { given = r ∷ (rest v pool left next r files).given; next = (rest v pool left next r files).next } =
              ap (page_of v pool left next) met ∙ page-fits v pool left next r files fitted.0 in
              let same : rest v pool left next r files ≡ page_at (length o - (done + count)) (id + 1) =
              ap (λ (x : ℕ). page_of v pool x (suc (id_at table at)) files) m ∙ ap (λ (x : ℕ). page_of v pool (length o - (done + count)) x (files_of (starting_at q x) table)) s in
              let j = subst (Joins v pool (page_at (length o) q.start) i.bytes) k i.page in
              record {
                room = counted.1;
                same = fill-same;
                leads = l;
                bytes = i.bytes ++ given;
                put = subst (λ (y : ℕ). Put o (done + y) (i.bytes ++ given) (back done out last)) (sym fitted.1) put-more;
                page = (
                  j.0 ∙ ap (λ (x : Page). x.next) same,
                  j.1 ∙ ap (λ (y : List ℕ). i.bytes ++ y) (bytes-more v pool r (rest v pool left next r files).given) ∙ sym (append_assoc i.bytes (row_bytes v pool r) (rows_bytes v pool (rest v pool left next r files).given))
                      ∙ ap₂ (λ (x : List ℕ) (y : Page). (i.bytes ++ x) ++ rows_bytes v pool y.given) (sym given-whole) same,
                );
              }

        pub turned : Turned out next at done id answer last
        turned =
            record { inside = fill-inside; own = fill-id; successor = fill-next-id; same = fill-same; cut = fill-cut; room = counted; onward = fill-next }
